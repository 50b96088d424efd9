-- Answers that are passed on by a keeper over its rows in memory.
use Rattle.std.specs.Prelude.{IfOk, OnOk, OnErr}
use Rattle.std.specs.Result.{IsErr}
use Rattle.std.proofs.Common.{◌≡◌, sym, subst, Result, Ok, Err}
use Rattle.std.proofs.lemmas.Bool.{true≢false}
use Rattle.mr_model.specs.Replica.{Replica}
use Rattle.mr_model.specs.Tables.{Stands}
use Rattle.mr_store.specs.declared.keeper.Fault.{Fault}
use Rattle.mr_store.specs.KeeperCalls.{failures_after, IsQuiet}
use Rattle.mr_store.specs.KeeperLists.{ListsView}

-- what holds of an answer holds of the one that is passed on
pub passed_on : {T E F : Type 0} (P : T → Type 0) (answer : Result T E) (r : Result T F) → IfOk answer (λ x. r ≡ Ok x) → OnErr answer (IsErr r) → IfOk answer P → IfOk r P
passed_on P (Ok x) r is err h = subst (λ r. IfOk r P) (sym is) h
passed_on P (Err e) (Ok y) is err h = absurd (true≢false (sym err))
passed_on P (Err e) (Err f) is err h = tt

always : {T E : Type 0} (r : Result T E) → OnOk r (Unit {0})
always (Ok x) = tt
always (Err e) = tt

-- a call that leaves the tables, and counts a failure only of tables that stand for no replica
pub quiet_lists : {X : Type 0} (old new : ListsView) (r : Result X Fault) → new.tables ≡ old.tables
    → new.failures ≡ failures_after r old.failures → ((a : Replica) → Stands old.tables a → new.failures ≡ old.failures)
    → IsQuiet (λ (k : ListsView). k.tables) (λ k. k.failures) (λ k. Unit {0}) (λ k. Unit {0}) (λ k t. t ≡ k.tables) (Unit {0}) old new r
quiet_lists old new r same counted sure = record {
  clean = λ u. tt;
  opens = λ u o. tt;
  lasts = λ u o. always r;
  answered = λ u. always r;
  same = λ u o. same;
  counts = counted;
  sure = λ never. sure;
  crash = λ u t left. subst (λ s. t ≡ s) same left;
  settled = λ u o before t left. left;
}
