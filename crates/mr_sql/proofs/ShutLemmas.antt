-- A text that is compiled tells whether the connection is open, and changes nothing.
use Rattle.std.specs.Prelude.{⊤, IfOk, IfErr, OnOk}
use Rattle.std.proofs.Common.{◌≡◌, ◌≢◌, inl, inr, ℕ, List, [], codes, Result, Ok, Err, IsTrue, refl, sym, subst}
use Rattle.sqlite_value.specs.Order.{Row}
use Rattle.sqlite.specs.declared.error.Error.{Error}
use Rattle.sqlite.specs.declared.error.Error.TheVariants.{SqliteFailure}
use Rattle.sqlite.specs.declared.error.ErrorCode.TheVariants as code
use Rattle.sqlite.specs.State.{State, HasCleanDisk, FailsToQuery, IsNotRun, IsUnchanged, Survives}
use Rattle.sqlite.proofs.StateLemmas.{survives_weaker}
use Rattle.mr_rows.specs.Database.{IsKept}
use Rattle.mr_rows.specs.Reads.{ReadsKept}
use Rattle.mr_rows.specs.Schema.{our_schema}
use Rattle.mr_rows.proofs.CauseLemmas.{sure_fails_in}
use Rattle.mr_rows.proofs.QueryLemmas.{left_same, placed}
use Rattle.mr_rows.proofs.SureTexts.{asks_undo}
use Rattle.mr_sql.specs.Failed.{StoreFailed}
use Rattle.mr_sql.specs.FailedReads.{FailsByStoreAlone}
use Rattle.mr_sql.proofs.FailedReads.{of_store}

abbrev pub text : List ℕ
text = codes "SELECT server FROM undo"

was_open : (old new : State) (e : Error) → IsNotRun old new text [] e → IsTrue new.is_open → IsTrue old.is_open
unfolding IsNotRun
was_open old new e (inl same) now = same.1.0.was_open
was_open old new e (inr fails) now = fails.3.was_open now

left_as : (old new : State) (e : Error) → IsKept old → IsNotRun old new text [] e → IsTrue new.is_open → (new.now ≡ old.now) × (new.committed ≡ old.committed)
unfolding IsNotRun
left_as old new e kept (inl same) now = left_same old new (placed old kept) now (inl same.1)
left_as old new e kept (inr fails) now = left_same old new (placed old kept) now (inr fails.3)

asked : (old new : State) (e : Error) → IsNotRun old new text [] e → FailsToQuery text [] old new e
unfolding FailsToQuery
asked old new e why = inl why

-- the text is sure: only the store makes it fail
refused_alone : (old new : State) (e : Error) → IsNotRun old new text [] e → IsKept old → e ≢ SqliteFailure code.OutOfMemory → StoreFailed old new
refused_alone old new e why kept other =
    let asks = asks_undo our_schema refl in
    of_store old new e other (sure_fails_in our_schema text [] old new e (placed old kept) asks.plain asks.sure (asked old new e why))

-- the text was compiled, or refused
module _ {X : Type 0} (old new : State) (r : Result X Error) (P : X → Type 0) (ok : HasCleanDisk new → IfOk r (λ x. P x × IsUnchanged old new))
    (err : HasCleanDisk new → IfErr r (λ e. (params : Row) → IsNotRun old new text params e)) (survives : Survives old new (λ _. ⊥)) where
  abbrev Compiled : Result X Error → Result (Unit {0}) Error → Type 0
  Compiled (Ok x) out = out ≡ Ok tt
  Compiled (Err e) out = out ≡ Err e

  told : (r : Result X Error) (out : Result (Unit {0}) Error) → OnOk r (out ≡ Ok tt) → IfErr r (λ e. out ≡ Err e) → Compiled r out
  told (Ok x) out is bad = is
  told (Err e) out is bad = bad

  by_result : (Q : Result (Unit {0}) Error → Type 0) (s : Result X Error) (out : Result (Unit {0}) Error)
      → Compiled s out → ((x : X) → s ≡ Ok x → Q (Ok tt)) → ((e : Error) → s ≡ Err e → Q (Err e)) → Q out
  by_result Q (Ok x) out is good bad = subst Q (sym is) (good x refl)
  by_result Q (Err e) out is good bad = subst Q (sym is) (bad e refl)

  same_at : (x : X) → r ≡ Ok x → HasCleanDisk new → IsUnchanged old new
  same_at x is clean = (subst (λ s. IfOk s (λ x. P x × IsUnchanged old new)) is (ok clean)).1

  not_at : (e : Error) → r ≡ Err e → HasCleanDisk new → IsNotRun old new text [] e
  not_at e is clean = subst (λ s. IfErr s (λ e. (params : Row) → IsNotRun old new text params e)) is (err clean) []

  module _ (out : Result (Unit {0}) Error) (is_ok : OnOk r (out ≡ Ok tt)) (is_err : IfErr r (λ e. out ≡ Err e)) where
    pub compiled_open : HasCleanDisk new → OnOk out (IsTrue old.is_open)
    compiled_open clean = by_result (λ o. OnOk o (IsTrue old.is_open)) r out (told r out is_ok is_err) (λ x is. (same_at x is clean).0.was_open) (λ e is. tt)

    pub compiled_lasts : HasCleanDisk new → OnOk out (IsTrue new.is_open)
    compiled_lasts clean = by_result (λ o. OnOk o (IsTrue new.is_open)) r out (told r out is_ok is_err) (λ x is. (same_at x is clean).0.is_open) (λ e is. tt)

    pub compiled_reads : ReadsKept old new out (λ _. ⊤)
    compiled_reads = by_result (λ o. ReadsKept old new o (λ _. ⊤)) r out (told r out is_ok is_err)
        (λ x is. (
          survives_weaker old new _ _ (λ _ db none. absurd none) survives,
          λ clean now. let it = same_at x is clean in (it.0.was_open, λ kept. (it.0.now_is, it.0.committed_is)),
          λ clean kept. ((same_at x is clean).0.is_open, tt {0}),
        ))
        (λ e is. (
          survives_weaker old new _ _ (λ _ db none. absurd none) survives,
          λ clean now. (was_open old new e (not_at e is clean) now, λ kept. left_as old new e kept (not_at e is clean) now),
          λ clean kept. (tt {0}, tt {0}),
        ))

    pub compiled_alone : FailsByStoreAlone old new out
    compiled_alone = by_result (λ o. FailsByStoreAlone old new o) r out (told r out is_ok is_err) (λ x is clean kept a stands. tt {0})
        (λ e is clean kept a stands other. refused_alone old new e (not_at e is clean) kept other)
