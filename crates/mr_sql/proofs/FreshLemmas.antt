-- Rows that an open read, and that are still there.
use Rattle.std.proofs.Common.{◌≡◌, Option, None, Some, Ok, Err, Result, Bool, true, false, if◌then◌else◌, IfOk, IsTrue, refl, sym, subst}
use Rattle.sqlite.specs.declared.error.Error.{Error}
use Rattle.sqlite.specs.State.{State, HasCleanDisk}
use Rattle.mr_model.specs.Tables.{Tables}
use Rattle.mr_rows.specs.Database.{tables_in}
use Rattle.mr_rows.specs.Reads.{ReadsInUse}
use Rattle.mr_rows.proofs.QueryLemmas.{survives_itself}
use Rattle.mr_sql.specs.Found.{AreFresh}

-- what is answered with nothing read
pub uses_same : {X : Type 0} (a : State) (r : Result X Error) (P : X → Type 0) → (HasCleanDisk a → IsTrue a.is_open → IfOk r P) → ReadsInUse a a r P
uses_same a (Ok x) P told = (survives_itself a _, λ clean now. (now, λ held. (refl, refl)), λ clean held. (held.1, told clean held.1))
uses_same a (Err e) P told = (survives_itself a _, λ clean now. (now, λ held. (refl, refl)), λ clean held. (tt, tt))

-- rows that were kept are those that are there
pub fresh_of : (rows : Option Tables) (t : Tables) (keep : Bool) (s : State) → rows ≡ (if keep then Some t else None) → (IsTrue keep → t ≡ tables_in s.now.trees) → AreFresh rows s
fresh_of rows t keep s is of = subst (λ r. AreFresh r s) (sym is) (go keep of)
  where
    go : (b : Bool) → (IsTrue b → t ≡ tables_in s.now.trees) → AreFresh (if b then Some t else None) s
    go true of = of refl
    go false of = tt
