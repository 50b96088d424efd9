-- What a statement makes of its table that puts a row or takes one away.
use Rattle.std.proofs.Common.{◌≡◌, ℕ, ℤ, List, [], ◌∷◌, Bool, false, not, filter, inl, inr, Ok, Err, Result, IsTrue, refl, sym, subst}
use Rattle.std.proofs.lemmas.Bool.{cases_Bool}
use Rattle.sqlite_value.specs.declared.value.Value.TheVariants.{Int}
use Rattle.sqlite_value.specs.Order.{Row}
use Rattle.sqlite_trees.specs.declared.store.Store as store
use Rattle.sqlite_sql.specs.Term.{col}
use Rattle.sqlite_schema.specs.declared.schema.Schema.{Schema}
use Rattle.sqlite.specs.Command.TheVariants.{Delete}
use Rattle.sqlite.specs.declared.error.Error.{Error}
use Rattle.sqlite.specs.Held.{Held, state}
use Rattle.sqlite.specs.State.{State, HasCleanDisk, ExecutesInside, KeepsCommit}
use Rattle.mr_model.specs.Writes.{Id}
use Rattle.mr_rows.specs.Schema.{our_schema, first_schema, IsOfTwo}
use Rattle.mr_rows.specs.Form.{Form}
use Rattle.mr_rows.specs.TableSteps.{TurnsInto, PutsRow, TakesRow}
use Rattle.mr_rows.specs.StatementMeaning.{MeansIn, program_of}
use Rattle.mr_rows.proofs.TableLemmas.{takes, puts}
use Rattle.mr_rows.specs.Facts.{Facts, Puts, Takes}

-- ---- a statement inside a transaction, whatever it does, commits nothing

keeps_commit : (old new : State) (sql : List ℕ) (params : Row) (r : Result ℕ Error) → ExecutesInside 0 sql params old new r → KeepsCommit old new
keeps_commit old new sql params (Ok count) h = record { was_open = λ _. h.1.was_open; committed = λ _. h.1.committed_is }
keeps_commit old new sql params (Err e) (inl (h, inl same)) = record { was_open = λ _. same.0.was_open; committed = λ _. same.0.committed_is }
keeps_commit old new sql params (Err e) (inl (h, inr back)) = record { was_open = back.was_open; committed = λ now. (back.undone now).1 }
keeps_commit old new sql params (Err e) (inr (ends, is, same)) = record { was_open = λ _. same.0.was_open; committed = λ _. same.0.committed_is }

pub keeps_any : {S : Type 0} (g : store.Ghosts S) (old new : Held S) (sql : List ℕ) (params : Row) (r : Result ℕ Error)
    → (IsTrue old.in_transaction → ExecutesInside 0 sql params (state g old) (state g new) r) → (old.in_transaction ≡ false → new ≡ old) → KeepsCommit (state g old) (state g new)
keeps_any g old new sql params r inside after = elim (cases_Bool old.in_transaction) [
  | inl within ↦ keeps_commit (state g old) (state g new) sql params r (inside within)
  | inr outside ↦ subst (λ h. KeepsCommit (state g old) (state g h)) (sym (after outside)) (record { was_open = λ now. now; committed = λ _. refl })
]

-- ---- a row put, and one taken away

-- under ours alone, under the first alone, and under both
pub under_ours : (P : Schema → Type 0) → P our_schema → (under : Schema) → under ≡ our_schema → P under
under_ours P ours under is = subst P (sym is) ours

pub under_first : (P : Schema → Type 0) → P first_schema → (under : Schema) → under ≡ first_schema → P under
under_first P first under is = subst P (sym is) first

pub under_two : (P : Schema → Type 0) → P our_schema → P first_schema → (under : Schema) → IsOfTwo under → P under
under_two P ours first under (inl is) = subst P (sym is) ours
under_two P ours first under (inr is) = subst P (sym is) first

module _ {S : Type 0} (g : store.Ghosts S) {R K : Type 0} (f : Form R K) (old new : Held S) (text : List ℕ) (r : Result ℕ Error) where
  -- a statement with the row's cells as parameters, run inside a transaction
  pub puts_row : (Stands : Schema → Type 0) (x : R) → ((under : Schema) → Stands under → Puts under f text) → ((id : ℤ) → f.row_in (Int id ∷ f.cells x) ≡ x)
      → (HasCleanDisk (state g new) → IsTrue old.in_transaction → ExecutesInside 0 text (f.cells x) (state g old) (state g new) r)
      → (old.in_transaction ≡ false → new ≡ old) → PutsRow Stands f x (state g old) (state g new) r
  puts_row Stands x can back ran after = (
    λ under stands clean within schema held. let it = can under stands in puts f it.facts text (state g old) (state g new) x r it.means back schema held (ran clean within),
    λ clean. keeps_any g old new text (f.cells x) r (ran clean) after,
  )

  -- one with the parts of a key
  pub takes_row : (facts : Facts our_schema f) (k : K) → MeansIn our_schema text (Delete facts.place (program_of f.table.tree facts.key_tests (col 1 0 ∷ [])))
      → (HasCleanDisk (state g new) → IsTrue old.in_transaction → ExecutesInside 0 text (facts.key_cells k) (state g old) (state g new) r) → (old.in_transaction ≡ false → new ≡ old)
      → TurnsInto our_schema f (filter (λ x. not (facts.has_key k x))) (state g old) (state g new) r × (HasCleanDisk (state g new) → KeepsCommit (state g old) (state g new))
  takes_row facts k means ran after = (
    λ clean within schema held. takes f facts text (state g old) (state g new) k r means schema held (ran clean within),
    λ clean. keeps_any g old new text (facts.key_cells k) r (ran clean) after,
  )

  -- one with an id
  pub takes_id : (id_of : R → Id) (takes : Takes f id_of text) (id : Id)
      → (HasCleanDisk (state g new) → IsTrue old.in_transaction → ExecutesInside 0 text (takes.facts.key_cells (takes.key_of id)) (state g old) (state g new) r)
      → (old.in_transaction ≡ false → new ≡ old) → TakesRow our_schema f id_of id (state g old) (state g new) r
  takes_id id_of takes id ran after =
      subst (λ (keeps : R → Bool). TurnsInto our_schema f (filter keeps) (state g old) (state g new) r × (HasCleanDisk (state g new) → KeepsCommit (state g old) (state g new)))
      (λ i x. not (takes.finds id x i))
      (takes_row takes.facts (takes.key_of id) takes.means ran after)
