-- What making the tables does, and putting the first rows into them.
use Rattle.std.proofs.Common.{◌≡◌, inl, inr, [], Err, Ok, Result, OnOk, IsTrue, refl, sym, ap, subst, ◌∙◌}
use Rattle.std.specs.List.{AllByRecursion}
use Rattle.sqlite_schema.specs.declared.schema.Table.{Table}
use Rattle.sqlite.specs.declared.error.Error.{Error}
use Rattle.sqlite.specs.State.{State, HasCleanDisk, Survives}
use Rattle.sqlite.specs.Steps.{FailsToCommit}
use Rattle.mr_model.specs.Tables.{MetaRow, Tables}
use Rattle.mr_model.specs.First.{FirstTables}
use Rattle.mr_rows.specs.Schema.{no_schema, first_schema, our_schema}
use Rattle.mr_rows.specs.Database.{IsOurs, IsTablesStep, tables_in}
use Rattle.mr_rows.specs.ChangeParts.{put_meta}
use Rattle.mr_rows.proofs.StepLemmas.{clean_before}
use Rattle.mr_first.specs.FirstDatabase.{IsFirst, IsFirstStep, first_in}
use Rattle.mr_first.specs.FirstParts.{tables_put, no_first_tables}
use Rattle.mr_first.specs.MoveUpSteps.{IsExtended, IsEmptied, laid_out}
use Rattle.mr_first.proofs.FilledDatabase.{blank_first}
use Rattle.mr_first.proofs.MakeLemmas.{lays_out}
use Rattle.mr_sql.specs.Blank.{no_tables}

-- tables of the first schema that were made with no others there have no rows
none_first : (a b : State) → IsExtended no_schema first_schema a b → AllByRecursion (λ (t : Table). b.now.trees t.tree ≡ []) first_schema.tables
none_first a b first = subst (AllByRecursion (λ (t : Table). b.now.trees t.tree ≡ [])) (sym first.beside) first.empty

-- nor have those of the second that were made beside them, and the row of `meta` is put
pub fills : (a b c d : State) (m : MetaRow) → Survives b c (λ _. ⊥) → Survives c d (λ _. ⊥)
    → (HasCleanDisk b → IsTrue a.in_transaction → a.now.schema ≡ no_schema → IsExtended no_schema first_schema a b)
    → (HasCleanDisk c → IsTrue b.in_transaction → b.now.schema ≡ first_schema → IsExtended first_schema our_schema b c)
    → (HasCleanDisk d × IsTrue c.in_transaction × IsOurs c.now → IsTablesStep c d (put_meta m (tables_in c.now.trees)))
    → HasCleanDisk d → IsTrue a.in_transaction → a.now.schema ≡ no_schema → IsTablesStep a d (put_meta m no_tables)
fills a b c d m to_c to_d made widened put clean within schema =
    let clean_c = clean_before c d to_d clean in
    let one = made (clean_before b c to_c clean_c) within schema in
    let none = none_first a b one in
    let first = blank_first b.now one.schema none in
    let emptied : IsEmptied b b = record {
      schema = one.schema;
      meta = none.0;
      room = refl;
      vector = refl;
      write_log = none.1.1.1.0;
      undo = none.1.1.1.1.0;
      booking = refl;
      errorlog = refl;
      committed = refl;
      within = one.within;
    } in
    let two = lays_out b b c first.0 emptied (widened clean_c one.within one.schema) in
    let three = put (clean, two.within, two.ours) in
    record {
      ours = three.ours;
      tables_are = three.tables_are ∙ ap (put_meta m) (two.tables_are ∙ ap laid_out first.1);
      committed = three.committed ∙ two.committed ∙ one.committed;
      within = three.within;
    }

-- first tables are put into those of the first schema alone
pub fills_first : {X : Type 0} (a b c : State) (t : FirstTables) (r : Result X Error) → Survives b c (λ _. ⊥)
    → (HasCleanDisk b → IsTrue a.in_transaction → a.now.schema ≡ no_schema → IsExtended no_schema first_schema a b)
    → (HasCleanDisk c × IsTrue b.in_transaction × IsFirst b.now → OnOk r (IsFirstStep b c (tables_put t (first_in b.now.trees)))) → HasCleanDisk c → IsTrue a.in_transaction → a.now.schema ≡ no_schema
    → OnOk r (IsFirstStep a c (tables_put t no_first_tables))
fills_first a b c t (Err e) s made put clean within schema = tt
fills_first a b c t (Ok x) s made put clean within schema =
    let one = made (clean_before b c s clean) within schema in
    let first = blank_first b.now one.schema (none_first a b one) in
    let two = put (clean, one.within, first.0) in
    record { ours = two.ours; tables_are = two.tables_are ∙ ap (tables_put t) first.1; committed = two.committed ∙ one.committed; within = two.within }

-- ---- a commit that fails

-- the database is as it was before the transaction
pub commit_fails : (a b c : State) (e : Error) (t : Tables) → IsTablesStep a b t → FailsToCommit b c e → IsTrue c.is_open → a.now ≡ a.committed → (c.now ≡ a.now) × (c.committed ≡ a.committed)
commit_fails a b c e t step (inl fails) now settled = let undone = fails.3.undone now in (undone.0 ∙ step.committed ∙ sym settled, undone.1 ∙ step.committed)
commit_fails a b c e t step (inr (is, outside, same)) now settled = absurd (let within = step.within in cc)
