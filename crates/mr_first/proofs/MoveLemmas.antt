-- Tables that were read and then rewritten have moved up.
use Rattle.std.proofs.Common.{◌≡◌, List, Ok, Err, Result, OnOk, OnErr, ap, ◌∙◌, arith}
use Rattle.sqlite_trees.specs.Tree.{Trees}
use Rattle.sqlite.specs.declared.error.Error.{Error}
use Rattle.sqlite.specs.Effect.{Database}
use Rattle.sqlite.specs.State.{State, HasCleanDisk, Survives}
use Rattle.sqlite.proofs.StateLemmas.{survives_then}
use Rattle.mr_model.specs.Tables.{MetaRow, LogRow, Tables}
use Rattle.mr_model.specs.First.{moved, moved_log}
use Rattle.mr_rows.specs.Database.{IsApplied}
use Rattle.mr_first.specs.FirstDatabase.{IsKeptFirst, ReadsFirst, first_in}
use Rattle.mr_first.specs.MovedUp.{MovesTo, IsMoved}
use Rattle.mr_first.specs.MoveUpSteps.{filled}
use Rattle.mr_first.proofs.ReadLemmas.{still_kept}
use Rattle.mr_first.proofs.PairLemmas.{filled_is}

-- what is read of first tables before they are rewritten: their log, and their row of `meta`
abbrev pub IsOf : MetaRow → List LogRow → Trees → Type 0
IsOf m log trees = (log ≡ moved_log (first_in trees).write_log (first_in trees).undo) × (m ≡ (first_in trees).meta)

module _ (a b c : State) (m : MetaRow) (log : List LogRow) (r : Result (Unit {0}) Error) (read : ReadsFirst a b (Ok m) (λ x. IsOf x log a.now.trees))
    (rewritten : MovesTo b c (filled m log (first_in b.now.trees)) r) (survives : Survives b c (IsMoved b (filled m log (first_in b.now.trees)))) where
  clean_b : HasCleanDisk c → HasCleanDisk b
  clean_b clean = let less = survives.clean in omega (arith, less, clean)

  -- what is put into the tables is what moves them up
  same_tables : HasCleanDisk b → IsKeptFirst a → (b.now ≡ a.now) × (b.committed ≡ a.committed) → filled m log (first_in b.now.trees) ≡ moved (first_in a.now.trees)
  same_tables clean kept same = let told = (read.2 clean kept).1 in ap (λ (db : Database). filled m log (first_in db.trees)) same.0 ∙ filled_is a.now.trees m log told.1 told.0

  applied : (t u : Tables) → t ≡ u → (q : Result (Unit {0}) Error) → OnOk q (IsApplied b c t) → OnOk q (IsApplied a c u)
  applied t u same (Ok y) h = record { kept = h.kept; tables_are = h.tables_are ∙ same }
  applied t u same (Err e) h = tt

  undone : (b.now ≡ a.now) × (b.committed ≡ a.committed) → (q : Result (Unit {0}) Error)
      → OnErr q ((c.now ≡ b.now) × (c.committed ≡ b.committed)) → OnErr q ((c.now ≡ a.now) × (c.committed ≡ a.committed))
  undone same (Ok y) h = tt
  undone same (Err e) h = (h.0 ∙ same.0, h.1 ∙ same.1)

  pub moves : MovesTo a c (moved (first_in a.now.trees)) r
  moves clean now =
      let later = rewritten clean now in
      let before = read.1 (clean_b clean) later.0 in (
        before.0,
        λ kept.
            let same = before.1 kept in
            let done = later.1 (still_kept a b kept same) in
            (applied _ _ (same_tables (clean_b clean) kept same) r done.0, undone same r done.1),
      )

  pub survives_moving : Survives a c (IsMoved a (moved (first_in a.now.trees)))
  survives_moving =
      survives_then a b c (λ _. ¬ IsKeptFirst a) (IsMoved b (filled m log (first_in b.now.trees))) (IsMoved a (moved (first_in a.now.trees))) (λ _ db none kept. absurd (none kept))
      (λ clean db left kept.
      let told = read.2 (clean_b clean) kept in
      let same = (read.1 (clean_b clean) told.0).1 kept in
      left (still_kept a b kept same) ∙ same_tables (clean_b clean) kept same)
      read.0 survives
