-- Databases of the first schema that were taken over, and what they move up to.
use Rattle.std.proofs.Common.{◌≡◌, inr, None, Some, IsTrue, sym, ap, subst, ◌∙◌}
use Rattle.sqlite_trees.specs.Tree.{Trees}
use Rattle.sqlite_catalog.specs.Listing.{IsSound}
use Rattle.sqlite.specs.Effect.{Database}
use Rattle.sqlite.specs.State.{State}
use Rattle.mr_model.specs.Tables.{MetaRow, Tables, Stands}
use Rattle.mr_model.specs.First.{moved}
use Rattle.mr_model.proofs.MovingUp.{moves_up}
use Rattle.mr_rows.specs.Schema.{first_schema}
use Rattle.mr_rows.specs.Database.{IsApplied, tables_in}
use Rattle.mr_rows.specs.Shown.{IsMeta}
use Rattle.mr_first.specs.FirstDatabase.{IsFirst, IsKeptFirst, first_in}
use Rattle.mr_first.specs.FirstShown.{AreFirstRows}
use Rattle.mr_first.proofs.Held.{first_held}
use Rattle.mr_first.proofs.ReadLemmas.{first_meta_found}
use Rattle.mr_first.specs.MovedUp.{IsMoved}
use Rattle.mr_sql.specs.declared.adopt.Whose.{Whose}
use Rattle.mr_sql.specs.Found.{IsTaken, IsRaised, LeavesRows}
use Rattle.mr_sql.specs.Opening.{AreTakenAs, IsOpenFor, Suits}
use Rattle.mr_sql.proofs.TakenLemmas.{taken_as}

-- these trees are tables of the first schema, with this row of `meta`
pub record IsFoundFirst (trees : Trees) (m : MetaRow) (s : State) : Type 0 where
  pub kept : IsKeptFirst s
  pub sound : IsSound first_schema trees
  pub trees_are : s.now.trees ≡ trees
  pub meta : (first_in trees).meta ≡ m

-- rows that could be read are those of a replica's first tables
pub finds_first : (m : MetaRow) (old new : State) → IsTaken old → old.now.schema ≡ first_schema
    → (new.now ≡ old.now) × (new.committed ≡ old.committed) → AreFirstRows old.now.trees → IsMeta old.now.trees (Some m)
    → IsFoundFirst old.now.trees m new
finds_first m old new taken first same rows meta =
    let held : IsFirst old.now = first_held old.now first taken.sound taken.shelves rows in
    record {
      kept = record { ours = subst IsFirst (sym same.0) held; settled = same.0 ∙ taken.settled ∙ sym same.1 };
      sound = subst (λ schema. IsSound schema old.now.trees) first taken.sound;
      trees_are = ap (λ (db : Database). db.trees) same.0;
      meta = first_meta_found old.now.trees m meta;
    }

-- what they move up to stands for the same replicas
pub raised_to : (before after : Trees) → tables_in after ≡ moved (first_in before) → IsRaised before after
raised_to before after are = record { tables_are = are; stands = λ a stands. subst (λ (t : Tables). Stands t a) (sym are) (moves_up (first_in before) a stands) }

-- and is a keeper's, of those who are wanted
pub raises : (w : Whose) (trees : Trees) (m : MetaRow) (old new : State) → IsFoundFirst trees m old
    → IsApplied old new (moved (first_in old.now.trees)) → IsTrue new.is_open → Suits w m → IsOpenFor w trees None new
raises w trees m old new found applied now suits =
    let are : tables_in new.now.trees ≡ moved (first_in trees) = applied.tables_are ∙ ap (λ (t : Trees). moved (first_in t)) found.trees_are in
    record {
      is_open = now;
      kept = applied.kept;
      tables = taken_as w trees new.now.trees m (inr (found.sound, raised_to trees new.now.trees are)) (ap (λ (t : Tables). t.meta) are ∙ found.meta) suits;
      fresh = tt;
    }

-- what a crash leaves of the move is those tables too
pub raised_by_crash : (w : Whose) (trees db : Trees) (m : MetaRow) (s : State) → IsFoundFirst trees m s → IsMoved s (moved (first_in s.now.trees)) db → Suits w m → AreTakenAs w trees db
raised_by_crash w trees db m s found moves suits =
    let are : tables_in db ≡ moved (first_in trees) = moves found.kept ∙ ap (λ (t : Trees). moved (first_in t)) found.trees_are in
    taken_as w trees db m (inr (found.sound, raised_to trees db are)) (ap (λ (t : Tables). t.meta) are ∙ found.meta) suits

-- what a crash may leave of a first keeper's database is its rows alone
pub alone_first : (s : State) → IsKeptFirst s → ((db : Trees) → s.may_leave db → db ≡ s.committed.trees) → LeavesRows s
alone_first s kept law db left = law db left ∙ ap (λ (d : Database). d.trees) (sym kept.settled)
