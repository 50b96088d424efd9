-- What a change has done to a table of writes so far.
use Rattle.std.specs.Prelude.{◌≡◌, Bool, not, List, [], ◌∷◌, filter, find, Option}
use Rattle.std.specs.BTreeSet.{BTreeSet, contains}
use Rattle.mr_model.specs.Dropped.{Has}
use Rattle.mr_model.specs.Writes.{Id, same_id}
use Rattle.mr_base.specs.Ids.{id_cmp}
use Rattle.mr_tables.specs.Change.{id_before, put}
use Rattle.mr_tables.specs.TableOrders.{InOrder}
use Rattle.mr_replica.specs.declared.journal.Journal.{Journal}

-- the rows whose ids don't pass the test
abbrev pub rows_but : {R : Type 0} → (R → Id) → (Id → Bool) → List R → List R
rows_but id test rows = filter (λ row. not (test (id row))) rows

-- the id is one of these
abbrev pub is_going : BTreeSet Id → Id → Bool
is_going ids i = contains id_cmp ids i

-- A step: a row was put, by which `before` became `now`. It has the row's id, and the row that stood in its place. Of
-- all rows that were there the keys are known.
pub record IsRowStep {R : Type 0} (id : R → Id) (knows : R → Type 0) (step : Id × Option R) (before now : List R) : Type 0 where
  pub row : R
  pub order : InOrder id_before id before
  pub put : now ≡ put id_before id row before
  pub its_id : step.0 ≡ id row
  pub old : step.1 ≡ find (λ r. same_id (id r) (id row)) before
  pub known : (r : R) → Has r before → knows r

-- the steps, the last one first, have led from `before` to `now`
abbrev pub AreSteps : {R : Type 0} → (R → Id) → (R → Type 0) → List (Id × Option R) → List R → List R → Type 0
AreSteps id knows [] before now = now ≡ before
AreSteps {R} id knows (step ∷ older) before now = (mid : List R) × IsRowStep id knows step mid now × AreSteps id knows older before mid

-- of nothing
pub record IsFresh {R : Type 0} (journal : Journal R) : Type 0 where
  pub puts : journal.puts.items ≡ []
  pub going : journal.going.keys ≡ []
