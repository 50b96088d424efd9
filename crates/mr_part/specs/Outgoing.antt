-- The lines of a batch that is made, of which the first so many are kept.
use Rattle.std.specs.Prelude.{◌≡◌, ℕ, ◌+◌, ◌-◌, Bool, nat_lt, if◌then◌else◌, List, [], ◌∷◌, ◌++◌, length, take, drop, map, Some}
use Rattle.mr_model.specs.Writes.{Write, id_of}
use Rattle.mr_model.specs.Exchange as model
use Rattle.mr_model.specs.Positions.{Position}
use Rattle.mr_model.specs.Step.{item_if_lacked}
use Rattle.mr_tables.specs.declared.summary.Summary.{Summary}
use Rattle.mr_tables.specs.Summary.{committed_len}
use Rattle.mr_base.specs.declared.batches.Item.{Item}
use Rattle.mr_base.specs.declared.batches.Ending.{Ending}
use Rattle.mr_base.specs.declared.batches.Ending.TheVariants.{Complete, More}
use Rattle.mr_base.specs.Batches.{item_of}

-- of these items the first are there, and whether there are more is told
pub record Offers (limit : ℕ) (items : List model.Item) (there : List Item) (more : Bool) : Type 0 where
  pub first : map item_of there ≡ take limit items
  pub rest : more ≡ nat_lt limit (length items)

-- how a batch ends
abbrev pub ending_by : Bool → Ending
ending_by more = if more then More else Complete

-- the commits of these writes, numbered from seq on, each behind its write where the position lacks that
abbrev pub committed_items : Position → ℕ → List Write → List model.Item
committed_items p seq [] = []
committed_items p seq (w ∷ ws) = (item_if_lacked p (Some w) ++ model.C seq (id_of w) ∷ []) ++ committed_items p (seq + 1) ws

-- those of these writes that the position lacks
abbrev pub lacked_items : Position → List Write → List model.Item
lacked_items p [] = []
lacked_items p (w ∷ ws) = item_if_lacked p (Some w) ++ lacked_items p ws

-- what there is for the position: the commits above its own, then the tentative writes that it lacks
abbrev pub kept_items : Position → Summary → List Write → List model.Item
kept_items p s kept =
    committed_items p (p.commits + 1) (drop (p.commits - s.dropped) (take (committed_len s kept) kept))
    ++ lacked_items p (drop (committed_len s kept) kept)
