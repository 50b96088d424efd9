-- The kept writes in the order in which a replica executes them: the rows of the log.
use Rattle.std.specs.Prelude.{◌≡◌, ◌<◌, ◌⊎◌, List, [], ◌∷◌, ◌++◌, take, drop, map, filter_map}
use Rattle.std.specs.List.{AllByRecursion}
use Rattle.mr_model.specs.Writes.{Write}
use Rattle.mr_model.specs.Replica.{Replica, write_with, tentative, order_of}
use Rattle.mr_model.specs.Board.{replay_on, board_after}
use Rattle.mr_model.specs.Tables.{LogRow, log_row, tables_of}
use Rattle.mr_model.specs.View.{place_of}
use Rattle.mr_model.specs.Changes.{SameRows}

abbrev pub dropped_in_order : Replica → List Write
dropped_in_order r = filter_map (write_with r) (take r.dropped r.commits)

-- the committed writes that are kept
abbrev pub kept_committed : Replica → List Write
kept_committed r = filter_map (write_with r) (drop r.dropped r.commits)

abbrev pub kept_in_order : Replica → List Write
kept_in_order r = kept_committed r ++ tentative r

-- committed ones first, by their number; then the others, by time and server
pub data LogBefore : LogRow → LogRow → Type 0 where
  both : {r s : LogRow} → 0 < r.seq → r.seq < s.seq → LogBefore r s
  one : {r s : LogRow} → 0 < r.seq → s.seq ≡ 0 → LogBefore r s
  none : {r s : LogRow} → r.seq ≡ 0 → s.seq ≡ 0 → (r.time < s.time) ⊎ ((r.time ≡ s.time) × (r.server < s.server)) → LogBefore r s

abbrev pub AreInRunOrder : List LogRow → Type 0
AreInRunOrder [] = Unit {0}
AreInRunOrder (r ∷ rs) = AllByRecursion (LogBefore r) rs × AreInRunOrder rs

-- sorting the rows of the log gives the kept writes in their order; they run on the board of the dropped ones
pub record KeptIsTheLog (r : Replica) : Type 0 where
  pub parts : order_of r ≡ dropped_in_order r ++ kept_in_order r
  pub in_order : AreInRunOrder (map (log_row r) (kept_in_order r))
  pub same_rows : SameRows (tables_of r).log (map (log_row r) (kept_in_order r))
  pub places : map (place_of r) (kept_in_order r) ≡ replay_on (board_after [] (dropped_in_order r)) (kept_in_order r)
