-- The bookings that cancels aim at, on a board before and on one after: which of them another cancel takes back now, or none any more.
use Rattle.std.specs.Prelude.{Bool, true, false, if◌then◌else◌, List, [], flat_map, Option, Some, None}
use Rattle.std.specs.List.{cons_option}
use Rattle.mr_model.specs.Texts.{Text}
use Rattle.mr_model.specs.Writes.{Id, Action, Books, Cancels, Write, same_id}
use Rattle.mr_model.specs.Tables.{PlaceRow}
use Rattle.mr_replay.specs.declared.rows.Row.{Row}
use Rattle.mr_replay.specs.Rows.{Rows, row_at}
use Rattle.mr_replay.specs.Holds.{if_of}
use Rattle.mr_tables.specs.declared.summary.Tally.{Tally}
use Rattle.mr_part.specs.Placing.{row_canceller, canceller_on, board_place}

-- the row of what is cancelled, if it is of the cancel's room
abbrev pub aimed_at : Rows → Text → Action → Option Row
aimed_at b room (Books m) = None
aimed_at b room (Cancels target) = if_of room (row_at b target)

-- the cancel that took it back, be it this one or another
abbrev pub taken_by : Rows → Write → Option Id
taken_by b w = row_canceller (aimed_at b w.room w.action)

abbrev pub same_by : Option Id → Option Id → Bool
same_by None None = true
same_by (Some c) (Some d) = same_id c d
same_by _ _ = false

-- the row of a booking, if what takes it back isn't what it was
abbrev pub row_if_moved : List Tally → Option Id → Id → Option Row → List PlaceRow
row_if_moved ts was target None = []
row_if_moved ts was target (Some row) = if same_by was (canceller_on row.trace) then [] else cons_option (board_place ts target row) []

abbrev pub target_if_moved : List Tally → Option Id → Rows → Text → Action → List PlaceRow
target_if_moved ts was b room (Books m) = []
target_if_moved ts was b room (Cancels target) = row_if_moved ts was target (if_of room (row_at b target))

-- of what these writes cancel, the rows of those for which that has changed
abbrev pub moved_target : List Tally → Rows → Rows → Write → List PlaceRow
moved_target ts old new w = target_if_moved ts (taken_by old w) new w.room w.action

abbrev pub moved_targets : List Tally → Rows → Rows → List Write → List PlaceRow
moved_targets ts old new ws = flat_map (moved_target ts old new) ws
