-- Laws of boards, as statements.
use Rattle.std.specs.Prelude.{◌≡◌, ℕ, List, [], ◌++◌, map, Some}
use Rattle.mr_model.specs.Texts.{Text}
use Rattle.mr_model.specs.Slots.{Slot}
use Rattle.mr_model.specs.Writes.{Id, Cancels, Write, id_of}
use Rattle.mr_model.specs.Replay.{Done, replay}
use Rattle.mr_model.specs.Board.{replay_on, board_after, places_of_room}
use Rattle.mr_model.specs.View.{of_room}
use Rattle.mr_replay.specs.declared.rows.Standing.TheVariants.{Booked, CancelledBy}
use Rattle.mr_replay.specs.declared.rows.Trace.TheVariants.{OfBooking}
use Rattle.mr_replay.specs.Rows.{Rows, row_at, place_by_rows, executed, undo_row_of, undone, executed_all, undo_rows_of, undone_all}
use Rattle.mr_replay.specs.Holds.{HaveDistinctIds, AreOfRoom, IsNew, HaveNoRows, AreNew, HoldsEach, Holds, undo_rows_after}

-- one board at most holds these lists
abbrev pub OneBoard : Type 0
OneBoard = (lists : Text → List Write) (b c : Rows) → HoldsEach lists b → HoldsEach lists c → b ≡ c

-- on a board that holds a list, executing more writes gives the one that holds both, and undoing them the one from before
abbrev pub ExecutingHolds : Type 0
ExecutingHolds = (ws vs : List Write) (b : Rows) → HaveDistinctIds (ws ++ vs) → Holds ws b → Holds (ws ++ vs) (executed_all b vs)

abbrev pub UndoingHolds : Type 0
UndoingHolds =
    (ws vs : List Write) (b : Rows) → HaveDistinctIds (ws ++ vs) → Holds (ws ++ vs) b
    → Holds ws (undone_all b (undo_rows_after ws vs))

-- so undoing back to any place and executing another order gives each room the replay of its part of that order
abbrev pub AnotherOrderHolds : Type 0
AnotherOrderHolds =
    (ws vs others : List Write) (b : Rows) → HaveDistinctIds (ws ++ vs) → HaveDistinctIds (ws ++ others) → Holds (ws ++ vs) b
    → Holds (ws ++ others) (executed_all (undone_all b (undo_rows_after ws vs)) others)

-- undoing the execution of a write whose id was not on the board gives the board from before it
abbrev pub UndoIsExact : Type 0
UndoIsExact = (b : Rows) (w : Write) → IsNew b (id_of w) → undone (executed b w) (undo_row_of b w) ≡ b

-- and so does undoing the executions of more of them, the last one first: what was booked in a slot that a cancel made free is
-- taken away before the cancel's target is booked again
abbrev pub UndoInReverseIsExact : Type 0
UndoInReverseIsExact = (b : Rows) (ws : List Write) → AreNew b ws → undone_all (executed_all b ws) (undo_rows_of b ws) ≡ b

-- a cancel that is Done takes its target's booking back, and undoing it brings that back
abbrev pub CancelsMark : Type 0
CancelsMark =
    (b : Rows) (w : Write) (target : Id) (room title : Text) (slot : Slot) (length : ℕ)
    → IsNew b (id_of w) → w.action ≡ Cancels target → place_by_rows b w ≡ Done
    → row_at b target ≡ Some (record { room = room; trace = OfBooking slot length title Booked })
    → (row_at (executed b w) target ≡ Some (record { room = room; trace = OfBooking slot length title (CancelledBy (id_of w)) }))
    × (row_at (undone (executed b w) (undo_row_of b w)) target ≡ Some (record { room = room; trace = OfBooking slot length title Booked }))

-- writes that do not repeat an id of the list are new to a board that holds it
abbrev pub OthersAreNew : Type 0
OthersAreNew = (ws vs : List Write) (b : Rows) → HaveDistinctIds (ws ++ vs) → Holds ws b → AreNew b vs

-- the undo rows of writes that are executed on a board which holds a list are those that the list gives them
abbrev pub UndoRowsAreOfTheList : Type 0
UndoRowsAreOfTheList =
    (ws vs : List Write) (b : Rows) → HaveDistinctIds (ws ++ vs) → Holds ws b → undo_rows_of b vs ≡ undo_rows_after ws vs

-- in one room too
abbrev pub UndoRowsAreOfTheRoom : Type 0
UndoRowsAreOfTheRoom =
    (lists : Text → List Write) (room : Text) (vs : List Write) (b : Rows)
    → HoldsEach lists b → HaveDistinctIds (lists room ++ vs) → AreOfRoom room (lists room ++ vs) → HaveNoRows b vs
    → undo_rows_of b vs ≡ undo_rows_after (lists room) vs

-- the places in them are those that the definitions give on the board of the list
abbrev pub PlacesAreOfTheBoard : Type 0
PlacesAreOfTheBoard =
    (ws vs : List Write) (b : Rows) → HaveDistinctIds (ws ++ vs) → Holds ws b
    → map (λ u. u.place) (undo_rows_of b vs) ≡ replay_on (board_after [] ws) vs

-- executing a whole order and taking a room's places is replaying that room's part of it
abbrev pub RoomsExecuteApart : Type 0
RoomsExecuteApart =
    (ws : List Write) (room : Text) → HaveDistinctIds ws
    → places_of_room room ws (map (λ u. u.place) (undo_rows_of [] ws)) ≡ replay (of_room room ws)
