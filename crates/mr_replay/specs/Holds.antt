-- The board holds, room by room, what the replay of a list of writes gives.
use Rattle.std.specs.Prelude.{◌≡◌, Bool, false, List, [], ◌∷◌, ◌++◌, map, bytes_eq, Option, Some, None, option_map, if◌then◌else◌}
use Rattle.std.specs.List.{AllByRecursion}
use Rattle.std.specs.List.Sorted.{IsStrictlySortedBy}
use Rattle.std.specs.Map.{keys_of, values_of}
use Rattle.mr_model.specs.Texts.{Text}
use Rattle.mr_model.specs.Writes.{Id, Write, id_of, same_id}
use Rattle.mr_model.specs.Replay.{place_among, replay}
use Rattle.mr_model.specs.Board.{after}
use Rattle.mr_model.specs.Replica.{is_among}
use Rattle.mr_model.specs.View.{Told, of_room, placed_with, tell, told_of}
use Rattle.mr_base.specs.Ids.{id_cmp}
use Rattle.mr_replay.specs.declared.rows.Standing.TheVariants.{CancelledBy}
use Rattle.mr_replay.specs.declared.rows.Trace.{Trace}
use Rattle.mr_replay.specs.declared.rows.Trace.TheVariants.{OfBooking}
use Rattle.mr_replay.specs.declared.rows.Row.{Row}
use Rattle.mr_replay.specs.Places.{UndoRow}
use Rattle.mr_replay.specs.Rows.{Rows, row_at, row_of, undo_row_at, undone_all}

-- ---- lists of writes

-- no id stands twice
abbrev pub AreDistinct : List Id → Type 0
AreDistinct [] = Unit {0}
AreDistinct (i ∷ is) = (is_among i is ≡ false) × AreDistinct is

abbrev pub HaveDistinctIds : List Write → Type 0
HaveDistinctIds ws = AreDistinct (map id_of ws)

-- all these writes are of the room
abbrev pub AreOfRoom : Text → List Write → Type 0
AreOfRoom room ws = AllByRecursion (λ w. w.room ≡ room) ws

-- ---- ids that are not on a board

-- the row bears the mark of this cancel
abbrev pub bears : Id → Trace → Bool
bears i (OfBooking slot length title (CancelledBy c)) = same_id c i
bears i _ = false

-- the id has no row, and is the mark of none
pub record IsNew (b : Rows) (i : Id) : Type 0 where
  pub no_row : row_at b i ≡ None
  pub no_mark : AllByRecursion (λ row. bears i row.trace ≡ false) (values_of b)

-- none of these writes has a row
abbrev pub HaveNoRows : Rows → List Write → Type 0
HaveNoRows b ws = AllByRecursion (λ w. row_at b (id_of w) ≡ None) ws

-- their ids are different, and none of them is on the board
abbrev pub AreNew : Rows → List Write → Type 0
AreNew b ws = HaveDistinctIds ws × AllByRecursion (λ w. IsNew b (id_of w)) ws

-- ---- what a board holds

-- what is told of a room's list
abbrev pub told_list : List Write → List Told
told_list ws = tell (placed_with false ws (replay ws))

-- the row that a told write has: at its place, with the mark of the cancel that took it back
abbrev pub told_row : Told → Option Row
told_row t = row_of t.write t.place (option_map (λ c. id_of c.write) t.cancelled_by)

abbrev pub row_if : Option Told → Option Row
row_if None = None
row_if (Some t) = told_row t

-- the row that an id has by what is told
abbrev pub row_in : List Told → Id → Option Row
row_in ts i = row_if (told_of i ts)

-- the row, if it is of the room
abbrev pub if_of : Text → Option Row → Option Row
if_of room None = None
if_of room (Some row) = if bytes_eq row.room room then Some row else None

-- in this room the board has for each id the row that the replay of these writes gives it, and none for any other id
abbrev pub HoldsIn : Text → List Write → Rows → Type 0
HoldsIn room ws b = (i : Id) → if_of room (row_at b i) ≡ row_in (told_list ws) i

-- in each room it has what the replay of that room's list gives: each booking that stands is booked at its choice, each one that
-- was taken back bears its cancel's id, each logged one is in the error log, each cancel that is Void is there with its target,
-- and nothing else is there
pub record HoldsEach (lists : Text → List Write) (b : Rows) : Type 0 where
  pub ordered : IsStrictlySortedBy id_cmp (keys_of b)
  pub rooms : (room : Text) → HoldsIn room (lists room) b

-- the same for writes of all rooms in one list, of which each room has its part
abbrev pub Holds : List Write → Rows → Type 0
Holds ws b = HoldsEach (λ room. of_room room ws) b

-- the lists, with another one for this room
abbrev pub with_list : Text → List Write → (Text → List Write) → Text → List Write
with_list room ws lists other = if bytes_eq other room then ws else lists other

-- ---- undo rows of a list

-- the undo row of a write that is executed after these
abbrev pub undo_row_after : List Write → Write → UndoRow
undo_row_after ws w = undo_row_at w (place_among (after [] (of_room w.room ws)) w)

-- the undo rows of these writes, executed in order after the first ones
abbrev pub undo_rows_after : List Write → List Write → List UndoRow
undo_rows_after ws [] = []
undo_rows_after ws (v ∷ vs) = undo_row_after ws v ∷ undo_rows_after (ws ++ v ∷ []) vs

-- ---- replaying in one room

-- the room's list ends in writes whose undo rows these are; the other writes are of the room, repeat no id of the writes that stay
-- there, and have no rows once the last ones are undone
pub record CanReplay (lists : Text → List Write) (room : Text) (front tail : List Write) (b : Rows) (undone : List UndoRow) (again : List Write) : Type 0 where
  pub holds : HoldsEach lists b
  pub parts : lists room ≡ front ++ tail
  pub distinct : HaveDistinctIds (front ++ tail)
  pub of_room : AreOfRoom room (front ++ tail)
  pub rows : undone ≡ undo_rows_after front tail
  pub again_of_room : AreOfRoom room again
  pub again_distinct : HaveDistinctIds (front ++ again)
  pub again_new : HaveNoRows (undone_all b undone) again
