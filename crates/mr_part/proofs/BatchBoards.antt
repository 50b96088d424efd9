-- What a batch makes of a board with the rows of the rooms that it touches, or with their bookings: what may move is undone on it, and
-- what is executed anew is executed.
use Rattle.std.proofs.Common.{◌≡◌, refl, sym, subst, Bool, true, List, [], ◌∷◌, map, Option}
use Rattle.std.specs.List.{filter}
use Rattle.mr_model.specs.Texts.{Text}
use Rattle.mr_model.specs.Writes.{Write}
use Rattle.mr_model.specs.Replay.{Place}
use Rattle.mr_model.specs.Replica.{Replica, IsReplica, tentative, order_of}
use Rattle.mr_model.specs.Exchange.{Item}
use Rattle.mr_model.specs.View.{of_room, place_of}
use Rattle.mr_model.specs.Dropped.{Has}
use Rattle.mr_model.specs.Moving.{may_move, again, BatchMoves}
use Rattle.mr_model.proofs.KnownById.{tentative_known}
use Rattle.mr_model.proofs.Members.{filter_has}
use Rattle.mr_replay.specs.declared.rows.Row.{Row}
use Rattle.mr_replay.specs.Places.{UndoRow}
use Rattle.mr_replay.specs.Rows.{Rows, place_by_rows, executed, undo_row_at, undone_all, executed_all, undo_rows_of}
use Rattle.mr_replay.proofs.Entries.{IsInOrder}
use Rattle.mr_replay.proofs.OneRoom.{PartHas}
use Rattle.mr_part.specs.Logged.{undo_with}
use Rattle.mr_part.proofs.Replays.{IsView, StandLast, rows-undone, rows-executed}

-- the tentative writes that may move
abbrev pub moving : Replica → List Item → Replica → List Write
moving a items r = filter (may_move a items) (tentative r)

-- what undoes writes that get these places
pub undo_rows_are : (f : Write → Place) (b : Rows) (ws : List Write) → map (λ u. u.place) (undo_rows_of b ws) ≡ map f ws → undo_rows_of b ws ≡ map (undo_with f) ws
undo_rows_are f b [] e = refl
undo_rows_are f b (w ∷ ws) e =
    let all : place_by_rows b w ∷ map (λ (u : UndoRow). u.place) (undo_rows_of (executed b w) ws) ≡ f w ∷ map f ws = e in
    let here : place_by_rows b w ≡ f w = (cc) in
    let more : map (λ (u : UndoRow). u.place) (undo_rows_of (executed b w) ws) ≡ map f ws = (cc) in
    let rest = undo_rows_are f (executed b w) ws more in
    λ i. undo_row_at w (here i) ∷ rest i

-- the rows that undo them
abbrev pub undone_rows : Replica → List Item → List UndoRow
undone_rows a items = map (undo_with (place_of a)) (moving a items a)

-- the board once they are undone, and once what is executed anew is executed
abbrev pub board_left : Replica → List Item → Rows → Rows
board_left a items board = undone_all board (undone_rows a items)

module _ (a b : Replica) (items : List Item) (m : BatchMoves a b items) (sound : IsReplica a) where
  abbrev pub board_anew : Rows → Rows
  board_anew board = executed_all (board_left a items board) (again a items m.news b)

  -- where these rooms are looked at
  module _ (mine : Text → Bool) (mine_moving : (w : Write) → Has w (moving a items a) → mine w.room ≡ true) (mine_anew : (w : Write) → Has w (again a items m.news b) → mine w.room ≡ true) where
    last_moving : StandLast a mine (λ room. (m.rooms room).front) (moving a items a)
    last_moving = record {
      sound = sound;
      lists = λ room. (m.rooms room).was;
      known = λ w h. (tentative_known a w (filter_has (may_move a items) w (tentative a) h).0).0;
      mine_all = mine_moving;
    }

    last_anew : StandLast b mine (λ room. (m.rooms room).front) (again a items m.news b)
    last_anew = record {
      sound = m.sound;
      lists = λ room. (m.rooms room).is;
      known = λ w h. (m.moved w h).0;
      mine_all = mine_anew;
    }

    -- what is executed anew gets the places that it has, and each of the rooms has what it has now
    pub record ShowsAnew (see : Text → Option Row → Option Row) (given : Option Row → Option Row) (board : Rows) : Type 0 where
      pub places : map (λ u. u.place) (undo_rows_of (board_left a items board) (again a items m.news b)) ≡ map (place_of b) (again a items m.news b)
      pub has : (room : Text) → mine room ≡ true → PartHas (see room) given (of_room room (order_of b)) (board_anew board)

    pub shows_anew : (see : Text → Option Row → Option Row) (given : Option Row → Option Row) (board : Rows) → IsView see given → IsInOrder board
        → ((room : Text) → mine room ≡ true → PartHas (see room) given (of_room room (order_of a)) board) → ShowsAnew see given board
    shows_anew see given board v ordered has =
        let front = λ (room : Text). (m.rooms room).front in
        let left = rows-undone a mine front (moving a items a) last_moving see given v board ordered
        (λ room t. subst (λ (ws : List Write). PartHas (see room) given ws board) (m.rooms room).was (has room t)) in
        let done = rows-executed b mine front (again a items m.news b) last_anew see given v (board_left a items board) left.1 left.0 in
        record {
          places = done.0;
          has = λ room t. subst (λ (ws : List Write). PartHas (see room) given ws (board_anew board)) (sym (m.rooms room).is) (done.1 room t);
        }
