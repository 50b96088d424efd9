-- The places of executed writes, against those of the definitions.
use Rattle.std.proofs.Common.{◌≡◌, List, [], ◌∷◌, ◌++◌, map, ap, refl, sym, ◌∙◌, subst, append_assoc}
use Rattle.mr_model.specs.Texts.{Text}
use Rattle.mr_model.specs.Writes.{Write}
use Rattle.mr_model.specs.Replay.{place_among, replay}
use Rattle.mr_model.specs.Board.{after, place_on, replay_on, board_after, places_of_room}
use Rattle.mr_model.specs.View.{of_room}
use Rattle.mr_model.proofs.RoomsApart.{board_apart, rooms_apart, board_after-append}
use Rattle.mr_replay.specs.Places.{UndoRow}
use Rattle.mr_replay.specs.Rows.{Rows, undo_row_at, undo_row_of, executed, undo_rows_of}
use Rattle.mr_replay.specs.Holds.{HaveDistinctIds, AreOfRoom, HaveNoRows, HoldsEach, Holds, with_list, undo_row_after, undo_rows_after}
use Rattle.mr_replay.proofs.Lists.{distinct_front, distinct_back, with_list-own, of_room-front, of_room-next, part-all}
use Rattle.mr_replay.proofs.PlacesOnBoard.{same_place}
use Rattle.mr_replay.proofs.Holding.{Holds-empty, places-are, Holds-executed, HoldsEach-executed, new_after}

undo_row-after : (ws : List Write) (b : Rows) (w : Write) → HaveDistinctIds ws → Holds ws b → undo_row_of b w ≡ undo_row_after ws w
undo_row-after ws b w distinct holds =
    ap (undo_row_at w) (places-are ws b w distinct holds)

pub undo_rows-after : (ws vs : List Write) (b : Rows) → HaveDistinctIds (ws ++ vs) → Holds ws b → undo_rows_of b vs ≡ undo_rows_after ws vs
undo_rows-after ws [] b distinct holds = refl
undo_rows-after ws (v ∷ vs) b distinct holds =
    let distinct_joined = subst (λ (l : List Write). HaveDistinctIds l) (sym (append_assoc ws (v ∷ []) vs)) distinct in
    let here = undo_row-after ws b v (distinct_front ws (v ∷ vs) distinct) holds in
    let rest = undo_rows-after (ws ++ v ∷ []) vs (executed b v) distinct_joined (Holds-executed ws b v (distinct_front (ws ++ v ∷ []) vs distinct_joined) holds) in
    λ t. here t ∷ rest t

-- the same where the board holds lists room by room
undo_row-room : (lists : Text → List Write) (room : Text) (b : Rows) (w : Write) → HoldsEach lists b
    → HaveDistinctIds (lists room) → AreOfRoom room (lists room) → w.room ≡ room → undo_row_of b w ≡ undo_row_after (lists room) w
undo_row-room lists room b w holds distinct of_it is =
    ap (undo_row_at w)
    (same_place room (lists room) b w is holds.ordered distinct (holds.rooms room) ∙ ap (λ l. place_among (after [] l) w) (sym (part-all room w.room (lists room) is of_it)))

pub undo_rows-room : (lists : Text → List Write) (room : Text) (vs : List Write) (b : Rows) → HoldsEach lists b
    → HaveDistinctIds (lists room ++ vs) → AreOfRoom room (lists room ++ vs) → HaveNoRows b vs → undo_rows_of b vs ≡ undo_rows_after (lists room) vs
undo_rows-room lists room [] b holds distinct of_it new = refl
undo_rows-room lists room (v ∷ vs) b holds distinct of_it new =
    let here = undo_row-room lists room b v holds (distinct_front (lists room) (v ∷ vs) distinct) (of_room-front room (lists room) (v ∷ vs) of_it) is in
    let rest =
    undo_rows-room pushed room vs (executed b v) (HoldsEach-executed lists room b v is (distinct_front (lists room ++ v ∷ []) vs distinct_joined) new.0 holds) distinct_pushed of_pushed
    (new_after b v vs new.0 (distinct_back (lists room) (v ∷ vs) distinct).0 new.1)
    ∙ ap (λ l. undo_rows_after l vs) own in
    λ t. here t ∷ rest t
  where
    is : v.room ≡ room
    is = of_room-next room (lists room) v vs of_it

    pushed : Text → List Write
    pushed = with_list room (lists room ++ v ∷ []) lists

    own : pushed room ≡ lists room ++ v ∷ []
    own = with_list-own room (lists room ++ v ∷ []) lists

    distinct_joined : HaveDistinctIds ((lists room ++ v ∷ []) ++ vs)
    distinct_joined = subst (λ (l : List Write). HaveDistinctIds l) (sym (append_assoc (lists room) (v ∷ []) vs)) distinct

    distinct_pushed : HaveDistinctIds (pushed room ++ vs)
    distinct_pushed = subst (λ (l : List Write). HaveDistinctIds (l ++ vs)) (sym own) distinct_joined

    of_pushed : AreOfRoom room (pushed room ++ vs)
    of_pushed = subst (λ (l : List Write). AreOfRoom room (l ++ vs)) (sym own) (subst (λ (l : List Write). AreOfRoom room l) (sym (append_assoc (lists room) (v ∷ []) vs)) of_it)

-- the places in the undo rows of a list are those that the definitions give on the board of the writes before
places-after : (ws vs : List Write) → map (λ u. u.place) (undo_rows_after ws vs) ≡ replay_on (board_after [] ws) vs
places-after ws [] = refl
places-after ws (v ∷ vs) =
    let here : place_among (after [] (of_room v.room ws)) v ≡ place_on (board_after [] ws) v = ap (λ bs. place_among bs v) (sym (board_apart v.room [] ws)) in
    let rest = places-after (ws ++ v ∷ []) vs ∙ ap (λ board. replay_on board vs) (board_after-append [] ws (v ∷ [])) in
    λ t. here t ∷ rest t

pub places-board : (ws vs : List Write) (b : Rows) → HaveDistinctIds (ws ++ vs) → Holds ws b → map (λ u. u.place) (undo_rows_of b vs) ≡ replay_on (board_after [] ws) vs
places-board ws vs b distinct holds = ap (map (λ (u : UndoRow). u.place)) (undo_rows-after ws vs b distinct holds) ∙ places-after ws vs

pub places-room : (ws : List Write) (room : Text) → HaveDistinctIds ws → places_of_room room ws (map (λ u. u.place) (undo_rows_of [] ws)) ≡ replay (of_room room ws)
places-room ws room distinct = ap (places_of_room room ws) (places-board [] ws [] distinct Holds-empty) ∙ rooms_apart room [] ws
