-- What a submission or a cancel changes in the tables, and what its row tells.
use Rattle.std.proofs.Common.{◌≡◌, refl, sym, ap, ◌∙◌, subst, ◌+◌, ◌<◌, Bool, true, false, [], ◌∷◌, List, length, ◌⊎◌, inl, inr, Option, None, Some, arith}
use Rattle.std.proofs.lemmas.Bool.{false_from_ne_true}
use Rattle.std.specs.List.{cons_option, filter_map}
use Rattle.mr_model.specs.Slots.{Slot}
use Rattle.mr_model.specs.Writes.{Id, Meeting, Action, Books, Cancels, Write, id_of, same_id}
use Rattle.mr_model.specs.Replica.{Replica, IsReplica, clock_of, knows_room, add_write, is_committed}
use Rattle.mr_model.specs.Replay.{Place, Taken, Logged, Done, Void, slot_at}
use Rattle.mr_model.specs.View.{cancels_it, place_of, canceller_of}
use Rattle.mr_model.specs.Tables.{PlaceRow, seq_of, as_booking, as_error, as_cancel, cancel_row_for, booking_place_row, place_row_for, place_row, log_row, tables_of}
use Rattle.mr_model.specs.Changes.{IsNext, takes_back}
use Rattle.mr_model.specs.Step.{outcome_at}
use Rattle.mr_model.specs.Dropped.{Has}
use Rattle.mr_model.proofs.KnownById.{one_known}
use Rattle.mr_model.proofs.Members.{same_id_from, same_id-true}
use Rattle.mr_model.proofs.Orders.{added}
use Rattle.mr_model.proofs.OwnCancels.{others_stay, stands_itself, row_taken}
use Rattle.mr_model.proofs.RowsTell.{replies_tell}
use Rattle.mr_replay.specs.declared.rows.Row.{Row}
use Rattle.mr_replay.specs.Rows.{Rows, row_at, target_of, target_if_done as taken_back_by}
use Rattle.mr_tables.specs.declared.summary.Tally.{Tally}
use Rattle.mr_tables.specs.Change.{ChangeView, changed}
use Rattle.mr_tables.specs.Written.{with_places, written}
use Rattle.mr_tables.proofs.BoardsTold.{known_or_none, unknown_at}
use Rattle.mr_part.proofs.RowsPut.{vector_between, tallies_of, places-put, written_told}
use Rattle.mr_part.specs.Answering.{put_outcome, put_cancel_outcome}
use Rattle.mr_part.specs.Placing.{with_places_put, board_place, row_taken_back, taken_on, taken_rows_of, taken_rows}
use Rattle.mr_part.proofs.Placings.{if_placed, placed-here, board_of, of_row}
use Rattle.mr_part.proofs.Changing.{submit_given, GivesRows, last_numbered}
use Rattle.mr_model.proofs.SubmitRows.{submit_changes}
use Rattle.mr_model.proofs.WithWrite.{has_with_write}
use Rattle.mr_part.specs.Logged.{undo_with}

taken_on-row : (ts : List Tally) (by target : Id) (o : Option Row) → taken_on ts by target o ≡ row_taken_back by (of_row (board_place ts) target o)
taken_on-row ts by target None = refl
taken_on-row ts by target (Some row) = refl

-- a booking takes nothing back
pub booking_takes : (ts : List Tally) (b : Rows) (i : Id) (p : Place) → taken_rows_of ts b i (taken_back_by p None) ≡ []
booking_takes ts b i (Taken k) = refl
booking_takes ts b i Logged = refl
booking_takes ts b i Done = refl
booking_takes ts b i Void = refl

-- what is put where a write becomes the last of the order: its rows, and that of the booking that it takes back
abbrev pub last_put : Replica → Write → ChangeView
last_put a w =
    with_places_put
    (written (tables_of (add_write a w)).meta [] (vector_between a (add_write a w)) (length a.commits) (length a.commits + 1) (w ∷ []) (undo_with (place_of (add_write a w)) w ∷ []) (None ∷ []))
    (taken_rows (tallies_of a) (board_of a) (undo_with (place_of (add_write a w)) w))

module _ (a : Replica) (w : Write) (sound : IsReplica a) (next : IsNext a w) (late : clock_of a < w.stamp.time) (known : knows_room a w.room ≡ true) where
  sound' : IsReplica (add_write a w)
  sound' = added a w sound next

  -- ---- what it takes back

  nothing : ((v : Write) → Has v a.known → takes_back a w (id_of v) ≡ false) → GivesRows a (add_write a w) []
  nothing none = record {
    are_rows = λ row h. absurd h;
    has_others = λ v k. inl (sym (others_stay a w sound next late v k (none v k)));
  }

  one : (v : Write) (given : List PlaceRow) → Has v a.known → ((u : Write) → Has u a.known → takes_back a w (id_of u) ≡ true → u ≡ v)
      → given ≡ place_row (add_write a w) v ∷ [] → GivesRows a (add_write a w) given
  one v given k only e = subst (GivesRows a (add_write a w)) (sym e) (record {
    are_rows = λ row h. of_one row h;
    has_others = λ u h. other u h (takes_back a w (id_of u)) refl;
  })
    where
      of_one : (row : PlaceRow) → Has row (place_row (add_write a w) v ∷ []) → (u : Write) × Has u (add_write a w).known × (row ≡ place_row (add_write a w) u)
      of_one row (inl s) = (v, has_with_write w v a.known (inr k), s)
      of_one row (inr h) = absurd h

      other : (u : Write) → Has u a.known → (t : Bool) → takes_back a w (id_of u) ≡ t
          → (canceller_of a u ≡ canceller_of (add_write a w) u) ⊎ Has (place_row (add_write a w) u) (place_row (add_write a w) v ∷ [])
      other u g false t = inl (sym (others_stay a w sound next late u g t))
      other u g true t = inr (inl (ap (place_row (add_write a w)) (only u g t)))

  -- the row of a booking that is taken back, read off the board
  taken-known : (v : Write) (t : Id) → Has v a.known → id_of v ≡ t → takes_back a w (id_of v) ≡ true → taken_on (tallies_of a) (id_of w) t (row_at (board_of a) t) ≡ place_row (add_write a w) v ∷ []
  taken-known v t k s e =
      let (row, p, q) = row_taken a w sound next late v k e in
      taken_on-row (tallies_of a) (id_of w) t (row_at (board_of a) t)
      ∙ ap (λ i. row_taken_back (id_of w) (of_row (board_place (tallies_of a)) i (row_at (board_of a) i))) (sym s)
      ∙ ap (row_taken_back (id_of w)) (placed-here a v sound k ∙ ap if_placed p)
      ∙ ap (λ r. r ∷ []) (sym {a = place_row (add_write a w) v} q)

  taken_at : (x : Action) (p : Place) → w.action ≡ x → place_of (add_write a w) w ≡ p
      → GivesRows a (add_write a w) (taken_rows_of (tallies_of a) (board_of a) (id_of w) (taken_back_by p (target_of x)))
  taken_at (Books m) p e f =
      subst (GivesRows a (add_write a w)) (sym (booking_takes (tallies_of a) (board_of a) (id_of w) p))
      (nothing (λ v k. ap (λ x. cancels_it (id_of v) x (place_of (add_write a w) w)) e))
  taken_at (Cancels t) (Taken c) e f = nothing (λ v k. λ i. cancels_it (id_of v) (e i) (f i))
  taken_at (Cancels t) Logged e f = nothing (λ v k. λ i. cancels_it (id_of v) (e i) (f i))
  taken_at (Cancels t) Void e f = nothing (λ v k. λ i. cancels_it (id_of v) (e i) (f i))
  taken_at (Cancels t) Done e f = go (known_or_none t a.known)
    where
      takes : (v : Write) → takes_back a w (id_of v) ≡ same_id (id_of v) t
      takes v = λ i. cancels_it (id_of v) (e i) (f i)

      go : ((v : Write) × Has v a.known × (id_of v ≡ t)) ⊎ ((v : Write) → Has v a.known → id_of v ≡ t → ⊥) → GivesRows a (add_write a w) (taken_on (tallies_of a) (id_of w) t (row_at (board_of a) t))
      go (inl (v, k, s)) =
          one v (taken_on (tallies_of a) (id_of w) t (row_at (board_of a) t)) k
          (λ u g h. one_known a u v sound g k (same_id-true (id_of u) t (sym (takes u) ∙ h) ∙ sym s))
          (taken-known v t k s (takes v ∙ same_id_from (id_of v) t s))
      go (inr none) =
          subst (GivesRows a (add_write a w)) (sym (ap (taken_on (tallies_of a) (id_of w) t) (unknown_at a t none)))
          (nothing (λ v k. takes v ∙ false_from_ne_true (same_id (id_of v) t) (λ h. none v k (same_id-true (id_of v) t h))))

  -- ---- the change

  -- it makes the tables of the replica those of the replica with the write
  pub submit_turns : changed (last_put a w) (tables_of a) ≡ tables_of (add_write a w)
  submit_turns = submit_given a w (taken_rows (tallies_of a) (board_of a) (undo_with (place_of (add_write a w)) w)) sound next late known (taken_at w.action (place_of (add_write a w) w) refl refl)

  -- the row of the write comes first
  puts-rows : last_put a w ≡ with_places (tables_of (add_write a w)).meta [] (vector_between a (add_write a w)) (log_row (add_write a w) w ∷ [])
      (place_row (add_write a w) w ∷ taken_rows (tallies_of a) (board_of a) (undo_with (place_of (add_write a w)) w))
  puts-rows =
      let b = add_write a w in
      let given = taken_rows (tallies_of a) (board_of a) (undo_with (place_of b) w) in
      let number = length a.commits + 1 in
      (λ i. with_places_put
      (written (tables_of b).meta [] (vector_between a b) (length a.commits) number (w ∷ []) (undo_with (place_of b) w ∷ []) (sym (stands_itself a w sound next late) i ∷ [])) given)
      ∙ ap (λ c. with_places_put c given)
      (written_told b number (canceller_of b) (w ∷ []) [] (vector_between a b) (omega arith) (last_numbered a w (submit_changes a w sound next late known)) (λ v h. refl))
      ∙ places-put (tables_of b).meta [] (vector_between a b) (log_row b w ∷ []) (place_row b w ∷ []) given

  is_known : Has w (add_write a w).known
  is_known = has_with_write w w a.known (inl refl)

  own-row : (x : Action) → w.action ≡ x → place_row (add_write a w) w ≡ place_row_for w x (place_of (add_write a w) w) None (is_committed (add_write a w) (id_of w)) (seq_of (add_write a w) w)
  own-row x e = let stands = stands_itself a w sound next late in λ i. place_row_for w (e i) (place_of (add_write a w) w) (stands i) (is_committed (add_write a w) (id_of w)) (seq_of (add_write a w) w)

  -- the one row of a booking tells what became of it
  pub submit_tells : (m : Meeting) → w.action ≡ Books m → outcome_at (add_write a w) w ≡ put_outcome (last_put a w).booking (last_put a w).errorlog
  submit_tells m e =
      go (slot_at w (place_of (add_write a w) w)) (own-row (Books m) e)
      ∙ (λ i. put_outcome (filter_map as_booking (place_row (add_write a w) w ∷ sym none i)) (filter_map as_error (place_row (add_write a w) w ∷ sym none i)))
      ∙ sym (λ i. put_outcome (puts-rows i).booking (puts-rows i).errorlog)
    where
      none : taken_rows (tallies_of a) (board_of a) (undo_with (place_of (add_write a w)) w) ≡ []
      none = ap (λ x. taken_rows_of (tallies_of a) (board_of a) (id_of w) (taken_back_by (place_of (add_write a w) w) (target_of x))) e
          ∙ booking_takes (tallies_of a) (board_of a) (id_of w) (place_of (add_write a w) w)

      go : (o : Option Slot) → place_row (add_write a w) w ≡ booking_place_row w m o None (is_committed (add_write a w) (id_of w)) (seq_of (add_write a w) w)
          → outcome_at (add_write a w) w ≡ put_outcome (filter_map as_booking (place_row (add_write a w) w ∷ [])) (filter_map as_error (place_row (add_write a w) w ∷ []))
      go None q = (replies_tell (add_write a w) w sound' is_known).1 _ (ap as_error q) ∙ (λ i. put_outcome (cons_option (as_booking (sym q i)) []) (cons_option (as_error (sym q i)) []))
      go (Some s) q = (replies_tell (add_write a w) w sound' is_known).0 _ (ap as_booking q) ∙ (λ i. put_outcome (cons_option (as_booking (sym q i)) []) (cons_option (as_error (sym q i)) []))

  -- and so does that of a cancel
  pub cancel_tells : (t : Id) → w.action ≡ Cancels t → outcome_at (add_write a w) w ≡ put_cancel_outcome (last_put a w).cancels
  cancel_tells t e =
      let given = taken_rows (tallies_of a) (board_of a) (undo_with (place_of (add_write a w)) w) in
      let q = own-row (Cancels t) e in
      (replies_tell (add_write a w) w sound' is_known).2 (cancel_row_for w t (place_of (add_write a w) w) (seq_of (add_write a w) w)) (ap as_cancel q)
      ∙ (λ i. put_cancel_outcome (cons_option (as_cancel (sym q i)) (filter_map as_cancel given)))
      ∙ sym (λ i. put_cancel_outcome (puts-rows i).cancels)
