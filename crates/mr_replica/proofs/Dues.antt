-- Refusals that a desk returns before it makes a part are those of the step.
use Rattle.std.proofs.Common.{◌≡◌, ℕ, ◌≤◌, ◌<◌, refl, sym, ap, subst, inl, inr, Bool, true, false, not, ◌&&◌, ◌||◌, nat_le, eqb, List, [], ◌∷◌, ◌∙◌, Option, Some, None, Err, arith}
use Rattle.std.specs.Prelude.{bytes_eq}
use Rattle.std.specs.List.{filter, find, list_any}
use Rattle.std.specs.Option.{is_some}
use Rattle.std.proofs.lemmas.Bool.{true≢false, and_parts, and_from, cond-true, cond-false, or_left, or_right}
use Rattle.std.proofs.lemmas.Bool.Decides.{nat_tests}
use Rattle.mr_model.specs.Texts.{Text}
use Rattle.mr_model.specs.Writes.{Id, is_room_name, same_id, greatest_count, greatest_time}
use Rattle.mr_model.specs.Requests.{Request, stamped}
use Rattle.mr_model.specs.Refusals.{BadRoomName, RoomThere, UnknownRoom, NoSuchRequest, ClockExhausted, CountExhausted, first_refusal}
use Rattle.mr_model.specs.Dropped.{Has}
use Rattle.mr_model.specs.Queries.{booking_id, error_id, cancelled_id}
use Rattle.mr_model.specs.Replica.{Replica, knows_room, with_room, clock_of, count_of}
use Rattle.mr_model.specs.Replies.{Reply, RoomAdded}
use Rattle.mr_model.specs.Step.{After, refuse, step_unless, add_room, after_write, next_stamp, knows_booking}
use Rattle.mr_model.specs.RowsInScope.{HasRowOfRoom, booked, logged, cancelled}
use Rattle.mr_model.specs.Scopes.{OfTarget, in_scope}
use Rattle.mr_model.specs.Tables.{BookingRow, ErrorRow, CancelledRow, Tables, Stands, tables_of}
use Rattle.mr_model.proofs.InScope.{target_known}
use Rattle.mr_model.proofs.Members.{any_has, filter_has, find_has, has_filter}
use Rattle.mr_model.proofs.MembersAlike.{bool_same}
use Rattle.mr_agree.proofs.AgreeCounts.{vector-at}
use Rattle.mr_base.specs.declared.refusals.Refusal.{Refusal}
use Rattle.mr_base.specs.declared.refusals.Refusal.TheVariants as refusal
use Rattle.mr_base.specs.RefusalViews.{refusal_of}
use Rattle.mr_part.specs.Steps.{submit_request, cancel_request, cancel_with}
use Rattle.mr_part.proofs.Submitting.{Submits, Withdraws, submits, withdraws}
use Rattle.mr_replay.proofs.Lists.{one_name, same_name}
use Rattle.mr_tables.specs.Summary.{stamp_next, summary_of}
use Rattle.mr_replica.specs.Desk.{DeskTakesStep}
use Rattle.mr_replica.specs.Dues.{has_booking_id, own_count, IsExhausted}
use Rattle.mr_replica.specs.Picked.{find_booking, find_error, find_cancelled}
use Rattle.mr_replica.proofs.NextIds.{stamp_told}
use Rattle.mr_replica.proofs.RowsById.{any_found}

-- the step from each replica is refused so
pub due_step : {T : Type 0} (f : Replica → After) (reply : Replica → T → Reply) (t : Tables) (e : Refusal)
    → ((a : Replica) → Stands t a → f a ≡ refuse a (refusal_of e)) → DeskTakesStep {T = T} f reply t (Err e) t
due_step f reply t e h = λ a s. inl (sym (ap (λ (x : After). x.reply) (h a s)), subst (Stands t) (sym (ap (λ (x : After). x.replica) (h a s))) s)

-- what the tables say of a room is what the replica knows
pub is_known_to : (room : Text) (a : Replica) {t u : Tables} {b : Bool} → t ≡ u → u ≡ tables_of a → b ≡ list_any (bytes_eq room) t.room → knows_room a room ≡ b
is_known_to room a view are told = ap (λ (s : Tables). list_any (bytes_eq room) s.room) (sym (view ∙ are)) ∙ sym told

-- the room is known
pub room_there : (room : Text) (a : Replica) → is_room_name room ≡ true → knows_room a room ≡ true → add_room a room ≡ refuse a RoomThere
room_there room a name known =
    (λ i. step_unless a (first_refusal ((not (name i), BadRoomName) ∷ (known i, RoomThere) ∷ [])) (record { reply = RoomAdded; replica = record a { rooms = with_room room a.rooms } }))

-- the room of the request, or of the cancel, is not
pub unknown_room : (q : Request) (a : Replica) → knows_room a q.room ≡ false → submit_request q a ≡ refuse a UnknownRoom
unknown_room q a none =
    (λ i. step_unless a (first_refusal ((not (none i), UnknownRoom) ∷ (eqb (clock_of a) greatest_time, ClockExhausted) ∷ (eqb (count_of a a.server) greatest_count, CountExhausted) ∷ []))
    (after_write a (stamped (next_stamp a) q)))

pub unknown_room_of_cancel : (room : Text) (target : Id) (a : Replica) → knows_room a room ≡ false → cancel_request room target a ≡ refuse a UnknownRoom
unknown_room_of_cancel room target a none =
    (λ i. step_unless a (first_refusal ((not (none i), UnknownRoom) ∷ (not (knows_booking a room target), NoSuchRequest) ∷
    (eqb (clock_of a) greatest_time, ClockExhausted) ∷ (eqb (count_of a a.server) greatest_count, CountExhausted) ∷ []))
    (after_write a (cancel_with room target (next_stamp a))))

-- ---- the clock, or the own count, is at the end

at_end : (n g : ℕ) → g ≤ n → nat_le g n ≡ true
at_end n g h = grind (arith, nat_tests)

under : (n g : ℕ) → n < g → nat_le g n ≡ false
under n g h = grind (arith, nat_tests)

-- so there is no next stamp
no_stamp : (t : Tables) (a : Replica) (e : Refusal) → Stands t a → IsExhausted t e → stamp_next (summary_of a) ≡ Err e
no_stamp t a e h (inl (is, late)) =
    stamp_told a h.sound
    ∙ cond-true (nat_le greatest_time (clock_of a)) (Err refusal.ClockExhausted) _ (ap (λ (s : Tables). nat_le greatest_time s.meta.clock) (sym h.are) ∙ at_end t.meta.clock greatest_time late)
    ∙ ap Err (sym is)
no_stamp t a e h (inr (is, early, full)) =
    stamp_told a h.sound
    ∙ cond-false (nat_le greatest_time (clock_of a)) (Err refusal.ClockExhausted) _ (ap (λ (s : Tables). nat_le greatest_time s.meta.clock) (sym h.are) ∙ under t.meta.clock greatest_time early)
    ∙ cond-true (nat_le greatest_count (count_of a a.server)) (Err refusal.CountExhausted) _
    (ap (nat_le greatest_count) (sym (ap own_count h.are ∙ ap (λ row. row.count) (vector-at a a.server h.sound))) ∙ at_end (own_count t) greatest_count full)
    ∙ ap Err (sym is)

pub exhausted_request : (q : Request) (t : Tables) (a : Replica) (e : Refusal) → Stands t a → knows_room a q.room ≡ true → IsExhausted t e → submit_request q a ≡ refuse a (refusal_of e)
exhausted_request q t a e h known end = subst (Submits a q) (no_stamp t a e h end) (submits a q h.sound known)

pub exhausted_cancel : (room : Text) (target : Id) (t : Tables) (a : Replica) (e : Refusal) → Stands t a → knows_room a room ≡ true → knows_booking a room target ≡ true
    → IsExhausted t e → cancel_request room target a ≡ refuse a (refusal_of e)
exhausted_cancel room target t a e h known has end = subst (Withdraws a room target) (no_stamp t a e h end) (withdraws a room target h.sound known has)

pub never_exhausted : (t : Tables) (e : Refusal) → IsExhausted t e → ¬ (e ≡ refusal.Store)
never_exhausted t e (inl (is, late)) bad = absurd (cc (sym is ∙ bad))
never_exhausted t e (inr (is, early, full)) bad = absurd (cc (sym is ∙ bad))

-- ---- a booking of the room has the id

module _ (room : Text) (target : Id) where
  abbrev is_it : {R : Type 0} → (R → Id) → (R → Text) → R → Bool
  is_it id name row = same_id (id row) target && bytes_eq (name row) room

  of_found : {R : Type 0} (id : R → Id) (name : R → Text) (rows : List R) (row : R) → find (is_it id name) rows ≡ Some row → Has row (filter (λ x. same_id (id x) target) rows) × (name row ≡ room)
  of_found id name rows row e =
      let (there, passes) = find_has (is_it id name) row rows e in
      let (same, named) = and_parts (same_id (id row) target) (bytes_eq (name row) room) passes in
      (has_filter (λ x. same_id (id x) target) row rows same there, one_name (name row) room named)

  is_found : {R : Type 0} (id : R → Id) (name : R → Text) (rows : List R) (row : R) → Has row (filter (λ x. same_id (id x) target) rows) → name row ≡ room → is_some (find (is_it id name) rows) ≡ true
  is_found id name rows row h named =
      let (there, same) = filter_has (λ x. same_id (id x) target) row rows h in
      sym (any_found id (is_it id name) rows) ∙ any_has (is_it id name) row rows (and_from (same_id (id row) target) (bytes_eq (name row) room) same (same_name (name row) room named)) there

  has_row : (t : Tables) → has_booking_id room target t ≡ true → HasRowOfRoom (in_scope (OfTarget target) t) room
  has_row t = go (find_booking room target t) refl (find_error room target t) refl (find_cancelled room target t) refl
    where
      go : (b : Option BookingRow) → find_booking room target t ≡ b → (e : Option ErrorRow) → find_error room target t ≡ e
          → (c : Option CancelledRow) → find_cancelled room target t ≡ c → (is_some b || is_some e || is_some c) ≡ true → HasRowOfRoom (in_scope (OfTarget target) t) room
      go (Some row) f e g c k h = let (there, named) = of_found booking_id (λ r. r.room) t.booking row f in booked row there named
      go None f (Some row) g c k h = let (there, named) = of_found error_id (λ r. r.room) t.errorlog row g in logged row there named
      go None f None g (Some row) k h = let (there, named) = of_found cancelled_id (λ r. r.room) t.cancelled row k in cancelled row there named
      go None f None g None k h = absurd (true≢false (sym h))

  row_has : (t : Tables) → HasRowOfRoom (in_scope (OfTarget target) t) room → has_booking_id room target t ≡ true
  row_has t (booked row there named) =
      or_left (is_some (find_booking room target t) || is_some (find_error room target t)) (is_some (find_cancelled room target t))
      (or_left (is_some (find_booking room target t)) (is_some (find_error room target t)) (is_found booking_id (λ r. r.room) t.booking row there named))
  row_has t (logged row there named) =
      or_left (is_some (find_booking room target t) || is_some (find_error room target t)) (is_some (find_cancelled room target t))
      (or_right (is_some (find_booking room target t)) (is_some (find_error room target t)) (is_found error_id (λ r. r.room) t.errorlog row there named))
  row_has t (cancelled row there named) =
      or_right (is_some (find_booking room target t) || is_some (find_error room target t)) (is_some (find_cancelled room target t))
      (is_found cancelled_id (λ r. r.room) t.cancelled row there named)

  -- what the tables say of it is what the replica knows
  pub booking_told : (a : Replica) {t u : Tables} {b : Bool} → t ≡ u → Stands u a → b ≡ has_booking_id room target t → knows_booking a room target ≡ b
  booking_told a {t} {u} view h told =
      let tells = target_known a room target h.sound in
      bool_same (knows_booking a room target) (has_booking_id room target (tables_of a)) (λ e. row_has (tables_of a) (tells.0 e)) (λ e. tells.1 (has_row (tables_of a) e))
      ∙ ap (has_booking_id room target) (sym (view ∙ h.are)) ∙ sym told
