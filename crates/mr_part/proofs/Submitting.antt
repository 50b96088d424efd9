-- A request or a cancel becomes the next write of a replica.
use Rattle.std.proofs.Common.{◌≡◌, ℕ, ◌+◌, ◌<◌, ◌≤◌, ◌==◌, ◌&&◌, not, nat_le, Bool, true, false, cond, [], ◌∷◌, Result, Ok, Err, ap, refl, sym, ◌∙◌, subst, arith, IsTrue}
use Rattle.std.proofs.lemmas.Bool.Decides.{nat_tests}
use Rattle.mr_model.specs.Texts.{Text}
use Rattle.mr_model.specs.Writes.{Id, Stamp, Write, is_stamp, is_id, id_in, is_room_name, is_meeting, greatest_count, greatest_time}
use Rattle.mr_model.specs.Requests.{Request, is_request, stamped}
use Rattle.mr_model.specs.Refusals as model
use Rattle.mr_model.specs.Replica.{Replica, IsReplica, count_of, clock_of, knows_room}
use Rattle.mr_model.specs.Changes.{IsNext}
use Rattle.mr_model.specs.Step.{After, step_unless, refuse, after_write, next_stamp, knows_booking}
use Rattle.mr_model.proofs.Orders.{is_next}
use Rattle.mr_model.proofs.StepsKeep.{none_apply, count_within, clock_within}
use Rattle.mr_base.specs.RefusalViews.{refusal_of}
use Rattle.mr_base.specs.declared.refusals.Refusal.{Refusal}
use Rattle.mr_base.specs.declared.refusals.Refusal.TheVariants.{ClockExhausted, CountExhausted}
use Rattle.mr_tables.specs.Summary.{summary_of, stamp_next}
use Rattle.mr_tables.proofs.Summaries.{tally-of}
use Rattle.mr_part.specs.Steps.{submit_request, cancel_with, cancel_request, word_faults, request_in, SubmissionsAreRequests, CancelsAreRequests, OtherCancelsAreRefused}

-- ---- the stamp

pub own_server : (a : Replica) → IsReplica a → a.server < 100
own_server a sound = let servers = sound.servers in grind (arith, nat_tests)

-- a write of the replica's own gets the next stamp, where neither its clock nor its count is at the end
abbrev stamp_step : Replica → (Stamp → Write) → After
stamp_step a make =
    step_unless a (model.first_refusal ((clock_of a == greatest_time, model.ClockExhausted) ∷ (count_of a a.server == greatest_count, model.CountExhausted) ∷ []))
    (after_write a (make (next_stamp a)))

-- what the step is, by the stamp that the numbers give
abbrev pub Accepts : Replica → (Stamp → Write) → After → Result Stamp Refusal → Type 0
Accepts a make step (Err e) = step ≡ refuse a (refusal_of e)
Accepts a make step (Ok stamp) = (stamp ≡ next_stamp a) × (step ≡ after_write a (make (next_stamp a))) × (clock_of a < greatest_time) × (count_of a a.server < greatest_count)

above : (n g : ℕ) → n ≤ g → nat_le g n ≡ (n == g)
above n g h = grind (arith, nat_tests)

below : (n g : ℕ) → n ≤ g → (n == g) ≡ false → n < g
below n g h e = grind (arith, nat_tests)

accepts : (a : Replica) (make : Stamp → Write) → IsReplica a → Accepts a make (stamp_step a make) (stamp_next (summary_of a))
accepts a make sound = subst (Accepts a make (stamp_step a make)) (sym stamp) (go (clock_of a == greatest_time) refl (count_of a a.server == greatest_count) refl)
  where
    stamp : stamp_next (summary_of a) ≡ cond (clock_of a == greatest_time) (Err ClockExhausted) (cond (count_of a a.server == greatest_count) (Err CountExhausted) (Ok (next_stamp a)))
    stamp =
        let tally = ap (λ x. x.count) (tally-of a a.server (own_server a sound)) in
        let time = above (clock_of a) greatest_time (clock_within a sound) in
        let count = ap (nat_le greatest_count) tally ∙ above (count_of a a.server) greatest_count (count_within a a.server sound) in
        λ t. cond (time t) (Err ClockExhausted) (cond (count t) (Err CountExhausted) (Ok (record { server = a.server; n = tally t + 1; time = clock_of a + 1 })))

    step_at : Bool → Bool → After
    step_at b c = step_unless a (model.first_refusal ((b, model.ClockExhausted) ∷ (c, model.CountExhausted) ∷ [])) (after_write a (make (next_stamp a)))

    stamp_at : Bool → Bool → Result Stamp Refusal
    stamp_at b c = cond b (Err ClockExhausted) (cond c (Err CountExhausted) (Ok (next_stamp a)))

    go : (b : Bool) → (clock_of a == greatest_time) ≡ b → (c : Bool) → (count_of a a.server == greatest_count) ≡ c
        → Accepts a make (stamp_step a make) (stamp_at (clock_of a == greatest_time) (count_of a a.server == greatest_count))
    go true e c f = subst (λ x. Accepts a make (stamp_step a make) (stamp_at x (count_of a a.server == greatest_count))) (sym e) (λ t. step_at (e t) (count_of a a.server == greatest_count))
    go false e true f = subst (Accepts a make (stamp_step a make)) (λ t. stamp_at (sym e t) (sym f t)) (λ t. step_at (e t) (f t))
    go false e false f =
        subst (Accepts a make (stamp_step a make)) (λ t. stamp_at (sym e t) (sym f t))
        (refl, λ t. step_at (e t) (f t), below (clock_of a) greatest_time (clock_within a sound) e, below (count_of a a.server) greatest_count (count_within a a.server sound) f)

-- of a request
abbrev pub Submits : Replica → Request → Result Stamp Refusal → Type 0
Submits a q stamp = Accepts a (λ t. stamped t q) (submit_request q a) stamp

pub submits : (a : Replica) (q : Request) → IsReplica a → knows_room a q.room ≡ true → Submits a q (stamp_next (summary_of a))
submits a q sound known = subst (λ step. Accepts a (λ t. stamped t q) step (stamp_next (summary_of a))) is (accepts a (λ t. stamped t q) sound)
  where
    is : stamp_step a (λ t. stamped t q) ≡ submit_request q a
    is = λ t.
        step_unless a
        (model.first_refusal
        ((not (sym known t), model.UnknownRoom) ∷ (clock_of a == greatest_time, model.ClockExhausted) ∷ (count_of a a.server == greatest_count, model.CountExhausted) ∷ []))
        (after_write a (stamped (next_stamp a) q))

-- and of a cancel
abbrev pub Withdraws : Replica → Text → Id → Result Stamp Refusal → Type 0
Withdraws a room target stamp = Accepts a (cancel_with room target) (cancel_request room target a) stamp

pub withdraws : (a : Replica) (room : Text) (target : Id) → IsReplica a → knows_room a room ≡ true → knows_booking a room target ≡ true → Withdraws a room target (stamp_next (summary_of a))
withdraws a room target sound known booked = subst (λ step. Accepts a (cancel_with room target) step (stamp_next (summary_of a))) is (accepts a (cancel_with room target) sound)
  where
    is : stamp_step a (cancel_with room target) ≡ cancel_request room target a
    is = λ t.
        step_unless a
        (model.first_refusal
        ((not (sym known t), model.UnknownRoom) ∷ (not (sym booked t), model.NoSuchRequest) ∷ (clock_of a == greatest_time, model.ClockExhausted)
        ∷ (count_of a a.server == greatest_count, model.CountExhausted) ∷ []))
        (after_write a (cancel_with room target (next_stamp a)))

-- which is refused where the booking isn't known
pub not_booked : (a : Replica) (room : Text) (target : Id) → knows_room a room ≡ true → knows_booking a room target ≡ false → cancel_request room target a ≡ refuse a model.NoSuchRequest
not_booked a room target known none = λ t.
    step_unless a
    (model.first_refusal
    ((not (known t), model.UnknownRoom) ∷ (not (none t), model.NoSuchRequest) ∷ (clock_of a == greatest_time, model.ClockExhausted)
    ∷ (count_of a a.server == greatest_count, model.CountExhausted) ∷ []))
    (after_write a (cancel_with room target (next_stamp a)))

-- ---- the write

-- with that stamp it is within the limits
all_parts : (s r m : Bool) → s ≡ true → (r && m) ≡ true → (s && r && m) ≡ true
all_parts s r m p q = grind (arith, nat_tests)

both_parts : (s r m : Bool) → s ≡ true → r ≡ true → m ≡ true → (s && r && m) ≡ true
both_parts s r m p q t = grind (arith, nat_tests)

next_is_stamp : (a : Replica) → IsReplica a → clock_of a < greatest_time → count_of a a.server < greatest_count → is_stamp (next_stamp a) ≡ true
next_is_stamp a sound late full =
    let server = sound.servers in
    grind (arith, nat_tests)

pub submitted_is_next : (a : Replica) (q : Request) → IsReplica a → IsTrue (is_request q) → clock_of a < greatest_time → count_of a a.server < greatest_count → IsNext a (stamped (next_stamp a) q)
submitted_is_next a q sound within late full =
    is_next a (stamped (next_stamp a) q) (all_parts (is_stamp (next_stamp a)) (is_room_name q.room) (is_meeting q.meeting) (next_is_stamp a sound late full) within) refl

pub cancelled_is_next : (a : Replica) (room : Text) (target : Id) → IsReplica a → IsTrue (is_room_name room) → IsTrue (is_id target)
    → clock_of a < greatest_time → count_of a a.server < greatest_count → IsNext a (cancel_with room target (next_stamp a))
cancelled_is_next a room target sound name id late full =
    is_next a (cancel_with room target (next_stamp a)) (both_parts (is_stamp (next_stamp a)) (is_room_name room) (is_id target) (next_is_stamp a sound late full) name id) refl

-- ---- words

pub submission_is_request : SubmissionsAreRequests
submission_is_request r s none =
    let f = none_apply (word_faults s) none in
    λ t. step_unless r
    (model.first_refusal
    ((f.0 t, model.BadDay) ∷ (f.1.0 t, model.BadTime) ∷ (f.1.1.0 t, model.BadLength) ∷ (f.1.1.1.0 t, model.BadRoomName) ∷ (f.1.1.1.1.0 t, model.BadTitle)
    ∷ (f.1.1.1.1.1.0 t, model.TooManyAlternatives) ∷ (not (knows_room r s.room), model.UnknownRoom) ∷ (clock_of r == greatest_time, model.ClockExhausted)
    ∷ (count_of r r.server == greatest_count, model.CountExhausted) ∷ []))
    (after_write r (stamped (next_stamp r) (request_in s)))

pub cancel_is_request : CancelsAreRequests
cancel_is_request r room id name good = λ t.
    step_unless r
    (model.first_refusal
    ((not (name t), model.BadRoomName) ∷ (not (knows_room r room), model.UnknownRoom) ∷ (not (good t && knows_booking r room (id_in id)), model.NoSuchRequest)
    ∷ (clock_of r == greatest_time, model.ClockExhausted) ∷ (count_of r r.server == greatest_count, model.CountExhausted) ∷ []))
    (after_write r (cancel_with room (id_in id) (next_stamp r)))

pub other_cancels_refused : OtherCancelsAreRefused
other_cancels_refused r room id name bad = (λ t. at (name t) (bad t) (knows_room r room)) ∙ go (knows_room r room)
  where
    at : Bool → Bool → Bool → After
    at n b k =
        step_unless r
        (model.first_refusal
        ((not n, model.BadRoomName) ∷ (not k, model.UnknownRoom) ∷ (not (b && knows_booking r room (id_in id)), model.NoSuchRequest)
        ∷ (clock_of r == greatest_time, model.ClockExhausted) ∷ (count_of r r.server == greatest_count, model.CountExhausted) ∷ []))
        (after_write r (cancel_with room (id_in id) (next_stamp r)))

    go : (k : Bool) → at true false k ≡ refuse r (cond k model.NoSuchRequest model.UnknownRoom)
    go true = refl
    go false = refl
