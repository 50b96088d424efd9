-- What the words of a submission, once read, say of the step that it is.
use Rattle.std.proofs.Common.{◌≡◌, refl, ap, Bool, true, false, not, ltb, List, [], ◌∷◌, length, Option, Some, None, Result, Ok, Err}
use Rattle.std.specs.List.{list_any}
use Rattle.mr_model.specs.Writes.{is_room_name, is_title, greatest_alternatives, greatest_count, greatest_time}
use Rattle.mr_model.specs.Requests.{Request}
use Rattle.mr_model.specs.Refusals as model
use Rattle.mr_model.specs.Replica.{Replica, count_of, clock_of, knows_room}
use Rattle.mr_model.specs.Step.{Submission, choice_words, is_bad_length, write_of, after_write, step_unless, refuse, submit}
use Rattle.mr_part.specs.Steps.{word_faults, request_in}
use Rattle.mr_service.specs.SubmittedWords.{lacks_day, lacks_time, ok_unless, request_or_fault}
use Rattle.std.specs.Prelude.{◌==◌}

-- words that are read are at no fault
pub request_known : (s : Submission) (q : Request) → request_or_fault s ≡ Ok q → (model.first_refusal (word_faults s) ≡ None) × (request_in s ≡ q)
request_known s q h = go (model.first_refusal (word_faults s)) h
  where
    go : (o : Option model.Refusal) → ok_unless o (request_in s) ≡ Ok q → (o ≡ None) × (request_in s ≡ q)
    go None k = (refl, (let g : ◌≡◌ {A = Result Request model.Refusal} (Ok (request_in s)) (Ok q) = k in cc))
    go (Some e) k = absurd (let g : ◌≡◌ {A = Result Request model.Refusal} (Err e) (Ok q) = k in cc)

-- the six faults of the words, and those behind them
abbrev pub six : Bool → Bool → Bool → Bool → Bool → Bool → List (Bool × model.Refusal) → Option model.Refusal
six a b c d e f more =
    model.first_refusal
    ((a, model.BadDay) ∷ (b, model.BadTime) ∷ (c, model.BadLength) ∷ (d, model.BadRoomName) ∷ (e, model.BadTitle) ∷ (f, model.TooManyAlternatives) ∷ more)

-- a fault of the words comes before those behind them
six_refuse : (a b c d e f : Bool) (more : List (Bool × model.Refusal)) (q : Request) (x : model.Refusal) → ok_unless (six a b c d e f []) q ≡ Err x → six a b c d e f more ≡ Some x
six_refuse true b c d e f more q x h = let g : ◌≡◌ {A = Result Request model.Refusal} (Err model.BadDay) (Err x) = h in cc
six_refuse false true c d e f more q x h = let g : ◌≡◌ {A = Result Request model.Refusal} (Err model.BadTime) (Err x) = h in cc
six_refuse false false true d e f more q x h = let g : ◌≡◌ {A = Result Request model.Refusal} (Err model.BadLength) (Err x) = h in cc
six_refuse false false false true e f more q x h = let g : ◌≡◌ {A = Result Request model.Refusal} (Err model.BadRoomName) (Err x) = h in cc
six_refuse false false false false true f more q x h = let g : ◌≡◌ {A = Result Request model.Refusal} (Err model.BadTitle) (Err x) = h in cc
six_refuse false false false false false true more q x h = let g : ◌≡◌ {A = Result Request model.Refusal} (Err model.TooManyAlternatives) (Err x) = h in cc
six_refuse false false false false false false more q x h = absurd (let g : ◌≡◌ {A = Result Request model.Refusal} (Ok q) (Err x) = h in cc)

-- a fault of the words is what the submission is refused with
pub submit_refused : (r : Replica) (s : Submission) (e : model.Refusal) → request_or_fault s ≡ Err e → submit r s ≡ refuse r e
submit_refused r s e h =
    ap (λ o. step_unless r o (after_write r (write_of r s)))
    (six_refuse (list_any lacks_day (choice_words s)) (list_any lacks_time (choice_words s)) (is_bad_length s)
    (not (is_room_name s.room)) (not (is_title s.title)) (ltb greatest_alternatives (length s.alternatives))
    ((not (knows_room r s.room), model.UnknownRoom) ∷ (clock_of r == greatest_time, model.ClockExhausted) ∷ (count_of r r.server == greatest_count, model.CountExhausted) ∷ [])
    (request_in s) e h)
