-- The steps of a desk's calls leave replicas, and one that is refused leaves its replica.
use Rattle.std.proofs.Common.{List, true, ◌≡◌, ◌<◌, ◌≤◌, ◌==◌, arith, not, Bool, false, eqb, ℕ, [], ◌∷◌, Option, Some, None, Result, Ok, Err, IsTrue}
use Rattle.std.proofs.lemmas.Bool.{eqb-false, and_parts}
use Rattle.std.specs.List.{AllByRecursion, list_all}
use Rattle.mr_model.specs.Texts.{Text, only_if}
use Rattle.mr_model.specs.Writes.{Id, Write, greatest_time, greatest_count, is_room_name, is_id}
use Rattle.mr_model.specs.Requests.{Request, is_request, stamped}
use Rattle.mr_model.specs.Refusals.{Refusal, UnknownRoom, NoSuchRequest, ClockExhausted, CountExhausted, WrongPrimary, first_refusal}
use Rattle.mr_model.specs.Replica.{Replica, IsReplica, clock_of, count_of, knows_room, add_write}
use Rattle.mr_model.specs.Exchange.{Header, Item, Batch, Version, is_batch, is_batch_of, is_header, is_item}
use Rattle.mr_model.specs.Changes.{IsNext}
use Rattle.mr_model.specs.Replies.{Refused}
use Rattle.mr_model.specs.Step.{After, AddRoom, Commit, Truncate, add_room, commit, truncate, receive_batch, receive_under, after_items, after_write, next_stamp, knows_booking}
use Rattle.mr_model.specs.Taking.{Progress, take_items}
use Rattle.mr_model.proofs.ChangesKeep.{keeps-add_write}
use Rattle.mr_model.proofs.StepsKeep.{step_keeps, none_apply, clock_within, count_within}
use Rattle.mr_model.proofs.TakingKeeps.{unless_keeps, KeepsReplica, items_keep, IsItem, versions_item}
use Rattle.mr_part.specs.Steps.{submit_request, cancel_request, cancel_with}
use Rattle.mr_part.proofs.Submitting.{submitted_is_next, cancelled_is_next}
use Rattle.mr_replica.proofs.RefusedSteps.{unless_leaves, accepted, receive_leaves, refused_leaves}

-- it leaves a replica, and the same one where it is refused
pub record IsStep (f : Replica → After) (a : Replica) : Type 0 where
  pub keeps : IsReplica (f a).replica
  pub leaves : (e : Refusal) → (f a).reply ≡ Refused e → (f a).replica ≡ a

pub room_step : (t : Text) (a : Replica) → IsReplica a → IsStep (λ a. add_room a t) a
room_step t a h = record { keeps = step_keeps a (AddRoom t) h; leaves = λ e is. refused_leaves a (AddRoom t) e h is }

pub commit_step : (k : ℕ) (a : Replica) → IsReplica a → IsStep (λ a. commit a k) a
commit_step k a h = record { keeps = step_keeps a (Commit k) h; leaves = λ e is. refused_leaves a (Commit k) e h is }

pub truncate_step : (n : ℕ) (a : Replica) → IsReplica a → IsStep (λ a. truncate a n) a
truncate_step n a h = record { keeps = step_keeps a (Truncate n) h; leaves = λ e is. refused_leaves a (Truncate n) e h is }

-- ---- the next write

next_stays : (a : Replica) (w : Write) → IsReplica a → IsNext a w → IsReplica (add_write a w)
next_stays a w h next = keeps-add_write a w h next.is_write next.number next.late

-- below the limit, or at it
below : (n most : ℕ) → n ≤ most → (n == most) ≡ false → n < most
below n most few other = let e = eqb-false n most other in omega (arith, few, e)

pub submit_step : (q : Request) → IsTrue (is_request q) → (a : Replica) → IsReplica a → IsStep (submit_request q) a
submit_step q good a h = record {
  keeps = unless_keeps a (first_refusal faults) (after_write a w) h there;
  leaves = λ e is. unless_leaves a (first_refusal faults) (after_write a w) e (λ none bad. absurd (accepted a w e (there none) bad)) is;
}
  where
    w : Write
    w = stamped (next_stamp a) q

    faults : List (Bool × Refusal)
    faults = (not (knows_room a q.room), UnknownRoom) ∷ (clock_of a == greatest_time, ClockExhausted) ∷ (count_of a a.server == greatest_count, CountExhausted) ∷ []

    there : first_refusal faults ≡ None → IsReplica (add_write a w)
    there none =
        let f = none_apply faults none in
        next_stays a w h (submitted_is_next a q h good (below (clock_of a) greatest_time (clock_within a h) f.1.0) (below (count_of a a.server) greatest_count (count_within a a.server h) f.1.1.0))

pub cancel_step : (room : Text) (target : Id) → IsTrue (is_room_name room) → IsTrue (is_id target) → (a : Replica) → IsReplica a → IsStep (cancel_request room target) a
cancel_step room target name id a h = record {
  keeps = unless_keeps a (first_refusal faults) (after_write a w) h there;
  leaves = λ e is. unless_leaves a (first_refusal faults) (after_write a w) e (λ none bad. absurd (accepted a w e (there none) bad)) is;
}
  where
    w : Write
    w = cancel_with room target (next_stamp a)

    faults : List (Bool × Refusal)
    faults =
        (not (knows_room a room), UnknownRoom) ∷ (not (knows_booking a room target), NoSuchRequest) ∷ (clock_of a == greatest_time, ClockExhausted)
        ∷ (count_of a a.server == greatest_count, CountExhausted) ∷ []

    there : first_refusal faults ≡ None → IsReplica (add_write a w)
    there none =
        let f = none_apply faults none in
        next_stays a w h (cancelled_is_next a room target h name id (below (clock_of a) greatest_time (clock_within a h) f.1.1.0)
        (below (count_of a a.server) greatest_count (count_within a a.server h) f.1.1.1.0))

-- ---- a batch

all_within : (v : Version) (items : List Item) → list_all (is_item v) items ≡ true → AllByRecursion IsItem items
all_within v [] h = tt
all_within v (x ∷ xs) h = let p = and_parts (is_item v x) (list_all (is_item v) xs) h in (versions_item v x p.0, all_within v xs p.1)

pub batch_step : (b : Batch) → IsTrue (is_batch b) → (a : Replica) → IsReplica a → IsStep (λ a. receive_batch a b) a
batch_step b good a h = record {
  keeps = under b.header good;
  leaves = λ e is. receive_leaves a (Ok b) e is;
}
  where
    after : (o : Result Progress Refusal) → KeepsReplica o → IsReplica (after_items a o).replica
    after (Ok p) k = k
    after (Err e) k = h

    under : (o : Option Header) → IsTrue (is_batch_of b.version o b.items b.ending) → IsReplica (receive_under a o b.items).replica
    under None ok = h
    under (Some t) ok =
        let all = all_within b.version b.items (and_parts (is_header t) (list_all (is_item b.version) b.items) ok).1 in
        unless_keeps a (only_if (not (eqb t.primary a.primary)) WrongPrimary) _ h
        (λ none. after (take_items b.items 2 (Ok (record { replica = a; writes = 0; commits = 0 }))) (items_keep b.items 2 (Ok (record { replica = a; writes = 0; commits = 0 })) all h))
