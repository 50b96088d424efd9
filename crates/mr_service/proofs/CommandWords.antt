-- Commands whose words are read first: what they do with words that are read, and how others are refused.
use Rattle.std.proofs.Common.{◌≡◌, refl, sym, ap, ◌∙◌, Bool, true, false, List, [], ◌∷◌, Option, Some, None, ◌⊎◌, inl, inr, Result, Ok, Err}
use Rattle.std.specs.Prelude.{ok_or, ℕ}
use Rattle.mr_model.specs.Replica.{Replica}
use Rattle.mr_model.specs.Texts.{Text, only_if}
use Rattle.mr_model.specs.Writes.{Id, is_room_name, is_id_text, id_in}
use Rattle.mr_model.specs.Replies.{Refused}
use Rattle.mr_model.specs.Exchange.{Batch, read_batch}
use Rattle.mr_model.specs.Positions.{Position, read_position}
use Rattle.mr_model.specs.Refusals as model
use Rattle.mr_model.specs.Step.{AddRoom, Submit, Cancel, Receive, BatchFor, Submission, refuse, leave, add_room, receive_batch, receive_read, batch_reply, reply_to_position}
use Rattle.mr_model.specs.Requests.{Request}
use Rattle.mr_wire.specs.BatchAnswers.{IsRefusedFor}
use Rattle.mr_base.specs.Answers.{OrOutOfMemory, Gives, ok_if}
use Rattle.mr_base.specs.RefusalViews.{refusal_of}
use Rattle.mr_base.specs.declared.refusals.Refusal.{Refusal}
use Rattle.mr_base.specs.declared.refusals.Refusal.TheVariants as refusal
use Rattle.mr_base.specs.Readings.{read_id}
use Rattle.mr_part.specs.Steps.{word_faults, request_in, submit_request, cancel_request}
use Rattle.mr_part.proofs.Submitting.{submission_is_request, cancel_is_request}
use Rattle.mr_service.specs.SubmittedWords.{ok_unless, request_or_fault}
use Rattle.mr_service.proofs.DeskSteps.{Does}
use Rattle.mr_service.proofs.SubmissionSteps.{request_known, submit_refused}

-- ---- rooms

room_refused_at : (room : Text) (e : Refusal) (b : Bool) → is_room_name room ≡ b
    → (ok_if b room refusal.BadRoomName ≡ Err e) ⊎ (e ≡ refusal.OutOfMemory)
    → Does (AddRoom room) (λ a. refuse a (refusal_of e)) ⊎ (e ≡ refusal.OutOfMemory)
room_refused_at room e b is (inr out) = inr out
room_refused_at room e true is (inl bad) = absurd (cc bad)
room_refused_at room e false is (inl said) =
    let own : refusal.BadRoomName ≡ e = cc said in
    inl (λ a. rw is (ap (λ x. refuse a (refusal_of x)) own))

-- words that name no room are refused as such
pub room_refused : (room : Text) (e : Refusal) → OrOutOfMemory (Err e) (ok_if (is_room_name room) room refusal.BadRoomName)
    → Does (AddRoom room) (λ a. refuse a (refusal_of e)) ⊎ (e ≡ refusal.OutOfMemory)
room_refused room e said = room_refused_at room e (is_room_name room) refl said

-- a text that is a room's name is that name
pub room_named : (text name : Text) → OrOutOfMemory (Ok name) (ok_if (is_room_name text) text refusal.BadRoomName) → Does (AddRoom text) (λ a. add_room a name)
room_named text name said = λ a. ap (λ x. add_room a x) (at (is_room_name text) said)
  where
    at : (b : Bool) → ok_if b text refusal.BadRoomName ≡ Ok name → text ≡ name
    at true e = cc e
    at false e = absurd (cc e)

-- and are no failure of the store
pub room_not_store : (b : Bool) (room : Text) (e : Refusal) → OrOutOfMemory (Err e) (ok_if b room refusal.BadRoomName) → ¬ (Refused (refusal_of e) ≡ Refused model.Store)
room_not_store b room e (inr out) = λ told. absurd (cc (told, ap refusal_of out))
room_not_store true room e (inl bad) = absurd (cc bad)
room_not_store false room e (inl said) = λ told. absurd (let own : refusal.BadRoomName ≡ e = cc said in cc (told, ap refusal_of own))

-- ---- cancels

cancel_refused_at : (room id : Text) (e : Refusal) (b : Bool) → is_room_name room ≡ b
    → (ok_if b room refusal.BadRoomName ≡ Err e) ⊎ (e ≡ refusal.OutOfMemory)
    → Does (Cancel room id) (λ a. refuse a (refusal_of e)) ⊎ (e ≡ refusal.OutOfMemory)
cancel_refused_at room id e b is (inr out) = inr out
cancel_refused_at room id e true is (inl bad) = absurd (cc bad)
cancel_refused_at room id e false is (inl said) =
    let own : refusal.BadRoomName ≡ e = cc said in
    inl (λ a. rw is (ap (λ x. refuse a (refusal_of x)) own))

-- words that name no room are refused as such
pub cancel_refused : (room id : Text) (e : Refusal) → OrOutOfMemory (Err e) (ok_if (is_room_name room) room refusal.BadRoomName)
    → Does (Cancel room id) (λ a. refuse a (refusal_of e)) ⊎ (e ≡ refusal.OutOfMemory)
cancel_refused room id e said = cancel_refused_at room id e (is_room_name room) refl said

-- the words of a room and of an id are the cancel of this id there
pub cancel_read : (room name id : Text) (target : Id) → OrOutOfMemory (Ok name) (ok_if (is_room_name room) room refusal.BadRoomName)
    → ◌≡◌ {A = Result Id Refusal} (Ok target) (ok_or (read_id id) refusal.NoSuchRequest)
    → Does (Cancel room id) (cancel_request name target)
cancel_read room name id target said read = λ a.
    let named : (is_room_name room ≡ true) × (room ≡ name) = room_at (is_room_name room) said in
    let is : (is_id_text id ≡ true) × (id_in id ≡ target) = id_at (is_id_text id) read in
    cancel_is_request a room id named.0 is.0 ∙ (λ i. cancel_request (named.1 i) (is.1 i) a)
  where
    room_at : (b : Bool) → ok_if b room refusal.BadRoomName ≡ Ok name → (b ≡ true) × (room ≡ name)
    room_at true e = (refl, cc e)
    room_at false e = absurd (cc e)

    id_at : (b : Bool) → ◌≡◌ {A = Result Id Refusal} (Ok target) (ok_or (only_if b (id_in id)) refusal.NoSuchRequest) → (b ≡ true) × (id_in id ≡ target)
    id_at true e = (refl, sym (cc e))
    id_at false e = absurd (cc e)

-- ---- batches

-- a text that is read is received as its batch
pub batch_received : (bytes : Text) (b : Batch) → Gives (Ok b) (read_batch bytes) → Does (Receive bytes) (λ a. receive_batch a b)
batch_received bytes b said = λ a. ap (receive_read a) said

-- a text that is not read is refused
pub batch_refused : (bytes : Text) (e : Refusal) → Gives {T = Batch} (Err e) (read_batch bytes)
    → Does (Receive bytes) (λ a. refuse a (refusal_of e)) ⊎ (e ≡ refusal.OutOfMemory)
batch_refused bytes e (inl said) = inl (λ a. ap (receive_read a) said)
batch_refused bytes e (inr out) = inr out

-- and is no failure of the store
pub batch_not_store : (bytes : Text) (e : Refusal) → IsRefusedFor bytes e → ¬ (Refused (refusal_of e) ≡ Refused model.Store)
batch_not_store bytes e (inl (i, line, first)) = λ told. absurd (cc (told, line))
batch_not_store bytes e (inr out) = λ told. absurd (cc (told, ap refusal_of out))

-- ---- positions

-- a text that is read asks for what its position lacks
pub position_read : (bytes : Text) (m : ℕ) (p : Position) → Gives (Ok p) (ok_or (read_position bytes) model.BadPosition)
    → Does (BatchFor bytes m) (λ a. leave a (batch_reply a p m))
position_read bytes m p said = λ a. ap (λ o. leave a (reply_to_position a o m)) (at (read_position bytes) said)
  where
    at : (o : Option Position) → ok_or o model.BadPosition ≡ Ok p → o ≡ Some p
    at None e = absurd (cc e)
    at (Some q) e = cc e

-- a text that is not read is refused
pub position_refused : (bytes : Text) (m : ℕ) (e : Refusal) → Gives {T = Position} (Err e) (ok_or (read_position bytes) model.BadPosition)
    → Does (BatchFor bytes m) (λ a. refuse a (refusal_of e)) ⊎ (e ≡ refusal.OutOfMemory)
position_refused bytes m e (inr out) = inr out
position_refused bytes m e (inl said) = inl (λ a. at a (read_position bytes) said)
  where
    at : (a : Replica) (o : Option Position) → ok_or o model.BadPosition ≡ Err (refusal_of e) → leave a (reply_to_position a o m) ≡ refuse a (refusal_of e)
    at a None said = ap (λ x. leave a (Refused x)) (let own : model.BadPosition ≡ refusal_of e = cc said in own)
    at a (Some p) said = absurd (cc said)

-- and is no failure of the store
pub position_not_store : (bytes : Text) (e : Refusal) → Gives {T = Position} (Err e) (ok_or (read_position bytes) model.BadPosition) → ¬ (Refused (refusal_of e) ≡ Refused model.Store)
position_not_store bytes e (inr out) = λ told. absurd (cc (told, ap refusal_of out))
position_not_store bytes e (inl said) = at (read_position bytes) said
  where
    at : (o : Option Position) → ok_or o model.BadPosition ≡ Err (refusal_of e) → ¬ (Refused (refusal_of e) ≡ Refused model.Store)
    at None said = λ told. absurd (let own : model.BadPosition ≡ refusal_of e = cc said in cc (told, own))
    at (Some p) said = absurd (cc said)

-- ---- submissions

-- words that are read are the request that they make
pub submission_read : (s : Submission) (q : Request) → Gives (Ok q) (request_or_fault s) → Does (Submit s) (submit_request q)
submission_read s q said = λ a.
    let known : (model.first_refusal (word_faults s) ≡ None) × (request_in s ≡ q) = request_known s q said in
    submission_is_request a s known.0 ∙ ap (λ x. submit_request x a) known.1

-- words that are not read are refused
pub submission_refused : (s : Submission) (e : Refusal) → Gives {T = Request} (Err e) (request_or_fault s)
    → Does (Submit s) (λ a. refuse a (refusal_of e)) ⊎ (e ≡ refusal.OutOfMemory)
submission_refused s e (inl said) = inl (λ a. submit_refused a s (refusal_of e) said)
submission_refused s e (inr out) = inr out

-- none of these refusals tells that the store failed
abbrev NoneStore : List (Bool × model.Refusal) → Type 0
NoneStore [] = Unit {0}
NoneStore (x ∷ xs) = ¬ (x.1 ≡ model.Store) × NoneStore xs

first_not_store : (xs : List (Bool × model.Refusal)) (e : model.Refusal) → NoneStore xs → model.first_refusal xs ≡ Some e → ¬ (e ≡ model.Store)
first_not_store [] e none said is = absurd (cc said)
first_not_store ((true, x) ∷ xs) e none said is = none.0 (cc (said, is))
first_not_store ((false, x) ∷ xs) e none said is = first_not_store xs e none.1 said is

-- words that are not read are no failure of the store
pub submission_not_store : (s : Submission) (e : Refusal) → Gives {T = Request} (Err e) (request_or_fault s) → ¬ (Refused (refusal_of e) ≡ Refused model.Store)
submission_not_store s e (inr out) = λ told. absurd (cc (told, ap refusal_of out))
submission_not_store s e (inl said) = λ told. absurd (at (model.first_refusal (word_faults s)) refl said (cc told))
  where
    none : NoneStore (word_faults s)
    none = (λ e. cc e, (λ e. cc e, (λ e. cc e, (λ e. cc e, (λ e. cc e, (λ e. cc e, tt))))))

    at : (o : Option model.Refusal) → model.first_refusal (word_faults s) ≡ o → ok_unless o (request_in s) ≡ Err (refusal_of e) → refusal_of e ≡ model.Store → ⊥
    at None is said store = absurd (cc said)
    at (Some x) is said store = first_not_store (word_faults s) x none is (cc (said, store))
