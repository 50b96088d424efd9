-- Runs of a world that keep the world law, seven facts of every two of their moments, and the headline of their questions.
use Rattle.std.specs.Prelude.{◌≡◌, ℕ, ◌+◌, ◌≤◌, true, ◌⊎◌, List, ◌++◌, Some, slice_get, Contains}
use Rattle.mr_model.specs.Texts.{Text}
use Rattle.mr_model.specs.Writes.{Id, Write, id_of}
use Rattle.mr_model.specs.Refusals.{Truncated, OutOfMemory}
use Rattle.mr_model.specs.Replica.{Replica, writes_of, knows_room, is_committed}
use Rattle.mr_model.specs.Exchange.{C, Batch, ReadsAs}
use Rattle.mr_model.specs.Replies.{Reply, Took, Refused}
use Rattle.mr_model.specs.View.{Placed, Question}
use Rattle.mr_model.specs.Step.{Ask, step}
use Rattle.mr_model.specs.World.{World, Step, Do, Deliver, StepReply, Said, replica_of, batch_numbered}
use Rattle.mr_model.specs.Honest.{IsFront, accepted, commit_list, IsHonest, IsWorldStep, IsWorldRun}
use Rattle.mr_model.specs.WorldLaws.{IsKnownIn, IsCountOrGap, IsDelivery, IsComplete, HasAllOf, IsExchange, TellsCommitted, IsAt}
use Rattle.mr_convergence.specs.Convergence.{Converges}
use Rattle.mr_service.specs.Headline.{AnswersByView}

-- two moments of a run, the last behind the first or the same: the run is the steps to the first, those between, and the others
pub record ArePassed (old : World) (steps : List Step) (replies : List StepReply) (new : World) (first last : World) : Type 0 where
  pub steps_before : List Step
  pub steps_between : List Step
  pub steps_after : List Step
  pub replies_before : List StepReply
  pub replies_between : List StepReply
  pub replies_after : List StepReply
  pub all_steps : steps ≡ steps_before ++ (steps_between ++ steps_after)
  pub all_replies : replies ≡ replies_before ++ (replies_between ++ replies_after)
  pub before : IsWorldRun old steps_before replies_before first
  pub between : IsWorldRun first steps_between replies_between last
  pub after : IsWorldRun last steps_after replies_after new

-- ---- the seven facts, of two such moments; out of memory aside. (The seventh, `Converges`, is one of mr_convergence.)

-- What a replica knows of a server is a front of what that server accepted, and its commit list one of the primary's; so it is with
-- what stands in the pool. One id is that of one write at both moments. What was accepted and what was committed stays.
pub record KeepsHistory (first last : World) : Type 0 where
  pub writes : (at : ℕ) (r : Replica) (server : ℕ) → replica_of last at ≡ Some r → IsFront (writes_of server r.known) (accepted last server)
  pub commits : (at : ℕ) (r : Replica) → replica_of last at ≡ Some r → IsFront r.commits (commit_list last)
  pub writes_anywhere : (write : Write) → IsKnownIn last write → Contains (accepted last write.stamp.server) write
  pub commits_anywhere : (number : ℕ) (text : Text) (b : Batch) (seq : ℕ) (id : Id)
      → batch_numbered last.pool number ≡ Some text → ReadsAs text b → Contains b.items (C seq id)
      → (k : ℕ) × (seq ≡ k + 1) × (slice_get (commit_list last) k ≡ Some id)
  pub one_write : (x y : Write) → IsKnownIn first x → IsKnownIn last y → id_of x ≡ id_of y → x ≡ y
  pub accepted_stays : (server : ℕ) → IsFront (accepted first server) (accepted last server)
  pub committed_stays : IsFront (commit_list first) (commit_list last)

-- a delivery to a replica that is there, of a batch that is there, is answered by a count or by a gap
abbrev pub AnswersDelivery : World → World → Type 0
AnswersDelivery first last =
    (number to bytes : ℕ) (reply : StepReply) (r : Replica) (text : Text)
    → IsWorldStep first (Deliver number to bytes) reply last → replica_of first to ≡ Some r → batch_numbered first.pool number ≡ Some text
    → (said : Reply) × (reply ≡ Said said) × (IsCountOrGap said ⊎ (said ≡ Refused OutOfMemory))

-- A front of a batch that was made for a replica is taken by it, whatever the steps between were. Where the batch is complete and
-- delivered whole, the replica then has all that its maker had when it made it.
pub record TakesBatch (first last : World) : Type 0 where
  pub taken : (made later : World) (from to number size : ℕ) (reply : StepReply) → IsDelivery first made later last from to number size reply
      → ((writes : ℕ) × (commits : ℕ) × (reply ≡ Said (Took writes commits))) ⊎ (reply ≡ Said (Refused OutOfMemory))
  pub all_brought : (made later : World) (from to number size : ℕ) (reply : StepReply) (maker : Replica)
      → (d : IsDelivery first made later last from to number size reply) → size ≤ d.bytes → IsComplete made number
      → replica_of first from ≡ Some maker → ¬ (reply ≡ Said (Refused OutOfMemory))
      → (r : Replica) × (replica_of last to ≡ Some r) × HasAllOf r maker

-- after a complete exchange in both directions two replicas know the same, and answer alike about each room that both know
pub record AgreesByExchange (first last : World) : Type 0 where
  pub same : (s t : ℕ) (a b : Replica) → IsExchange first s t last → replica_of last s ≡ Some a → replica_of last t ≡ Some b
      → (a.known ≡ b.known) × (a.commits ≡ b.commits)
  pub alike : (s t : ℕ) (a b : Replica) (room : Text) (question : Question)
      → IsExchange first s t last → replica_of last s ≡ Some a → replica_of last t ≡ Some b → knows_room a room ≡ true → knows_room b room ≡ true
      → (step a (Ask room question)).reply ≡ (step b (Ask room question)).reply

-- a write that is known as committed is told so; replicas that know it so tell the same of it at both moments, its place too; and who
-- told of it so tells the same later
pub record KeepsPlaces (first last : World) : Type 0 where
  pub told : (at : ℕ) (r : Replica) (w : Write) → replica_of last at ≡ Some r → Contains r.known w → is_committed r (id_of w) ≡ true
      → (told : Placed) × TellsCommitted r w.room (id_of w) told × (told.write ≡ w)
  pub agree : (s t : ℕ) (a b : Replica) (room : Text) (id : Id) (x y : Placed)
      → replica_of first s ≡ Some a → replica_of last t ≡ Some b → TellsCommitted a room id x → TellsCommitted b room id y → x ≡ y
  pub stay : (s : ℕ) (a : Replica) (room : Text) (id : Id) (x : Placed)
      → replica_of first s ≡ Some a → TellsCommitted a room id x → (b : Replica) × (replica_of last s ≡ Some b) × TellsCommitted b room id x

-- the primary never answers that it has dropped what is asked for
abbrev pub NeverTruncated : World → World → Type 0
NeverTruncated first last =
    (s : Step) (reply : StepReply) (server : ℕ) (r : Replica)
    → IsWorldStep first s reply last → replica_of first server ≡ Some r → r.server ≡ r.primary → IsAt server s → ¬ (reply ≡ Said (Refused Truncated))

-- ---- the headline

-- a question about a room is answered by the room's view at its replica, as by every replica with an equal view; out of memory aside
abbrev pub AnswersByViews : World → World → Type 0
AnswersByViews first last =
    (server : ℕ) (room : Text) (question : Question) (reply : StepReply) (r : Replica)
    → IsWorldStep first (Do server (Ask room question)) reply last → replica_of first server ≡ Some r
    → (said : Reply) × (reply ≡ Said said) × (AnswersByView r room question said ⊎ (said ≡ Refused OutOfMemory))

-- ---- a run

-- A run whose end is an honest world, and in which the seven facts and the headline hold from moment to moment; each of its steps stands
-- between two.
pub record IsLawfulRun (old : World) (steps : List Step) (replies : List StepReply) (new : World) : Type 0 where
  pub run : IsWorldRun old steps replies new
  pub honest : IsHonest new
  pub each : (i : ℕ) (s : Step) (reply : StepReply) → slice_get steps i ≡ Some s → slice_get replies i ≡ Some reply
      → (first : World) × (last : World) × ArePassed old steps replies new first last × IsWorldStep first s reply last
  pub history : (first last : World) → ArePassed old steps replies new first last → KeepsHistory first last
  pub delivery : (first last : World) → ArePassed old steps replies new first last → AnswersDelivery first last
  pub batch : (first last : World) → ArePassed old steps replies new first last → TakesBatch first last
  pub agreement : (first last : World) → ArePassed old steps replies new first last → AgreesByExchange first last
  pub convergence : (first last : World) → ArePassed old steps replies new first last → Converges first last
  pub places : (first last : World) → ArePassed old steps replies new first last → KeepsPlaces first last
  pub primary : (first last : World) → ArePassed old steps replies new first last → NeverTruncated first last
  pub answers : (first last : World) → ArePassed old steps replies new first last → AnswersByViews first last
