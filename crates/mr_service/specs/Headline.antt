-- The headline of one command and of a list of commands: replies are the view's answers, alike at all replicas with an equal view.
use Rattle.std.specs.Prelude.{◌≡◌, ℕ, ◌⊎◌, List, take, drop, Some, slice_get}
use Rattle.mr_model.specs.Texts.{Text}
use Rattle.mr_model.specs.Replica.{Replica}
use Rattle.mr_model.specs.Replies.{Reply}
use Rattle.mr_model.specs.View.{Question, view_of, answer}
use Rattle.mr_model.specs.Step.{Command, Ask, step, IsOfMachine, IsRun}
use Rattle.mr_model.specs.Tables.{Tables, Stands}

-- the reply is the answer of the room's view, so every replica with an equal view of the room replies the same
pub record AnswersByView (at : Replica) (room : Text) (question : Question) (reply : Reply) : Type 0 where
  pub of_view : reply ≡ answer room (view_of at room) question
  pub alike : (other : Replica) → view_of other room ≡ view_of at room → (step other (Ask room question)).reply ≡ reply

-- a question about a room is answered by the room's view at every replica that the tables stood for, unless memory or the store failed
abbrev pub AnswersQuestion : Tables → Command → Reply → Type 0
AnswersQuestion before command reply =
    (a : Replica) (room : Text) (question : Question) → Stands before a → command ≡ Ask room question
    → AnswersByView a room question reply ⊎ IsOfMachine reply

-- The commands took this replica, step by step, to one that the tables stand for now. Each reply about a room is by the room's view at
-- the replica that the commands before have reached, unless memory or the store failed.
pub record KeepsHeadline (old : Replica) (commands : List Command) (replies : List Reply) (after : Tables) : Type 0 where
  pub new : Replica
  pub run : IsRun old commands replies new
  pub stands : Stands after new
  pub answers : (i : ℕ) (room : Text) (question : Question) (reply : Reply)
      → slice_get commands i ≡ Some (Ask room question) → slice_get replies i ≡ Some reply
      → (at : Replica) × IsRun old (take i commands) (take i replies) at × IsRun at (drop i commands) (drop i replies) new
      × (AnswersByView at room question reply ⊎ IsOfMachine reply)
