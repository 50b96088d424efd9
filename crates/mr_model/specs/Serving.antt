-- Serving: what commands do to tables, said for every replica that the tables stand for.
use Rattle.std.specs.Prelude.{◌≡◌, ℕ, ◌⊎◌, List, take, drop, Some, slice_get}
use Rattle.mr_model.specs.Texts.{Text}
use Rattle.mr_model.specs.Replica.{Replica}
use Rattle.mr_model.specs.Replies.{Reply}
use Rattle.mr_model.specs.View.{Question, view_of, answer}
use Rattle.mr_model.specs.Step.{Command, Ask, step, IsStep, IsOfMachine, IsRun}
use Rattle.mr_model.specs.Tables.{Tables, Stands}

-- whichever replica the tables stood for, it takes a step, and they stand for what it then is
abbrev pub TakesStep : Tables → Command → Reply → Tables → Type 0
TakesStep before command reply after = (a : Replica) → Stands before a → (b : Replica) × IsStep a command reply b × Stands after b

-- the same of a list of commands
abbrev pub TakesRun : Tables → List Command → List Reply → Tables → Type 0
TakesRun before commands replies after =
    (a : Replica) → Stands before a → (b : Replica) × IsRun a commands replies b × Stands after b

-- each reply about a room is the answer of the room's view at the replica that the commands before have reached on this run,
-- but where memory or the store failed
abbrev pub Answered : Replica → List Command → List Reply → Replica → Type 0
Answered old commands replies new =
    (i : ℕ) (room : Text) (question : Question) (reply : Reply)
    → slice_get commands i ≡ Some (Ask room question) → slice_get replies i ≡ Some reply
    → (at : Replica) × IsRun old (take i commands) (take i replies) at × IsRun at (drop i commands) (drop i replies) new
    × ((reply ≡ answer room (view_of at room) question) ⊎ IsOfMachine reply)

-- the headline: whichever replica the tables stood for, there is one run from it that answers so, and they stand for its end now
abbrev pub Serves : Tables → List Command → List Reply → Tables → Type 0
Serves before commands replies after =
    (a : Replica) → Stands before a
    → (b : Replica) × IsRun a commands replies b × Answered a commands replies b × Stands after b

-- whichever replica the tables stood for, the new ones stand for what the command makes of it where nothing fails
abbrev pub Reaches : Tables → Command → Tables → Type 0
Reaches before command after = (a : Replica) → Stands before a → Stands after (step a command).replica
