-- What a reply says beside its step: which failures are counted, what a refusal leaves, and which fault of words it tells.
use Rattle.std.specs.Prelude.{◌≡◌, ℕ, ◌<◌, ◌≤◌, ◌⊎◌, List, [], ◌∷◌, Some}
use Rattle.mr_model.specs.Replica.{Replica}
use Rattle.mr_model.specs.Refusals.{Refusal, Store, first_refusal}
use Rattle.mr_model.specs.Replies.{Reply, Refused}
use Rattle.mr_model.specs.Step.{Command, Submit}
use Rattle.mr_model.specs.Tables.{Tables, Stands}
use Rattle.mr_part.specs.Steps.{word_faults}

-- the count of failures never falls, and rises where the reply tells of one
abbrev pub Counts : Reply → ℕ → ℕ → Type 0
Counts reply old new = (old ≤ new) × (reply ≡ Refused Store → old < new)

-- the count rises only where the reply tells of a failure
abbrev pub TellsRise : Reply → ℕ → ℕ → Type 0
TellsRise reply old new = (new ≡ old) ⊎ (reply ≡ Refused Store)

-- a refusal leaves the tables as they were, whatever these stand for
abbrev pub LeavesOnRefusal : Reply → Tables → Tables → Type 0
LeavesOnRefusal reply before after = (e : Refusal) → reply ≡ Refused e → after ≡ before

-- no failure is counted where the tables stand for a replica
abbrev pub NoneFails : Tables → ℕ → ℕ → Type 0
NoneFails before old new = (a : Replica) → Stands before a → new ≡ old

-- a reply tells that the store failed
abbrev pub TellsFailure : List Reply → Type 0
TellsFailure [] = ⊥
TellsFailure (r ∷ rs) = (r ≡ Refused Store) ⊎ TellsFailure rs

-- a fault of a submission's words is told, whatever memory there is
abbrev pub TellsWordFaults : Command → Reply → Type 0
TellsWordFaults (Submit s) reply = (e : Refusal) → first_refusal (word_faults s) ≡ Some e → reply ≡ Refused e
TellsWordFaults command reply = Unit {0}
