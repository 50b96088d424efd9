-- What the replica of a keeper is asked, and what is told of its reply.
use Rattle.std.specs.Prelude.{◌≡◌, ◌⊎◌, ℕ, ◌<◌, ◌≤◌, [], ◌∷◌, length, codes, decimal, Option, Result, Ok}
use Rattle.std.specs.Io.KnownBytes.{Appends}
use Rattle.mr_model.specs.Texts.{Text, line, words}
use Rattle.mr_model.specs.Replies.{Reply, reply_text}
use Rattle.mr_model.specs.Replica.{Replica}
use Rattle.mr_model.specs.View.{Question, view_of, answer}
use Rattle.mr_model.specs.Step.{Command, IsOfMachine}
use Rattle.mr_model.specs.Tables.{Tables, Stands}
use Rattle.mr_store.specs.declared.keeper.Keeper.{Ghosts}
use Rattle.mr_service.specs.Replied.{RepliesTo}
use Rattle.mr_service.specs.Served.{IsServed}
use Rattle.mr_words.specs.CommandOutput.{no_memory_line, status_of, PrintsReply}

-- ---- one command

-- The replica of a keeper was given the command, once: the keeper before it and after it, and the reply. Where the keeper was open before,
-- the reply is that of the step, whether or not a failure has shut it since.
abbrev pub IsCommandAsked : {K : Type 0} → Ghosts K → K → K → Command → Reply → Type 0
IsCommandAsked keeper old new command reply =
    IsServed keeper old new command reply × (keeper.is_clean new → keeper.is_open old → RepliesTo (keeper.tables old) command reply)

-- what this question about a room is answered: by the room's view at every replica that the tables stand for, or memory or the store
-- failed; and the reply is told with that status
abbrev pub TellsAnswer : Tables → Text → Question → Option Text → Option Text → ℕ → Type 0
TellsAnswer before room question held holds status =
    (a : Replica) → Stands before a
    → (reply : Reply) × ((reply ≡ answer room (view_of a room) question) ⊎ IsOfMachine reply) × PrintsReply reply held holds status

-- ---- files

-- the greatest length of a file
abbrev pub greatest_file : ℕ
greatest_file = 16_777_216

abbrev pub wrote_line : ℕ → Text
wrote_line n = line (words (codes "wrote" ∷ decimal n ∷ codes "bytes" ∷ []))

-- memory is wanting, which is printed, or there is a fault
abbrev pub TellsFault : Option Text → Option Text → ℕ → Type 0
TellsFault held holds status = ((status ≡ 1) × Appends held holds no_memory_line) ⊎ (status ≡ 3)

-- so many bytes are written to a file, and that is printed
abbrev pub TellsLength : ℕ → Option Text → Option Text → ℕ → Type 0
TellsLength n held holds status = ((status ≡ 0) × Appends held holds (wrote_line n)) ⊎ TellsFault held holds status

-- there is a file, and it took all these bytes
abbrev pub TakesAll : {F E : Type 0} → (F → Option Text) → Result F E → Result F E → Text → Type 0
TakesAll {F} contents made holding bytes = (old new : F) × (made ≡ Ok old) × (holding ≡ Ok new) × Appends (contents old) (contents new) bytes

-- a reply goes to a file: it is a refusal, which is told as any other, or its text is as short as a file may be, and its length is told;
-- or there is a fault
abbrev pub TellsWritten : Reply → Option Text → Option Text → ℕ → Type 0
TellsWritten reply held holds status =
    ((status_of reply ≡ 1) × PrintsReply reply held holds status)
    ⊎ (((status_of reply ≡ 0) × (length (reply_text reply) ≤ greatest_file) × TellsLength (length (reply_text reply)) held holds status)
    ⊎ TellsFault held holds status)

-- for a refusal, and for a text that is longer than a file may be, no file is made
abbrev pub LeavesFiles : {M : Type 0} → Reply → M → M → Type 0
LeavesFiles reply old new = ((status_of reply ≡ 1) ⊎ (greatest_file < length (reply_text reply))) → new ≡ old
