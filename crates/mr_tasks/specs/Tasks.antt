-- What command lines ask, what they print, and with which statuses.
use Rattle.std.specs.Prelude.{◌≡◌, ◌⊎◌, ℕ, Option, Some, None}
use Rattle.std.specs.Io.KnownBytes.{Appends}
use Rattle.std.specs.declared.string.String.{String}
use Rattle.std.specs.declared.alloc.Global.{Global}
use Rattle.mr_model.specs.Texts.{Text, line}
use Rattle.mr_model.specs.Refusals.{Refusal, OutOfMemory, Store, NotAReplica, refusal_text}
use Rattle.mr_model.specs.Replica.{Replica, opening}
use Rattle.mr_model.specs.Replies.{Reply}
use Rattle.mr_model.specs.Step.{Command, Ask, Receive, BatchFor, step}
use Rattle.mr_model.specs.Tables.{Stands}
use Rattle.mr_model.specs.View.{Question}
use Rattle.mr_store.specs.declared.keeper.Keeper.{Ghosts}
use Rattle.mr_store.specs.KeeperCalls.{IsSettled}
use Rattle.mr_service.specs.Asked.{local_of}
use Rattle.mr_words.specs.CommandOutput.{PrintsReply, ok_line}
use Rattle.mr_words.specs.declared.invocations.Task.{Task}
use Rattle.mr_words.specs.declared.invocations.Task.TheVariants as task
use Rattle.mr_tasks.specs.Rehearsed.{Rehearses, StopsRehearsing}
use Rattle.mr_tasks.specs.CommandEffects.{IsCommandAsked, LeavesFiles, TellsFault, TellsWritten}

-- ---- tasks

abbrev pub IsReceive : Command → Type 0
IsReceive command = (bytes : Text) × (command ≡ Receive bytes)

abbrev pub IsBatchFor : ℕ → Command → Type 0
IsBatchFor max_lines command = (position : Text) × (command ≡ BatchFor position max_lines)

-- the command that a task asks, where its file has bytes of this kind
abbrev pub IsCommandWith : Task → (Text → Type 0) → Command → Type 0
IsCommandWith (task.Local local) Has command = command ≡ local_of local
IsCommandWith (task.Import batch) Has command = (bytes : Text) × Has bytes × (command ≡ Receive bytes)
IsCommandWith (task.Export position out lines) Has command = (bytes : Text) × Has bytes × (command ≡ BatchFor bytes lines)

-- the same, where it is not known what the file holds
abbrev pub IsCommandFor : Task → Command → Type 0
IsCommandFor (task.Local local) command = command ≡ local_of local
IsCommandFor (task.Import batch) command = IsReceive command
IsCommandFor (task.Export position out lines) command = IsBatchFor lines command

-- the command leaves each replica as it is
abbrev pub OnlyReads : Command → Type 0
OnlyReads command = (r : Replica) → (step r command).replica ≡ r

-- the command is a question about a room
abbrev pub IsAboutRoom : Command → Type 0
IsAboutRoom command = (room : Text) × (question : Question) × (command ≡ Ask room question)

-- the path of the file that takes the reply
abbrev pub file_for : Task → Option (String Global)
file_for (task.Export position out lines) = Some out
file_for _ = None

-- the reply is printed, or goes to a file
abbrev pub TellsTo : Option (String Global) → Reply → Option Text → Option Text → ℕ → Type 0
TellsTo None = PrintsReply
TellsTo (Some path) = TellsWritten

-- the same, and what makes files makes none but for the reply that goes to one
abbrev pub TellsToFile : {M : Type 0} → Option (String Global) → M → M → Reply → Option Text → Option Text → ℕ → Type 0
TellsToFile None before after reply held holds status = PrintsReply reply held holds status × (after ≡ before)
TellsToFile (Some path) before after reply held holds status = TellsWritten reply held holds status × LeavesFiles reply before after

-- the replica of a keeper is asked such a command, and the reply is told so
abbrev pub IsAnswered : {K : Type 0} → Ghosts K → (Command → Type 0) → (Reply → Option Text → Option Text → ℕ → Type 0) → K → K → Option Text → Option Text → ℕ
    → Type 0
IsAnswered keeper IsCommand TellsReply old new held holds status =
    (command : Command) × (reply : Reply) × IsCommand command × IsCommandAsked keeper old new command reply × TellsReply reply held holds status

-- ---- databases

-- a keeper as it is opened: nothing has failed, no failure has shut it, and a crash would leave its tables and nothing else
pub record IsOpened {K : Type 0} (keeper : Ghosts K) (k : K) : Type 0 where
  pub uncounted : keeper.failures k ≡ 0
  pub opens : keeper.is_clean k → keeper.is_open k
  pub settled : keeper.is_clean k → IsSettled (keeper.may_leave k) (keeper.tables k)

-- as that of this server and primary: its tables are those of a replica that knows nothing yet, or their `meta` names these two
pub record IsOpenedFor {K : Type 0} (keeper : Ghosts K) (server primary : ℕ) (k : K) : Type 0 where
  pub opened : IsOpened keeper k
  pub tables : keeper.is_clean k
      → Stands (keeper.tables k) (opening server primary) ⊎ (((keeper.tables k).meta.server ≡ server) × ((keeper.tables k).meta.primary ≡ primary))

-- why a database can't be opened
abbrev pub IsOfDatabase : Refusal → Type 0
IsOfDatabase e = (e ≡ OutOfMemory) ⊎ ((e ≡ Store) ⊎ (e ≡ NotAReplica))

-- the database is refused, memory is wanting, or there is a fault
abbrev pub TellsUnopened : Option Text → Option Text → ℕ → Type 0
TellsUnopened held holds status =
    ((status ≡ 1) × (e : Refusal) × IsOfDatabase e × Appends held holds (line (refusal_text e))) ⊎ TellsFault held holds status

-- a database is opened, and its replica asked such a command
abbrev pub EndsAsking : {K : Type 0} → Ghosts K → (Command → Type 0) → (Reply → Option Text → Option Text → ℕ → Type 0) → Option Text → Option Text → ℕ → Type 0
EndsAsking {K} keeper IsCommand TellsReply held holds status =
    ((old new : K) × IsOpened keeper old × IsAnswered keeper IsCommand TellsReply old new held holds status) ⊎ TellsUnopened held holds status

-- a database is opened, or a copy of it is, where the command only reads; and its replica is asked such a command
abbrev pub EndsAskingEither : {K C : Type 0} → Ghosts K → Ghosts C → (Command → Type 0) → (Reply → Option Text → Option Text → ℕ → Type 0) → Option Text → Option Text → ℕ → Type 0
EndsAskingEither keeper copy IsCommand TellsReply held holds status =
    EndsAsking keeper IsCommand TellsReply held holds status
    ⊎ EndsAsking copy (λ c. IsCommand c × OnlyReads c) TellsReply held holds status

-- or the trees of a copy, where the command is a question about a room
abbrev pub EndsAskingOne : {K C T : Type 0} → Ghosts K → Ghosts C → Ghosts T → (Command → Type 0) → (Reply → Option Text → Option Text → ℕ → Type 0) → Option Text → Option Text → ℕ → Type 0
EndsAskingOne keeper copy trees IsCommand TellsReply held holds status =
    EndsAskingEither keeper copy IsCommand TellsReply held holds status
    ⊎ EndsAsking trees (λ c. IsCommand c × IsAboutRoom c) TellsReply held holds status

abbrev pub EndsInit : {K : Type 0} → Ghosts K → ℕ → ℕ → Option Text → Option Text → ℕ → Type 0
EndsInit {K} keeper server primary held holds status =
    ((status ≡ 0) × (k : K) × IsOpenedFor keeper server primary k × Appends held holds ok_line) ⊎ TellsUnopened held holds status

-- ---- scripts

-- a script was rehearsed, or stopped, or there was a fault; nothing is said of the file
abbrev pub EndsRehearsal : Option Text → Option Text → ℕ → Type 0
EndsRehearsal held holds status =
    ((status ≡ 0) × (bytes : Text) × Rehearses bytes held holds)
    ⊎ (((status ≡ 1) × (bytes : Text) × StopsRehearsing bytes held holds) ⊎ (status ≡ 3))
