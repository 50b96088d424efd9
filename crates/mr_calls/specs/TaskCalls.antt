-- What a command without a socket asks of a database, as calls of it: an import, an export, a question, a booking and the others.
use Rattle.std.specs.Prelude.{◌≡◌, ◌≢◌, ◌⊎◌, ℕ, List, [], ◌∷◌, take, Option, Some, ◌++◌, slice_get, IsTrue, ⊤}
use Rattle.std.specs.List.{AllByRecursion}
use Rattle.std.specs.declared.string.String.{String}
use Rattle.std.specs.declared.alloc.Global.{Global}
use Rattle.mr_model.specs.Texts.{Text}
use Rattle.mr_model.specs.Writes.{is_server}
use Rattle.mr_model.specs.Replica.{Replica}
use Rattle.mr_model.specs.Replies.{Reply, reply_text}
use Rattle.mr_model.specs.Step.{Command}
use Rattle.mr_model.specs.Tables.{Stands}
use Rattle.mr_store.specs.declared.keeper.Keeper.{Ghosts}
use Rattle.mr_words.specs.declared.invocations.Task.{Task}
use Rattle.mr_words.specs.declared.invocations.Task.TheVariants as tasks
use Rattle.mr_tasks.specs.CommandEffects.{IsCommandAsked, TellsFault}
use Rattle.mr_tasks.specs.Tasks.{IsAboutRoom, IsAnswered, IsCommandFor, IsCommandWith, IsOpened, IsOpenedFor, OnlyReads, TellsTo, file_for}
use Rattle.mr_offices.specs.Standing.{LeavesAlone, Office, Offices}
use Rattle.mr_offices.specs.Happenings.{AreHappenings, AreInDoubt, IsAsked, IsCalled, IsFounded, IsFrontOf, IsReopened, acts_in_doubt, first_server, reopened_at, unheard}
use Rattle.mr_branches.specs.Sights.{sight_of}
use Rattle.mr_calls.specs.Calls.{AreAsked, AreCalls, acts_of, heard_of, offices_behind, texts_behind}

-- ---- a task over a keeper

-- The replica of a keeper was asked the task's command, and the reply was printed, or written to the task's file; or it was asked nothing, since a file
-- or memory failed.
abbrev pub DoesTask : {K : Type 0} → Ghosts K → Task → K → K → Option Text → Option Text → ℕ → Type 0
DoesTask keeper task old new held holds status =
    IsAnswered keeper (IsCommandFor task) (TellsTo (file_for task)) old new held holds status
    ⊎ ((new ≡ old) × TellsFault held holds status)

-- nothing was asked, and a fault is told; or one command of the task, whose reply is told
abbrev pub AreOfTask : Task → Option Text → Option Text → ℕ → List (Command × Reply) → Type 0
AreOfTask task held holds status [] = TellsFault held holds status
AreOfTask task held holds status (c ∷ []) = IsCommandFor task c.0 × TellsTo (file_for task) c.1 held holds status
AreOfTask task held holds status (c ∷ d ∷ cs) = ⊥

-- it is one call of the database, or none
abbrev pub TasksAreCalls : {K : Type 0} → Ghosts K → Type 0
TasksAreCalls {K} keeper =
    (task : Task) (old new : K) (held holds : Option Text) (status : ℕ)
    → DoesTask keeper task old new held holds status → keeper.is_clean new
    → (calls : List (Command × Reply)) × AreOfTask task held holds status calls × AreCalls (sight_of keeper) old calls new

-- ---- at an office

-- a database that a task opens is one that is opened again, if a crash could leave what was found
abbrev pub OpeningsReopen : {K : Type 0} → Ghosts K → Type 0
OpeningsReopen {K} keeper =
    (old new : K) → IsOpened keeper new → keeper.is_clean new → keeper.may_leave old (keeper.tables new) → IsReopened (sight_of keeper) old new

-- the office with its database as it was just opened
abbrev pub office_opened : {K : Type 0} → Office K → K → Office K
office_opened o opened = record o { keeper = opened; pending = [] }

-- A task at an office: its database is opened again as a crash could leave it, whatever was in doubt, and asked one command, or none; that happens.
abbrev pub TasksHappen : {K : Type 0} → Ghosts K → Type 0
TasksHappen {K} keeper =
    (v : Offices K) (place : ℕ) (o : Office K) (task : Task) (opened new : K) (held holds : Option Text) (status : ℕ)
    → slice_get v.offices place ≡ Some o → (doubted : AreInDoubt v.texts o.pending) → keeper.may_leave o.keeper (keeper.tables opened) → IsOpened keeper opened
    → DoesTask keeper task opened new held holds status → keeper.is_clean new
    → (calls : List (Command × Reply)) × AreOfTask task held holds status calls
    × ((asked : AreAsked v.texts calls)
    → AreHappenings (sight_of keeper) v (acts_in_doubt v.texts o.server o.pending doubted ++ acts_of v.texts o.server calls asked) (unheard o.pending ++ heard_of v.texts calls)
    (offices_behind (reopened_at v place o opened) place (office_opened o opened) calls new))

-- A question that is asked of a copy of the database, with tables that a crash could leave of it, is a call of the database, which leaves that as it is.
abbrev pub QuestionsAreCalls : {K C : Type 0} → Ghosts K → Ghosts C → Type 0
QuestionsAreCalls {K} {C} keeper copy =
    (database : K) (old new : C) (command : Command) (reply : Reply)
    → keeper.is_open database → LeavesAlone (keeper.may_leave database) (keeper.tables database) → keeper.may_leave database (copy.tables old)
    → IsOpened copy old → IsCommandAsked copy old new command reply → copy.is_clean new → OnlyReads command ⊎ IsAboutRoom command
    → IsCalled (sight_of keeper) database database command reply

-- ---- files

-- what a task reads of its file: of an import a prefix of a text that some office gave
abbrev pub MayBeGiven : List Text → Task → Text → Type 0
MayBeGiven texts (tasks.Import batch) bytes = IsFrontOf texts bytes
MayBeGiven texts _ bytes = ⊤

-- then any task may be asked: an import hands over all bytes of its file, and just these
abbrev pub TasksAreAsked : Type 0
TasksAreAsked =
    (texts : List Text) (task : Task) (bytes : Text) (command : Command)
    → MayBeGiven texts task bytes → IsCommandWith task (λ read. read ≡ bytes) command → IsAsked texts command

-- the text of the reply, if there is one
abbrev pub text_written : List (Command × Reply) → Text
text_written [] = []
text_written (c ∷ cs) = reply_text c.1

-- Behind an export with status 0 each prefix of what was written to its file is one of a text that an office gave.
abbrev pub ExportsAreGiven : {K : Type 0} → Ghosts K → Type 0
ExportsAreGiven {K} keeper =
    (task : Task) (path : String Global) (old new : K) (held holds : Option Text) (calls : List (Command × Reply)) (texts : List Text) (a : Replica) (count : ℕ)
    → file_for task ≡ Some path → AreOfTask task held holds 0 calls → Stands (keeper.tables old) a → AreCalls (sight_of keeper) old calls new
    → IsFrontOf (texts_behind texts calls) (take count (text_written calls))

-- ---- founding

-- A database that was made for a server and a primary is that of a new office, if no office has the number yet and the primary is the first office's (or it
-- is the first office); or there was one of this server and primary before.
abbrev pub InitsFound : {K : Type 0} → Ghosts K → Type 0
InitsFound {K} keeper =
    (v : Offices K) (server : ℕ) (new : K)
    → IsTrue (is_server server) → AllByRecursion (λ (o : Office K). o.server ≢ server) v.offices
    → IsOpenedFor keeper server (first_server v.offices server) new → keeper.is_clean new
    → IsFounded (sight_of keeper) v server new
    ⊎ (((keeper.tables new).meta.server ≡ server) × ((keeper.tables new).meta.primary ≡ first_server v.offices server))
