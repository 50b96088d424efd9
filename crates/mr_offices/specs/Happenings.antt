-- What happens at offices, as calls of their databases; and that it is a run of offices.
use Rattle.std.specs.Prelude.{◌≡◌, ◌≢◌, ℕ, ◌+◌, List, [], ◌∷◌, ◌++◌, length, map, take, Option, Some, None, ◌⊎◌, slice_get, IsTrue}
use Rattle.std.specs.List.{AllByRecursion, slice_set}
use Rattle.mr_model.specs.Texts.{Text}
use Rattle.mr_model.specs.Writes.{is_server}
use Rattle.mr_model.specs.Refusals.{Refusal, OutOfMemory, Store}
use Rattle.mr_model.specs.Replica.{Replica, IsReplica, opening}
use Rattle.mr_model.specs.Exchange.{batch_text}
use Rattle.mr_model.specs.Replies.{Reply, BatchIs, Refused}
use Rattle.mr_model.specs.Step.{Command, Receive, BatchFor, IsStep, IsOfMachine}
use Rattle.mr_model.specs.Serving.{TakesStep, Reaches}
use Rattle.mr_model.specs.Tables.{Tables, Stands}
use Rattle.mr_model.specs.World.{World, empty_world, Add, Do, Deliver, StepReply, Added, Made, Said, batch_numbered}
use Rattle.mr_model.specs.Honest.{IsHonest}
use Rattle.mr_offices.specs.Offices.{Act, Within, Give, act_after, IsOfficeStep, IsOfficeRun}
use Rattle.mr_offices.specs.OfficeLaws.{KeepsOfficeHistory, KeepsOfficePlaces}
use Rattle.mr_offices.specs.Standing.{Sight, LeavesAlone, Office, Offices, StandFor}

-- ---- commands

-- a prefix of a text that an office gave
pub record IsFrontOf (texts : List Text) (bytes : Text) : Type 0 where
  pub number : ℕ
  pub text : Text
  pub count : ℕ
  pub is_there : batch_numbered texts number ≡ Some text
  pub is_front : bytes ≡ take count text

-- Whatever people ask, and positions of any kind; but what is received is a prefix of a batch that some office gave.
abbrev pub IsAsked : List Text → Command → Type 0
IsAsked texts (Receive bytes) = IsFrontOf texts bytes
IsAsked texts _ = Unit {0}

-- the act that a command is
abbrev pub act_of : (texts : List Text) → ℕ → (c : Command) → IsAsked texts c → Act
act_of texts server (Receive bytes) from = Within (Deliver from.number server from.count)
act_of texts server (BatchFor position max_lines) from = Give server position max_lines
act_of texts server c from = Within (Do server c)

-- what is heard of it: a batch that is given takes the next number
abbrev pub batch_heard : List Text → Reply → StepReply
batch_heard texts (BatchIs b) = Made (length texts + 1) (length (batch_text b))
batch_heard texts reply = Said reply

abbrev pub reply_heard : List Text → Command → Reply → StepReply
reply_heard texts (BatchFor position max_lines) reply = batch_heard texts reply
reply_heard texts c reply = Said reply

-- and the texts of all batches then
abbrev pub texts_with : List Text → Reply → List Text
texts_with texts (BatchIs b) = texts ++ batch_text b ∷ []
texts_with texts reply = texts

abbrev pub texts_after : List Text → Command → Reply → List Text
texts_after texts (BatchFor position max_lines) reply = texts_with texts reply
texts_after texts c reply = texts

-- ---- calls

-- every replica refuses the command so, and stays as it is
abbrev pub IsRefusedAnywhere : Command → Reply → Type 0
IsRefusedAnywhere c reply = (e : Refusal) × (reply ≡ Refused e) × ((a : Replica) → IsReplica a → IsStep a c reply a)

-- One command was done over a database, as the contracts of keepers tell. It took its step, or the machine failed; one that a failure has shut, maybe
-- long before, gave a refusal that every replica gives (24, 25, or of the command's words). With 24 or 25 the tables are as they were if the database is
-- still open. A crash leaves no more than before, or what the command makes of an open one.
pub record IsCalled {K : Type 0} (sight : Sight K) (old new : K) (c : Command) (reply : Reply) : Type 0 where
  pub opens : sight.is_open new → sight.is_open old
  pub answered : sight.is_open old ⊎ IsRefusedAnywhere c reply
  pub lasts : sight.is_open old → IsOfMachine reply ⊎ sight.is_open new
  pub step : sight.is_open new → TakesStep (sight.tables old) c reply (sight.tables new)
  pub refused : sight.is_open new → IsOfMachine reply → sight.tables new ≡ sight.tables old
  pub settled : sight.is_open new → LeavesAlone (sight.may_leave old) (sight.tables old) → LeavesAlone (sight.may_leave new) (sight.tables new)
  pub crash : (t : Tables) → sight.may_leave new t → sight.may_leave old t ⊎ (sight.is_open old × Reaches (sight.tables old) c t)

-- Behind 24 and 25 the command too is in doubt. Another refusal leaves what was in doubt, since a shut database refuses words. An answer comes of an
-- open one: nothing is in doubt behind it.
abbrev pub pending_after : List Command → Command → Reply → List Command
pending_after pending c (Refused OutOfMemory) = pending ++ c ∷ []
pending_after pending c (Refused Store) = pending ++ c ∷ []
pending_after pending c (Refused e) = pending
pending_after pending c reply = []

abbrev pub office_after : {K : Type 0} → Office K → K → Command → Reply → Office K
office_after o new c reply = record o { keeper = new; pending = pending_after o.pending c reply }

abbrev pub offices_after : {K : Type 0} → Offices K → ℕ → Office K → K → Command → Reply → Offices K
offices_after v place o new c reply = record { offices = slice_set v.offices place (office_after o new c reply); texts = texts_after v.texts c reply }

-- The database was opened again, behind a crash at any moment or none: it has tables that a crash at that moment might leave.
pub record IsReopened {K : Type 0} (sight : Sight K) (old new : K) : Type 0 where
  pub opens : sight.is_open new
  pub found : sight.may_leave old (sight.tables new)
  pub settled : LeavesAlone (sight.may_leave new) (sight.tables new)

-- what is received by commands in doubt is a prefix of a batch each
abbrev pub AreInDoubt : List Text → List Command → Type 0
AreInDoubt texts [] = Unit {0}
AreInDoubt texts (c ∷ cs) = IsAsked texts c × AreInDoubt texts cs

-- the acts that they are, in the order in which they were asked; nothing is heard of any
abbrev pub acts_in_doubt : (texts : List Text) → ℕ → (pending : List Command) → AreInDoubt texts pending → List Act
acts_in_doubt texts server [] from = []
acts_in_doubt texts server (c ∷ cs) from = act_of texts server c from.0 ∷ acts_in_doubt texts server cs from.1

abbrev pub unheard : List Command → List (Option StepReply)
unheard pending = map (λ c. None) pending

-- the world as it was, or as one of these acts leaves it
abbrev pub IsAfterOneOrNone : World → List Act → World → Type 0
IsAfterOneOrNone old [] new = new ≡ old
IsAfterOneOrNone old (act ∷ acts) new = (new ≡ (act_after old act).world) ⊎ IsAfterOneOrNone old acts new

abbrev pub reopened_at : {K : Type 0} → Offices K → ℕ → Office K → K → Offices K
reopened_at v place o new = record v { offices = slice_set v.offices place (record o { keeper = new; pending = [] }) }

-- the server of the first office, or this one if there is none
abbrev pub first_server : {K : Type 0} → List (Office K) → ℕ → ℕ
first_server [] server = server
first_server (o ∷ os) server = o.server

-- an office was founded: its database has the tables of a replica that knows nothing, of a server that no other has, and of the first office's primary
pub record IsFounded {K : Type 0} (sight : Sight K) (v : Offices K) (server : ℕ) (new : K) : Type 0 where
  pub within : IsTrue (is_server server)
  pub other : AllByRecursion (λ (o : Office K). o.server ≢ server) v.offices
  pub opens : sight.is_open new
  pub stands : Stands (sight.tables new) (opening server (first_server v.offices server))
  pub settled : LeavesAlone (sight.may_leave new) (sight.tables new)

abbrev pub founded : {K : Type 0} → Offices K → ℕ → K → Offices K
founded v server new = record v { offices = v.offices ++ record { server = server; keeper = new; pending = [] } ∷ [] }

-- ---- laws of one happening

abbrev pub CallsAreActs : {K : Type 0} → Sight K → Type 0
CallsAreActs {K} sight =
    (v : Offices K) (w : World) (place : ℕ) (o : Office K) (new : K) (c : Command) (reply : Reply)
    → IsHonest w → StandFor sight v w → slice_get v.offices place ≡ Some o → (from : IsAsked v.texts c) → IsCalled sight o.keeper new c reply
    → (end : World) × IsOfficeStep w (act_of v.texts o.server c from) (Some (reply_heard v.texts c reply)) end × StandFor sight (offices_after v place o new c reply) end

-- When the database is opened again, each command in doubt turns out to be done or not: one of them at most is done. If none is in doubt, nothing
-- is lost.
abbrev pub ReopeningsAreActs : {K : Type 0} → Sight K → Type 0
ReopeningsAreActs {K} sight =
    (v : Offices K) (w : World) (place : ℕ) (o : Office K) (new : K)
    → IsHonest w → StandFor sight v w → slice_get v.offices place ≡ Some o → (from : AreInDoubt v.texts o.pending) → IsReopened sight o.keeper new
    → (end : World) × IsOfficeRun w (acts_in_doubt v.texts o.server o.pending from) (unheard o.pending) end
    × IsAfterOneOrNone w (acts_in_doubt v.texts o.server o.pending from) end × StandFor sight (reopened_at v place o new) end

abbrev pub FoundingsAreActs : {K : Type 0} → Sight K → Type 0
FoundingsAreActs {K} sight =
    (v : Offices K) (w : World) (server : ℕ) (new : K)
    → IsHonest w → StandFor sight v w → IsFounded sight v server new
    → (end : World) × IsOfficeStep w (Within (Add server)) (Some Added) end × StandFor sight (founded v server new) end

-- ---- all that happens

-- Calls of databases, restarts and crashes, and new offices, in the order in which they happened; with the acts that they are, and what was
-- heard of each.
pub data AreHappenings {K : Type 0} (sight : Sight K) : Offices K → List Act → List (Option StepReply) → Offices K → Type 0 where
  nothing : {v : Offices K} → AreHappenings sight v [] [] v
  called : {v end : Offices K} {acts : List Act} {heard : List (Option StepReply)} (place : ℕ) (o : Office K) (new : K) (c : Command) (reply : Reply)
      → slice_get v.offices place ≡ Some o → (from : IsAsked v.texts c) → IsCalled sight o.keeper new c reply
      → AreHappenings sight (offices_after v place o new c reply) acts heard end
      → AreHappenings sight v (act_of v.texts o.server c from ∷ acts) (Some (reply_heard v.texts c reply) ∷ heard) end
  reopened : {v end : Offices K} {acts : List Act} {heard : List (Option StepReply)} (place : ℕ) (o : Office K) (new : K)
      → slice_get v.offices place ≡ Some o → (from : AreInDoubt v.texts o.pending) → IsReopened sight o.keeper new
      → AreHappenings sight (reopened_at v place o new) acts heard end
      → AreHappenings sight v (acts_in_doubt v.texts o.server o.pending from ++ acts) (unheard o.pending ++ heard) end
  new_office : {v end : Offices K} {acts : List Act} {heard : List (Option StepReply)} (server : ℕ) (new : K)
      → IsFounded sight v server new → AreHappenings sight (founded v server new) acts heard end
      → AreHappenings sight v (Within (Add server) ∷ acts) (Some Added ∷ heard) end

abbrev pub no_offices : {K : Type 0} → Offices K
no_offices = record { offices = []; texts = [] }

-- it is a run of offices from each honest world for which they stood; they stand for its end, which is honest
abbrev pub HappeningsAreRuns : {K : Type 0} → Sight K → Type 0
HappeningsAreRuns {K} sight =
    (v last : Offices K) (w : World) (acts : List Act) (heard : List (Option StepReply))
    → IsHonest w → StandFor sight v w → AreHappenings sight v acts heard last
    → (end : World) × IsOfficeRun w acts heard end × IsHonest end × StandFor sight last end

-- and from nothing: all offices of an organisation that began with one, whatever happened to them since
abbrev pub OrganisationsAreRuns : {K : Type 0} → Sight K → Type 0
OrganisationsAreRuns {K} sight =
    (last : Offices K) (acts : List Act) (heard : List (Option StepReply))
    → AreHappenings sight no_offices acts heard last
    → (end : World) × IsOfficeRun empty_world acts heard end × IsHonest end × StandFor sight last end

-- At any two moments of it what is known anywhere was accepted at its server, commit lists are prefixes of the primary's, and a committed place is
-- the same wherever it is known, and stays: of the worlds for which the tables stood at the one moment and at the other.
abbrev pub OrganisationsAreLawful : {K : Type 0} → Sight K → Type 0
OrganisationsAreLawful {K} sight =
    (v last : Offices K) (before between : List Act) (heard_before heard_between : List (Option StepReply))
    → AreHappenings sight no_offices before heard_before v → AreHappenings sight v between heard_between last
    → (w : World) × (end : World) × IsOfficeRun empty_world before heard_before w × IsOfficeRun w between heard_between end
    × IsHonest w × IsHonest end × StandFor sight v w × StandFor sight last end × KeepsOfficeHistory w end × KeepsOfficePlaces w end
