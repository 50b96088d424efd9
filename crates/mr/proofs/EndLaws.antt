-- How commands end.
use Rattle.std.proofs.Common.{◌≡◌, ap, subst, sym, ℕ, ◌≤◌, [], ◌⊎◌, inl, inr, Option, refl, arith, lit≤}
use Rattle.std.proofs.lemmas.Bool.{cases_lt}
use Rattle.std.specs.Io.KnownBytes.{Appends}
use Rattle.std.specs.declared.string.String.{String}
use Rattle.std.specs.declared.alloc.Global.{Global}
use Rattle.mr_model.specs.Texts.{Text, line}
use Rattle.mr_model.specs.Refusals.{refusal_text}
use Rattle.mr_model.specs.Replies.{Reply, RoomAdded, OutcomeIs, Took, CommittedIs, DroppedIs, PositionIs, BatchIs, Sheet, Calendar, Errors, Refused}
use Rattle.mr_model.specs.Step.{Command}
use Rattle.mr_base.specs.RefusalViews.{refusal_of}
use Rattle.mr_base.specs.declared.refusals.Refusal.{Refusal}
use Rattle.mr_base.specs.declared.refusals.Refusal.TheVariants as refusal
use Rattle.mr_store.specs.declared.keeper.Keeper.{Ghosts}
use Rattle.mr_words.specs.CommandOutput.{no_memory_line, status_of, PrintsReply}
use Rattle.mr_words.specs.CommandTable.{Invoked, Init, Ask, Export, Import, Rehearse, Serve, Exchange, Bridge}
use Rattle.mr_words.specs.InvocationRead.{asked_of}
use Rattle.mr_words.specs.declared.invocations.Invocation.TheVariants as invocation
use Rattle.mr_words.specs.declared.invocations.Task.{Task}
use Rattle.mr_words.specs.declared.invocations.Task.TheVariants as task
use Rattle.mr_words.specs.declared.invocations.WordFault.{WordFault}
use Rattle.mr_words.specs.declared.invocations.WordFault.TheVariants as faults
use Rattle.mr_tasks.specs.Rehearsed.{bad_words_line}
use Rattle.mr_tasks.specs.CommandEffects.{TellsFault, TellsLength, TellsWritten}
use Rattle.mr_tasks.specs.Tasks.{IsCommandFor, IsReceive, IsBatchFor, IsOfDatabase, TellsUnopened, EndsAsking, EndsAskingEither}
use Rattle.mr_tasks.specs.Tasks.{EndsAskingOne, EndsRehearsal, IsAboutRoom, IsAnswered, IsOpened, OnlyReads, TellsTo, file_for}
use Rattle.mr.specs.CommandLines.{EndsAs, EndsExchangeAt}
use Rattle.mr_net.specs.Hosts.{IsPeer}
use Rattle.mr_net.specs.Printed.{StopsWithText, IsStopText, EndsExchange, EndsServing, TellsBadAddress}

-- memory is wanting before a script is read, or there is a fault
stops_at_once : (held holds : Option Text) (status : ℕ) → TellsFault held holds status → EndsRehearsal held holds status
stops_at_once held holds status (inl memory) = inr (inl (memory.0, [], inr (inl memory.1)))
stops_at_once held holds status (inr three) = inr (inr three)

stops_for_memory : (IsText : Text → Type 0) (held holds : Option Text) (status : ℕ) → IsText no_memory_line → TellsFault held holds status → StopsWithText IsText held holds status
stops_for_memory IsText held holds status is (inl memory) = inl (memory.0, no_memory_line, is, memory.1)
stops_for_memory IsText held holds status is (inr three) = inr three

exchanges_nothing : (held holds : Option Text) (status : ℕ) → TellsFault held holds status → EndsExchange held holds status
exchanges_nothing held holds status fault = inr (inl (stops_for_memory IsStopText held holds status (inr (inr refl)) fault))

serves_nothing : (port count : ℕ) (held holds : Option Text) (status : ℕ) → TellsFault held holds status → EndsServing port count held holds status
serves_nothing port count held holds status (inl memory) = inr (inl (memory.0, inr memory.1))
serves_nothing port count held holds status (inr three) = inr (inr (inr three))

exchange_at : (address : Text) (held holds : Option Text) (status : ℕ) → ((host : Text) (port : ℕ) → IsPeer address host port → EndsExchange held holds status)
    → (((host : Text) (port : ℕ) → ¬ IsPeer address host port) → TellsBadAddress held holds status) → EndsExchangeAt address held holds status
exchange_at address held holds status named none = record { asked = named; bad = none }

-- a command line that asks this of a replica ends as the asking does
pub task_ends : {K C T : Type 0} (keeper : Ghosts K) (copy : Ghosts C) (trees : Ghosts T) (asked : Invoked) (database : String Global) (work : Task) (held holds : Option Text) (status : ℕ)
    → asked ≡ asked_of (invocation.Ask database work)
    → EndsAskingOne keeper copy trees (IsCommandFor work) (TellsTo (file_for work)) held holds status → EndsAs keeper copy trees asked held holds status
task_ends keeper copy trees asked database (task.Local local) held holds status is ends = subst (λ a. EndsAs keeper copy trees a held holds status) (sym is) ends
task_ends keeper copy trees asked database (task.Export position out lines) held holds status is ends = subst (λ a. EndsAs keeper copy trees a held holds status) (sym is) ends
task_ends keeper copy trees asked database (task.Import batch) held holds status is ends = subst (λ a. EndsAs keeper copy trees a held holds status) (sym is) ends

-- an exchange that ends as such an address says is the end of the command line that asks for it
pub exchange_ends : {K C T : Type 0} (keeper : Ghosts K) (copy : Ghosts C) (trees : Ghosts T) (asked : Invoked) (database address : Text) (held holds : Option Text) (status : ℕ)
    → asked ≡ Exchange database address → ((host : Text) (port : ℕ) → IsPeer address host port → EndsExchange held holds status)
    → (((host : Text) (port : ℕ) → ¬ IsPeer address host port) → TellsBadAddress held holds status) → EndsAs keeper copy trees asked held holds status
exchange_ends keeper copy trees asked database address held holds status is named none =
    subst (λ a. EndsAs keeper copy trees a held holds status) (sym is) (exchange_at address held holds status named none)

-- where memory is wanting before anything is done, each command line ends so
pub fault_ends : {K C T : Type 0} (keeper : Ghosts K) (copy : Ghosts C) (trees : Ghosts T) (asked : Invoked) (held holds : Option Text) (status : ℕ)
    → TellsFault held holds status → EndsAs keeper copy trees asked held holds status
fault_ends keeper copy trees (Init database server primary) held holds status fault = inr (inr fault)
fault_ends keeper copy trees (Ask database command) held holds status fault = inl (inl (inr (inr fault)))
fault_ends keeper copy trees (Export database position batch max_lines) held holds status fault = inl (inl (inr (inr fault)))
fault_ends keeper copy trees (Import database batch) held holds status fault = inl (inl (inr (inr fault)))
fault_ends keeper copy trees (Rehearse script) held holds status fault = stops_at_once held holds status fault
fault_ends keeper copy trees (Serve database port connections) held holds status fault = serves_nothing port connections held holds status fault
fault_ends keeper copy trees (Exchange database address) held holds status fault = record {
  asked = λ host port is. exchanges_nothing held holds status fault;
  bad = λ none. inr (stops_for_memory (λ text. text ≡ no_memory_line) held holds status refl fault);
}
fault_ends keeper copy trees (Bridge database other) held holds status fault = exchanges_nothing held holds status fault

-- ---- no status is above 3

status_low : (reply : Reply) → status_of reply ≤ 1
status_low RoomAdded = lit≤ tt
status_low (OutcomeIs o) = lit≤ tt
status_low (Took w c) = lit≤ tt
status_low (CommittedIs n) = lit≤ tt
status_low (DroppedIs n) = lit≤ tt
status_low (PositionIs p) = lit≤ tt
status_low (BatchIs b) = lit≤ tt
status_low (Sheet room day es) = lit≤ tt
status_low (Calendar room part es) = lit≤ tt
status_low (Errors room ls) = lit≤ tt
status_low (Refused e) = lit≤ tt

fault_within : (held holds : Option Text) (status : ℕ) → TellsFault held holds status → status ≤ 3
fault_within held holds status (inl memory) = let one = memory.0 in omega (arith, one)
fault_within held holds status (inr three) = omega (arith, three)

tells_within : (reply : Reply) (held holds : Option Text) (status : ℕ) → PrintsReply reply held holds status → status ≤ 3
tells_within reply held holds status (inl told) = let low = status_low reply in let same = told.0 in omega (arith, low, same)
tells_within reply held holds status (inr fault) = fault_within held holds status fault

length_within : (n : ℕ) (held holds : Option Text) (status : ℕ) → TellsLength n held holds status → status ≤ 3
length_within n held holds status (inl told) = let zero = told.0 in omega (arith, zero)
length_within n held holds status (inr fault) = fault_within held holds status fault

written_within : (reply : Reply) (held holds : Option Text) (status : ℕ) → TellsWritten reply held holds status → status ≤ 3
written_within reply held holds status (inl refusal) = tells_within reply held holds status refusal.1
written_within reply held holds status (inr (inl done)) = length_within _ held holds status done.2
written_within reply held holds status (inr (inr fault)) = fault_within held holds status fault

unopened_within : (held holds : Option Text) (status : ℕ) → TellsUnopened held holds status → status ≤ 3
unopened_within held holds status (inl refusal) = let one = refusal.0 in omega (arith, one)
unopened_within held holds status (inr fault) = fault_within held holds status fault

asking_within : {K : Type 0} (keeper : Ghosts K) (IsCommand : Command → Type 0) (TellsReply : Reply → Option Text → Option Text → ℕ → Type 0) (held holds : Option Text) (status : ℕ)
    → ((reply : Reply) → TellsReply reply held holds status → status ≤ 3) → EndsAsking keeper IsCommand TellsReply held holds status → status ≤ 3
asking_within keeper IsCommand TellsReply held holds status low (inl ends) = low ends.3.1 ends.3.4
asking_within keeper IsCommand TellsReply held holds status low (inr unopened) = unopened_within held holds status unopened

either_within : {K C : Type 0} (keeper : Ghosts K) (copy : Ghosts C) (IsCommand : Command → Type 0)
    (TellsReply : Reply → Option Text → Option Text → ℕ → Type 0) (held holds : Option Text) (status : ℕ)
    → ((reply : Reply) → TellsReply reply held holds status → status ≤ 3) → EndsAskingEither keeper copy IsCommand TellsReply held holds status → status ≤ 3
either_within keeper copy IsCommand TellsReply held holds status low (inl ends) = asking_within keeper IsCommand TellsReply held holds status low ends
either_within keeper copy IsCommand TellsReply held holds status low (inr ends) = asking_within copy (λ c. IsCommand c × OnlyReads c) TellsReply held holds status low ends

one_within : {K C T : Type 0} (keeper : Ghosts K) (copy : Ghosts C) (trees : Ghosts T) (IsCommand : Command → Type 0)
    (TellsReply : Reply → Option Text → Option Text → ℕ → Type 0) (held holds : Option Text) (status : ℕ)
    → ((reply : Reply) → TellsReply reply held holds status → status ≤ 3) → EndsAskingOne keeper copy trees IsCommand TellsReply held holds status → status ≤ 3
one_within keeper copy trees IsCommand TellsReply held holds status low (inl ends) = either_within keeper copy IsCommand TellsReply held holds status low ends
one_within keeper copy trees IsCommand TellsReply held holds status low (inr ends) = asking_within trees (λ c. IsCommand c × IsAboutRoom c) TellsReply held holds status low ends

rehearsal_within : (held holds : Option Text) (status : ℕ) → EndsRehearsal held holds status → status ≤ 3
rehearsal_within held holds status (inl done) = let zero = done.0 in omega (arith, zero)
rehearsal_within held holds status (inr (inl stopped)) = let one = stopped.0 in omega (arith, one)
rehearsal_within held holds status (inr (inr three)) = omega (arith, three)

stop_within : (IsText : Text → Type 0) (held holds : Option Text) (status : ℕ) → StopsWithText IsText held holds status → status ≤ 3
stop_within IsText held holds status (inl told) = let one = told.0 in omega (arith, one)
stop_within IsText held holds status (inr three) = omega (arith, three)

serving_within : (port count : ℕ) (held holds : Option Text) (status : ℕ) → EndsServing port count held holds status → status ≤ 3
serving_within port count held holds status (inl done) = let zero = done.0 in omega (arith, zero)
serving_within port count held holds status (inr (inl refusal)) = let one = refusal.0 in omega (arith, one)
serving_within port count held holds status (inr (inr stop)) = stop_within _ held holds status stop

exchange_within : (held holds : Option Text) (status : ℕ) → EndsExchange held holds status → status ≤ 3
exchange_within held holds status (inl done) = let zero = done.0 in omega (arith, zero)
exchange_within held holds status (inr (inl first)) = stop_within _ held holds status first
exchange_within held holds status (inr (inr second)) = stop_within _ held holds status second

bad_address_within : (held holds : Option Text) (status : ℕ) → TellsBadAddress held holds status → status ≤ 3
bad_address_within held holds status (inl bad) = let two = bad.0 in omega (arith, two)
bad_address_within held holds status (inr stop) = stop_within _ held holds status stop

-- either way the status is no greater, whichever address it is
exchange_at_within : (address : Text) (held holds : Option Text) (status : ℕ) → EndsExchangeAt address held holds status → status ≤ 3
exchange_at_within address held holds status ends =
    elim (cases_lt 3 status) [
      | inl high ↦ bad_address_within held holds status (ends.bad (λ host port is. let low = exchange_within held holds status (ends.asked host port is) in omega (arith, low, high)))
      | inr low ↦ low
    ]

pub ends_within : {K C T : Type 0} (keeper : Ghosts K) (copy : Ghosts C) (trees : Ghosts T) (asked : Invoked) (held holds : Option Text) (status : ℕ)
    → EndsAs keeper copy trees asked held holds status → status ≤ 3
ends_within keeper copy trees (Init database server primary) held holds status (inl done) = let zero = done.0 in omega (arith, zero)
ends_within keeper copy trees (Init database server primary) held holds status (inr unopened) = unopened_within held holds status unopened
ends_within keeper copy trees (Ask database command) held holds status ends =
    one_within keeper copy trees (λ c. c ≡ command) PrintsReply held holds status (λ reply told. tells_within reply held holds status told) ends
ends_within keeper copy trees (Export database position batch max_lines) held holds status ends =
    one_within keeper copy trees (IsBatchFor max_lines) TellsWritten held holds status (λ reply told. written_within reply held holds status told) ends
ends_within keeper copy trees (Import database batch) held holds status ends =
    one_within keeper copy trees IsReceive PrintsReply held holds status (λ reply told. tells_within reply held holds status told) ends
ends_within keeper copy trees (Rehearse script) held holds status ends = rehearsal_within held holds status ends
ends_within keeper copy trees (Serve database port connections) held holds status ends = serving_within port connections held holds status ends
ends_within keeper copy trees (Exchange database address) held holds status ends = exchange_at_within address held holds status ends
ends_within keeper copy trees (Bridge database other) held holds status ends = exchange_within held holds status ends

-- ---- words that are no command line

-- words that could be read weren't had for lack of memory
pub words_end : {K C T : Type 0} (keeper : Ghosts K) (copy : Ghosts C) (trees : Ghosts T) (asked : Invoked) (fault : WordFault) (held holds : Option Text) (status : ℕ)
    → ¬ (fault ≡ faults.Bad) → (fault ≡ faults.Memory → TellsFault held holds status) → EndsAs keeper copy trees asked held holds status
words_end keeper copy trees asked faults.Bad held holds status not_bad memory = absurd (not_bad refl)
words_end keeper copy trees asked faults.Memory held holds status not_bad memory = fault_ends keeper copy trees asked held holds status (memory refl)

-- the line of bad words, or want of memory in its place
pub bad_words_end : (fault : WordFault) (held holds : Option Text) (status : ℕ)
    → (fault ≡ faults.Bad → ((status ≡ 2) × Appends held holds bad_words_line) ⊎ (status ≡ 3)) → (fault ≡ faults.Memory → TellsFault held holds status)
    → ((status ≡ 2) × Appends held holds bad_words_line) ⊎ (((status ≡ 1) × Appends held holds no_memory_line) ⊎ (status ≡ 3))
bad_words_end faults.Bad held holds status bad memory = said (bad refl)
  where
    said : ((status ≡ 2) × Appends held holds bad_words_line) ⊎ (status ≡ 3) → ((status ≡ 2) × Appends held holds bad_words_line) ⊎ (((status ≡ 1) × Appends held holds no_memory_line) ⊎ (status ≡ 3))
    said (inl two) = inl two
    said (inr three) = inr (inr three)
bad_words_end faults.Memory held holds status bad memory = inr (memory refl)

pub bad_words_status : (status : ℕ) {A B : Type 0} → ((status ≡ 2) × A) ⊎ (((status ≡ 1) × B) ⊎ (status ≡ 3)) → status ≤ 3
bad_words_status status (inl two) = (let is = two.0 in omega (arith, is))
bad_words_status status (inr (inl one)) = (let is = one.0 in omega (arith, is))
bad_words_status status (inr (inr three)) = omega (arith, three)
