-- What commands without a socket asked of a database, as calls of it, and as happenings.
use Rattle.std.proofs.Common.{◌≡◌, refl, sym, ap, subst, ◌∙◌, ℕ, ◌+◌, List, [], ◌∷◌, ◌++◌, length, take, inl, inr, ◌⊎◌, Option, Some, None, arith, add-one}
use Rattle.std.specs.declared.string.String.{String}
use Rattle.std.specs.declared.alloc.Global.{Global}
use Rattle.mr_model.specs.Texts.{Text}
use Rattle.mr_model.specs.Refusals.{Refusal, first_refusal}
use Rattle.mr_model.specs.Replica.{Replica}
use Rattle.mr_model.specs.Exchange.{Batch, batch_text}
use Rattle.mr_model.specs.Positions.{Position, read_position}
use Rattle.mr_model.specs.Replies.{Reply, BatchIs, Refused, reply_text}
use Rattle.mr_model.specs.Step.{After, Command, BatchFor, IsOfMachine, IsStep, batch_faults, batch_of, batch_unless, no_memory, no_store, reply_to_position, step}
use Rattle.mr_model.specs.Tables.{Stands}
use Rattle.mr_model.specs.World.{batch_numbered}
use Rattle.mr_model.proofs.Fronts.{get_end}
use Rattle.mr_store.specs.declared.keeper.Keeper.{Ghosts}
use Rattle.mr_service.specs.Asked.{local_of}
use Rattle.mr_service.specs.declared.commands.Local.{Local}
use Rattle.mr_service.specs.declared.commands.Local.TheVariants as local
use Rattle.mr_words.specs.CommandOutput.{status_of}
use Rattle.mr_words.specs.declared.invocations.Task.{Task}
use Rattle.mr_words.specs.declared.invocations.Task.TheVariants as tasks
use Rattle.mr_tasks.specs.CommandEffects.{TellsFault, TellsWritten}
use Rattle.mr_tasks.specs.Tasks.{IsAboutRoom, IsCommandFor, OnlyReads, TellsTo, file_for}
use Rattle.mr_offices.specs.Happenings.{IsAsked, IsFrontOf, reopened, reopened_at, texts_after}
use Rattle.mr_branches.specs.Sights.{sight_of}
use Rattle.mr_branches.proofs.PullRuns.{get_set}
use Rattle.mr_branches.proofs.Served.{served_is_called}
use Rattle.mr_calls.specs.TaskCalls.{DoesTask, ExportsAreGiven, InitsFound, OpeningsReopen, QuestionsAreCalls, TasksAreAsked, TasksAreCalls, TasksHappen, office_opened}
use Rattle.mr_calls.proofs.CallChains.{calls_happen}

-- ---- a task over a keeper

-- it is one call, or none
pub tasks_calls : {K : Type 0} (k : Ghosts K) → TasksAreCalls k
tasks_calls k asked old new held holds status (inl (c, reply, is, served, told)) clean =
    ((c, reply) ∷ [], (is, told), (new, served_is_called k old new c reply served.0 clean, refl))
tasks_calls k asked old new held holds status (inr (same, fault)) clean = ([], fault, same)

-- a keeper that is clean behind a task was so before it
clean_before : {K : Type 0} (k : Ghosts K) (asked : Task) (old new : K) (held holds : Option Text) (status : ℕ) → DoesTask k asked old new held holds status → k.is_clean new → k.is_clean old
clean_before k asked old new held holds status (inl (c, reply, is, served, told)) clean = served.0.clean clean
clean_before k asked old new held holds status (inr (same, fault)) clean = subst (λ x. k.is_clean x) same clean

-- a database that is opened, as one that is opened again
pub openings_reopen : {K : Type 0} (k : Ghosts K) → OpeningsReopen k
openings_reopen k old new is clean found = record { opens = is.opens clean; found = found; settled = is.settled clean }

-- it happens
pub tasks_happen : {K : Type 0} (k : Ghosts K) → TasksHappen k
tasks_happen k v place o asked opened new held holds status at doubted found is does clean =
    let clean_opened = clean_before k asked opened new held holds status does clean in
    let again = openings_reopen k o.keeper opened is clean_opened found in
    let (calls, of, are) = tasks_calls k asked opened new held holds status does clean in
    let one = office_opened o opened in (
      calls,
      of,
      λ from. reopened place o opened at doubted again
          (calls_happen (sight_of k) (reopened_at v place o opened) place one calls new (get_set v.offices place one o at) from are),
    )

-- ---- questions of copies

-- a reply to a question leaves the replica
question_steps : (a : Replica) (c : Command) (reply : Reply) → OnlyReads c → IsOfMachine reply ⊎ (reply ≡ (step a c).reply) → IsStep a c reply a
question_steps a c reply reads (inl machine) = inr (machine, refl)
question_steps a c reply reads (inr said) = let same : a ≡ (step a c).replica = sym (reads a) in inl (λ i. record { reply = said i; replica = same i })

-- one about a room is such
only_reads : (c : Command) → OnlyReads c ⊎ IsAboutRoom c → OnlyReads c
only_reads c (inl reads) = reads
only_reads c (inr about) = subst OnlyReads (sym about.2) (λ r. refl)

-- a question of a copy, as a call of the database
pub questions_calls : {K C : Type 0} (k : Ghosts K) (copy : Ghosts C) → QuestionsAreCalls k copy
questions_calls k copy database old new c reply opened settled found is asked clean question =
    let same = settled (copy.tables old) found in
    let replied = asked.1 clean (is.opens (asked.0.clean clean)) in
    record {
      opens = λ now. now;
      answered = inl opened;
      lasts = λ was. inr was;
      step = λ now a stands. (a, question_steps a c reply (only_reads c question) (replied a (subst (λ t. Stands t a) (sym same) stands)), stands);
      refused = λ now machine. refl;
      settled = λ now was. was;
      crash = λ t left. inl left;
    }

-- ---- files

-- a command line's own words may be given by anybody
local_asked : (texts : List Text) (l : Local) → IsAsked texts (local_of l)
local_asked texts (local.AddRoom room) = tt
local_asked texts (local.Submit s) = tt
local_asked texts (local.Cancel room id) = tt
local_asked texts (local.Commit k) = tt
local_asked texts (local.Truncate d) = tt
local_asked texts local.Position = tt
local_asked texts (local.BatchFor position max_lines) = tt
local_asked texts (local.Calendar room part) = tt
local_asked texts (local.Sheet room day) = tt
local_asked texts (local.Outcome room id) = tt
local_asked texts (local.Errors room) = tt

-- and so may any task whose file was given
pub tasks_asked : TasksAreAsked
tasks_asked texts (tasks.Local l) bytes c given is = subst (IsAsked texts) (sym is) (local_asked texts l)
tasks_asked texts (tasks.Import batch) bytes c given (read, same, is) = subst (IsAsked texts) (sym is) (subst (IsFrontOf texts) (sym same) given)
tasks_asked texts (tasks.Export position out lines) bytes c given (read, same, is) = subst (IsAsked texts) (sym is) tt

-- a refusal has status 1
refusal_status : (reply : Reply) → IsOfMachine reply → status_of reply ≡ 0 → ⊥
refusal_status reply no_memory e = omega (arith, e)
refusal_status reply no_store e = omega (arith, e)

-- and so has each other one
any_refusal_status : (reply : Reply) (e : Refusal) → reply ≡ Refused e → status_of reply ≡ 0 → ⊥
any_refusal_status reply e is zero = let one : status_of (Refused e) ≡ 0 = subst (λ r. status_of r ≡ 0) is zero in absurd (omega (arith, one))

-- what isn't refused is a batch
unless_batch : (o : Option Refusal) (b : Batch) (reply : Reply) → reply ≡ batch_unless o b → status_of reply ≡ 0 → reply ≡ BatchIs b
unless_batch None b reply is zero = is
unless_batch (Some e) b reply is zero = absurd (let one : 1 ≡ 0 = sym (ap status_of is) ∙ zero in omega (arith, one))

batch_given : (a : Replica) (o : Option Position) (m : ℕ) (reply : Reply) → reply ≡ reply_to_position a o m → status_of reply ≡ 0 → (b : Batch) × (reply ≡ BatchIs b)
batch_given a None m reply is zero = absurd (let one : 1 ≡ 0 = sym (ap status_of is) ∙ zero in omega (arith, one))
batch_given a (Some p) m reply is zero = (batch_of a p m, unless_batch (first_refusal (batch_faults a p m)) (batch_of a p m) reply is zero)

-- of a step that asks for a batch
step_given : (a b : Replica) (position : Text) (m : ℕ) (reply : Reply) → IsStep a (BatchFor position m) reply b → status_of reply ≡ 0 → (x : Batch) × (reply ≡ BatchIs x)
step_given a b position m reply (inl is) zero = batch_given a (read_position position) m reply (ap (λ (r : After). r.reply) is) zero
step_given a b position m reply (inr (machine, same)) zero = absurd (refusal_status reply machine zero)

-- each prefix of the last text is one of a text that was given
last_front : (texts : List Text) (t : Text) (count : ℕ) → IsFrontOf (texts ++ t ∷ []) (take count t)
last_front texts t count = record { number = length texts + 1; text = t; count = count; is_there = ap (batch_numbered (texts ++ t ∷ [])) (add-one (length texts)) ∙ get_end texts t; is_front = refl }

-- a file that was written takes no refusal
written_whole : (reply : Reply) (held holds : Option Text) → TellsWritten reply held holds 0 → status_of reply ≡ 0
written_whole reply held holds (inl (one, inl (zero, appends))) = sym zero
written_whole reply held holds (inl (one, inr (inl (bad, appends)))) = absurd (omega (arith, bad))
written_whole reply held holds (inl (one, inr (inr bad))) = absurd (omega (arith, bad))
written_whole reply held holds (inr (inl told)) = told.0
written_whole reply held holds (inr (inr (inl bad))) = absurd (omega (arith, bad.0))
written_whole reply held holds (inr (inr (inr bad))) = absurd (omega (arith, bad))

-- no fault has status 0
no_fault : (held holds : Option Text) → TellsFault held holds 0 → ⊥
no_fault held holds (inl bad) = omega (arith, bad.0)
no_fault held holds (inr bad) = omega (arith, bad)

-- a task with a file for its reply asks for a batch, and writes that
writes_batch : (asked : Task) (path : String Global) (c : Command) (reply : Reply) (held holds : Option Text) → file_for asked ≡ Some path
    → IsCommandFor asked c → TellsTo (file_for asked) reply held holds 0 → (position : Text) × (lines : ℕ) × (c ≡ BatchFor position lines) × (status_of reply ≡ 0)
writes_batch (tasks.Local l) path c reply held holds e is told = absurd (let z : ◌≡◌ {A = Option (String Global)} None (Some path) = e in cc)
writes_batch (tasks.Import batch) path c reply held holds e is told = absurd (let z : ◌≡◌ {A = Option (String Global)} None (Some path) = e in cc)
writes_batch (tasks.Export position out lines) path c reply held holds e is told = (is.0, lines, is.1, written_whole reply held holds told)

-- what an export wrote is what was given
pub exports_given : {K : Type 0} (k : Ghosts K) → ExportsAreGiven k
exports_given k asked path old new held holds [] texts a count e fault stands are = absurd (no_fault held holds fault)
exports_given k asked path old new held holds (c ∷ d ∷ cs) texts a count e none stands are = absurd none
exports_given {K} k asked path old new held holds (c ∷ []) texts a count e of stands (m, call, same) =
    let (position, lines, is, zero) = writes_batch asked path c.0 c.1 held holds e of.0 of.1 in
    let was_open : k.is_open old = elim call.answered [ inl was ↦ was | inr refused ↦ absurd (any_refusal_status c.1 refused.0 refused.1 zero) ] in
    let open_m : k.is_open m = elim (call.lasts was_open) [ inl machine ↦ absurd (refusal_status c.1 machine zero) | inr now ↦ now ] in
    let (b, took, after) = call.step open_m a stands in
    let (x, given) = step_given a b position lines c.1 (subst (λ command. IsStep a command c.1 b) is took) zero in
    subst (λ command. IsFrontOf (texts_after texts command c.1) (take count (reply_text c.1))) (sym is)
    (subst (λ reply. IsFrontOf (texts_after texts (BatchFor position lines) reply) (take count (reply_text reply))) (sym given) (last_front texts (batch_text x) count))

-- ---- founding

-- a database that was made, as a new office's
pub inits_found : {K : Type 0} (k : Ghosts K) → InitsFound k
inits_found k v server new within other is clean =
    elim (is.tables clean) [
      | inl stands ↦ inl (record { within = within; other = other; opens = is.opened.opens clean; stands = stands; settled = is.opened.settled clean })
      | inr ours ↦ inr ours
    ]
