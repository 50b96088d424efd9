-- How commands end.
use Rattle.std.proofs.Common.{◌≡◌, refl, sym, ap, subst, ℕ, ◌⊎◌, inl, inr, Option, arith}
use Rattle.std.specs.Io.KnownBytes.{Appends}
use Rattle.mr_model.specs.Texts.{Text, line}
use Rattle.mr_model.specs.Refusals.{refusal_text}
use Rattle.mr_model.specs.Replies.{Reply}
use Rattle.mr_model.specs.Step.{Command}
use Rattle.mr_base.specs.RefusalViews.{refusal_of}
use Rattle.mr_base.specs.declared.refusals.Refusal.{Refusal}
use Rattle.mr_base.specs.declared.refusals.Refusal.TheVariants as refusal
use Rattle.mr_store.specs.declared.keeper.Keeper.{Ghosts}
use Rattle.mr_service.specs.Asked.{local_of}
use Rattle.mr_service.specs.declared.commands.Local.{Local}
use Rattle.mr_words.specs.CommandOutput.{no_memory_line}
use Rattle.mr_tasks.specs.CommandEffects.{TellsFault}
use Rattle.mr_tasks.specs.Tasks.{IsOfDatabase, TellsUnopened, EndsAsking, IsAboutRoom, IsAnswered, IsOpened, OnlyReads}

-- why a keeper could not be opened, as a refusal of the definitions
of_database : (e : Refusal) → (e ≡ refusal.OutOfMemory) ⊎ ((e ≡ refusal.Store) ⊎ (e ≡ refusal.NotAReplica)) → IsOfDatabase (refusal_of e)
of_database e (inl memory) = inl (ap refusal_of memory)
of_database e (inr (inl store)) = inr (inl (ap refusal_of store))
of_database e (inr (inr other)) = inr (inr (ap refusal_of other))

refused : (e : Refusal) (held holds : Option Text) (status : ℕ) → IsOfDatabase (refusal_of e) → status ≡ 1
    → Appends held holds (line (refusal_text (refusal_of e))) ⊎ Appends held holds no_memory_line → TellsUnopened held holds status
refused e held holds status is one (inl told) = inl (one, refusal_of e, is, told)
refused e held holds status is one (inr memory) = inr (inl (one, memory))

-- the refusal of a database is told, or want of memory in its place, or there is a fault
pub refusal_ends : (e : Refusal) (held holds : Option Text) (status : ℕ)
    → (e ≡ refusal.OutOfMemory) ⊎ ((e ≡ refusal.Store) ⊎ (e ≡ refusal.NotAReplica)) → (status ≡ 1) ⊎ (status ≡ 3)
    → (status ≡ 1 → Appends held holds (line (refusal_text (refusal_of e))) ⊎ Appends held holds no_memory_line) → TellsUnopened held holds status
refusal_ends e held holds status cause (inl one) told = refused e held holds status (of_database e cause) one (told one)
refusal_ends e held holds status cause (inr three) told = inr (inr three)

-- a question is answered from a copy; whatever else is known of such a command
pub copy_ends : {C : Type 0} (copy : Ghosts C) (IsCommand Also : Command → Type 0) (TellsReply : Reply → Option Text → Option Text → ℕ → Type 0) (old new : C) (held holds : Option Text) (status : ℕ)
    → ((c : Command) → IsCommand c → Also c) → IsOpened copy old → IsAnswered copy IsCommand TellsReply old new held holds status
    → EndsAsking copy (λ c. IsCommand c × Also c) TellsReply held holds status
copy_ends copy IsCommand Also TellsReply old new held holds status also opened answered =
    inl (old, new, opened, (answered.0, answered.1, (answered.2, also answered.0 answered.2), answered.3, answered.4))

-- a command is known by its kind
pub as_about_room : {asked given : Local} → asked ≡ given → IsAboutRoom (local_of given) → IsAboutRoom (local_of asked)
as_about_room same is = subst (λ l. IsAboutRoom (local_of l)) (sym same) is

-- a question about a room leaves each replica as it is
pub room_reads : (c : Command) → IsAboutRoom c → OnlyReads c
room_reads c is = subst OnlyReads (sym is.2) (λ r. refl)

-- where a fault is of status 1, want of memory is printed
pub fault_printed : (held holds : Option Text) (status : ℕ) → TellsFault held holds status → status ≡ 1 → Appends held holds no_memory_line
fault_printed held holds status (inl memory) one = memory.1
fault_printed held holds status (inr three) one = absurd (omega (arith, one, three))
