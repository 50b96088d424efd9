-- What calls answer: a value or a refusal, and want of memory in place of either.
use Rattle.std.specs.Prelude.{◌≡◌, ◌⊎◌, Bool, List, [], ◌∷◌, Result, Ok, Err, if◌then◌else◌}
use Rattle.mr_model.specs.Refusals as model
use Rattle.mr_base.specs.RefusalViews.{refusal_of}
use Rattle.mr_base.specs.declared.refusals.Refusal.{Refusal}
use Rattle.mr_base.specs.declared.refusals.Refusal.TheVariants.{OutOfMemory}

-- the stated answer, or want of memory in its place
abbrev pub OrOutOfMemory : {T : Type 0} → Result T Refusal → Result T Refusal → Type 0
OrOutOfMemory (Ok x) exact = exact ≡ Ok x
OrOutOfMemory (Err e) exact = (exact ≡ Err e) ⊎ (e ≡ OutOfMemory)

-- the answer of the definitions, or want of memory in its place
abbrev pub Gives : {T : Type 0} → Result T Refusal → Result T model.Refusal → Type 0
Gives (Ok x) exact = exact ≡ Ok x
Gives (Err e) exact = (exact ≡ Err (refusal_of e)) ⊎ (e ≡ OutOfMemory)

-- the value where the test passes, else the refusal
abbrev pub ok_if : {T : Type 0} → Bool → T → Refusal → Result T Refusal
ok_if test value refusal = if test then Ok value else Err refusal

-- the value, or the refusal of the first fault in the list that is there
abbrev pub unless_faulty : {T : Type 0} → List (Bool × Refusal) → T → Result T Refusal
unless_faulty [] value = Ok value
unless_faulty (fault ∷ faults) value = if fault.0 then Err fault.1 else unless_faulty faults value
