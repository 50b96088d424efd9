-- How a line is told, or why it isn't.
use Rattle.std.proofs.Common.{◌≡◌, ◌≢◌, refl, sym, ◌∙◌, subst, ℕ, ◌⊎◌, inl, inr, Ok, Err, Option}
use Rattle.std.specs.Prelude.{Result, IfOk, IfErr}
use Rattle.std.specs.Io.KnownBytes.{Appends}
use Rattle.mr_model.specs.Texts.{Text}
use Rattle.mr_words.specs.CommandOutput.{no_memory_line}
use Rattle.mr_net.specs.Printed.{StopsWithText}

-- a text of that kind is printed, unless the writer fails
pub stops_with : (IsText : Text → Type 0) (text : Text) (held holds : Option Text) (status : ℕ) → IsText text
    → (status ≡ 1) ⊎ (status ≡ 3) → (status ≢ 3 → Appends held holds text) → StopsWithText IsText held holds status
stops_with IsText text held holds status is (inl one) told = inl (one, text, is, told (λ three. let none : 1 ≡ 3 = sym one ∙ three in cc))
stops_with IsText text held holds status is (inr three) told = inr three

-- texts of the one kind are of the other too
pub stops_so : (IsText IsOther : Text → Type 0) (held holds : Option Text) (status : ℕ) → ((text : Text) → IsText text → IsOther text)
    → StopsWithText IsText held holds status → StopsWithText IsOther held holds status
stops_so IsText IsOther held holds status so (inl told) = inl (told.0, told.1, so told.1 told.2, told.3)
stops_so IsText IsOther held holds status so (inr three) = inr three

-- nothing stops with status 0
pub never_stops : (IsText : Text → Type 0) (held holds : Option Text) → StopsWithText IsText held holds 0 → ⊥
never_stops IsText held holds (inl told) = let none : 0 ≡ 1 = told.0 in cc
never_stops IsText held holds (inr three) = let none : 0 ≡ 3 = three in cc

-- a line that was made, to be told with status 0; or memory is wanting for it
pub line_told : {S E : Type 0} (bytes : S → Text) (made : Result S E) (text : Text) (held holds : Option Text) (status : ℕ)
    → IfOk made (λ s. bytes s ≡ text)
    → IfOk made (λ s. ((status ≡ 0) ⊎ (status ≡ 3)) × (status ≢ 3 → Appends held holds (bytes s)))
    → IfErr made (λ _. ((status ≡ 1) ⊎ (status ≡ 3)) × (status ≢ 3 → Appends held holds no_memory_line))
    → ((status ≡ 0) × Appends held holds text) ⊎ StopsWithText (λ t. t ≡ no_memory_line) held holds status
line_told bytes (Ok s) text held holds status is ok none =
    elim ok.0 [
      | inl zero ↦ inl (zero, subst (λ t. Appends held holds t) is (ok.1 (λ three. let no : 0 ≡ 3 = sym zero ∙ three in cc)))
      | inr three ↦ inr (inr three)
    ]
line_told bytes (Err e) text held holds status is none err =
    inr (stops_with (λ t. t ≡ no_memory_line) no_memory_line held holds status refl err.0 err.1)

-- a line that was made, to be told with status 1; or memory is wanting for it
pub line_stops : {S E : Type 0} (bytes : S → Text) (made : Result S E) (text : Text) (held holds : Option Text) (status : ℕ)
    → IfOk made (λ s. bytes s ≡ text)
    → IfOk made (λ s. ((status ≡ 1) ⊎ (status ≡ 3)) × (status ≢ 3 → Appends held holds (bytes s)))
    → IfErr made (λ _. ((status ≡ 1) ⊎ (status ≡ 3)) × (status ≢ 3 → Appends held holds no_memory_line))
    → StopsWithText (λ t. (t ≡ text) ⊎ (t ≡ no_memory_line)) held holds status
line_stops bytes (Ok s) text held holds status is ok none =
    stops_with (λ t. (t ≡ text) ⊎ (t ≡ no_memory_line)) (bytes s) held holds status (inl is) ok.0 ok.1
line_stops bytes (Err e) text held holds status is none err =
    stops_with (λ t. (t ≡ text) ⊎ (t ≡ no_memory_line)) no_memory_line held holds status (inr refl) err.0 err.1

-- with status 0 the line is told
pub was_told : (IsText : Text → Type 0) (text : Text) (held holds : Option Text) (status : ℕ) → status ≡ 0
    → ((status ≡ 0) × Appends held holds text) ⊎ StopsWithText IsText held holds status → Appends held holds text
was_told IsText text held holds status zero (inl told) = told.1
was_told IsText text held holds status zero (inr stops) = absurd (never_stops IsText held holds (subst (λ n. StopsWithText IsText held holds n) zero stops))
