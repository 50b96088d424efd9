-- What is said of bytes where they are known, and of inputs.
use Rattle.std.proofs.Common.{refl, ℕ, List, [], Option, Some, None, IfSome}
use Rattle.mr_http.specs.Inputs.{OfInput}

pub if_some_map : {A : Type 0} (o : Option A) (P Q : A → Type 0) → ((x : A) → P x → Q x) → IfSome o P → IfSome o Q
if_some_map None P Q f h = tt
if_some_map (Some x) P Q f h = f x h

-- what holds of the known input, and of the bytes that were read where it isn't known
pub of_input : (known : Option (List ℕ)) (bytes : List ℕ) (P : List ℕ → Type 0) → IfSome known P → P bytes → OfInput known P
of_input None bytes P h p = (bytes, tt, p)
of_input (Some x) bytes P h p = (x, refl, h)

pub of_input_map : (known : Option (List ℕ)) (P Q : List ℕ → Type 0) → ((x : List ℕ) → P x → Q x) → OfInput known P → OfInput known Q
of_input_map known P Q f h = (h.0, h.1, f h.0 h.2)

-- what says nothing holds of any input
pub of_input_unit : (known : Option (List ℕ)) → OfInput known (λ _. Unit {0})
of_input_unit None = ([], tt, tt)
of_input_unit (Some x) = (x, refl, tt)
