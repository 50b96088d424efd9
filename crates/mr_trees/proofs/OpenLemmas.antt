-- A store whose transaction isn't broken is open.
use Rattle.std.specs.Prelude.{OnOk}
use Rattle.std.proofs.Common.{◌≡◌, Bool, true, false, Result, Ok, Err, IsTrue, refl, sym, ◌∙◌}

pub open_if_sound : (is_open is_broken : Bool) → (is_open ≡ false → IsTrue is_broken) → is_broken ≡ false → IsTrue is_open
open_if_sound true is_broken law sound = refl
open_if_sound false is_broken law sound = absurd (let both = sym (law refl) ∙ sound in cc)

-- what is so of every answer
pub of_any : {X E : Type 0} (r : Result X E) {P : Type 0} → P → OnOk r P
of_any (Ok x) p = p
of_any (Err e) p = tt
