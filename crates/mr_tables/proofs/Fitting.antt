-- The choices of a meeting end on their day.
use Rattle.std.proofs.Common.{◌≡◌, ℕ, ◌+◌, ◌≤◌, ◌&&◌, true, Option, Some, None, IfSome, IsTrue, sym, leb-true}
use Rattle.std.specs.List.{list_all, slice_get}
use Rattle.std.proofs.lemmas.Bool.{and_parts}
use Rattle.mr_model.specs.Slots.{Slot, is_slot}
use Rattle.mr_model.specs.Writes.{Meeting, choices_of, is_meeting, fits_day}
use Rattle.mr_model.proofs.Members.{slice_has}
use Rattle.mr_model.proofs.Lists.{list_all_at}

-- all of them pass the test of slots
pub choices_pass : (m : Meeting) → IsTrue (is_meeting m) → list_all (λ s. is_slot s && fits_day m.length s) (choices_of m) ≡ true
choices_pass m h = (and_parts _ (list_all (λ s. is_slot s && fits_day m.length s) (choices_of m)) h).1

-- a choice of a meeting ends on its day
pub choice_fits : (m : Meeting) (k : ℕ) (s : Slot) → IsTrue (is_meeting m) → slice_get (choices_of m) k ≡ Some s → s.start + m.length ≤ 1440
choice_fits m k s h e =
    let fits = and_parts (is_slot s) (fits_day m.length s) (list_all_at (λ s. is_slot s && fits_day m.length s) s (choices_of m) (choices_pass m h) (slice_has (choices_of m) k s e)) in
    leb-true (s.start + m.length) 1440 fits.1

-- so does the choice of a number, where there is one
pub numbered_fits : (m : Meeting) (k : ℕ) (o : Option Slot) → IsTrue (is_meeting m) → o ≡ slice_get (choices_of m) k → IfSome o (λ s. s.start + m.length ≤ 1440)
numbered_fits m k None h e = tt
numbered_fits m k (Some s) h e = choice_fits m k s h (sym e)
