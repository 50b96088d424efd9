-- What tables say that calls for the refusal of a submission or a cancel.
use Rattle.std.specs.Prelude.{◌≡◌, ◌<◌, ◌≤◌, ◌⊎◌, ℕ, Bool, ◌||◌}
use Rattle.std.specs.Option.{is_some}
use Rattle.mr_model.specs.Tables.{Tables}
use Rattle.mr_model.specs.Texts.{Text}
use Rattle.mr_model.specs.Writes.{Id, greatest_count, greatest_time}
use Rattle.mr_agree.specs.Agreeing.{vector_in}
use Rattle.mr_base.specs.declared.refusals.Refusal.{Refusal}
use Rattle.mr_base.specs.declared.refusals.Refusal.TheVariants.{ClockExhausted, CountExhausted}
use Rattle.mr_replica.specs.Picked.{find_booking, find_cancelled, find_error}

-- how many writes of the own server are known
abbrev pub own_count : Tables → ℕ
own_count t = (vector_in t.vector t.meta.server).count

-- the own server has no next write, for this cause
abbrev pub IsExhausted : Tables → Refusal → Type 0
IsExhausted t e =
    ((e ≡ ClockExhausted) × (greatest_time ≤ t.meta.clock)) ⊎ ((e ≡ CountExhausted) × (t.meta.clock < greatest_time) × (greatest_count ≤ own_count t))

-- a booking of the room has this id, be it booked, logged or cancelled
abbrev pub has_booking_id : Text → Id → Tables → Bool
has_booking_id room id t = is_some (find_booking room id t) || is_some (find_error room id t) || is_some (find_cancelled room id t)
