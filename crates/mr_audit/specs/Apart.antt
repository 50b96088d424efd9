-- Rows of which no two conflict.
use Rattle.std.specs.Prelude.{Bool, true, false, not, ◌&&◌, ◌||◌, ◌==◌, nat_lt, nat_le, List, [], ◌∷◌}
use Rattle.std.specs.List.{list_all}
use Rattle.std.specs.Cmp.Lexicographic.{slice_cmp}
use Rattle.std.specs.Ordering.{on, nat_cmp, then_cmp}
use Rattle.std.specs.declared.cmp.Ordering.{Ordering}
use Rattle.std.specs.declared.cmp.Ordering.TheVariants.{Less, Equal, Greater}
use Rattle.mr_model.specs.Writes.{same_id}
use Rattle.mr_model.specs.Tables.{BookingRow, Tables}
use Rattle.mr_replay.specs.Index.{day_cmp}
use Rattle.mr_agree.specs.Agreeing.{Note, notes}

-- none conflicts with a later one
abbrev pub apart : {X : Type 0} → (X → X → Bool) → List X → Bool
apart C [] = true
apart C (x ∷ xs) = list_all (λ y. not (C x y)) xs && apart C xs

-- ---- commit numbers

-- notes of two writes have two commit numbers, or one has none
abbrev pub do_numbers_differ : Note → Note → Bool
do_numbers_differ a b = same_id a.id b.id || (a.seq == 0 || not (a.seq == b.seq))

-- no commit number is that of two writes: a half of what `do_times_agree` asks
abbrev pub are_numbers_single : Tables → Bool
are_numbers_single t = list_all (λ a. list_all (do_numbers_differ a) (notes t)) (notes t)

-- the next in the order of commit numbers: a greater number, or none as well, or one write's
abbrev pub is_next_number : Note → Note → Bool
is_next_number a b = nat_lt a.seq b.seq || (a.seq == b.seq && (a.seq == 0 || same_id a.id b.id))

-- ---- bookings

-- by room and day
abbrev pub place_cmp : BookingRow → BookingRow → Ordering
place_cmp = then_cmp (on (λ r. r.room) (slice_cmp nat_cmp)) (on (λ r. r.day) day_cmp)

-- and by start
abbrev pub start_cmp : BookingRow → BookingRow → Ordering
start_cmp = then_cmp place_cmp (on (λ r. r.start) nat_cmp)

-- where two places are alike, this test decides
abbrev pub or_alike : Ordering → Bool → Bool
or_alike Less e = true
or_alike Equal e = e
or_alike Greater e = false

-- a later day or another room further on, or it begins when the first has ended
abbrev pub is_next_booking : BookingRow → BookingRow → Bool
is_next_booking a b = or_alike (place_cmp a b) (nat_le a.stop b.start)

-- it ends later than it begins
abbrev pub is_positive : BookingRow → Bool
is_positive r = nat_lt r.start r.stop
