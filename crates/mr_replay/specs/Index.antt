-- The index of a board's bookings: by day, then by room, then by id. A booking keeps its key when a cancel takes it back, so that
-- undoing the cancel takes no memory.
use Rattle.std.specs.Prelude.{◌≡◌, ℕ, Bool, false, ◌&&◌, List, [], ◌∷◌, ◌++◌, length, drop, Option, Some, None, IsTrue, IfSome}
use Rattle.std.specs.BTreeSet.{BTreeSet, contains, keys_between}
use Rattle.std.specs.declared.ops.Bound.TheVariants.{Included}
use Rattle.std.specs.Map.{keys_of}
use Rattle.std.specs.List.Sorted.{IsStrictlySortedBy}
use Rattle.std.specs.Ordering.{on, nat_cmp, then_cmp}
use Rattle.std.specs.Cmp.Lexicographic.{slice_cmp}
use Rattle.std.specs.declared.cmp.Ordering.{Ordering}
use Rattle.mr_model.specs.Texts.{Text}
use Rattle.mr_model.specs.Slots.{Slot, overlaps}
use Rattle.mr_model.specs.Calendar.{Date}
use Rattle.mr_model.specs.Writes.{Id}
use Rattle.mr_base.specs.Ids.{id_cmp}
use Rattle.mr_replay.specs.declared.index.IndexKey.{IndexKey}
use Rattle.mr_replay.specs.declared.rows.Standing.TheVariants.{Booked, CancelledBy, InErrorLog}
use Rattle.mr_replay.specs.declared.rows.Trace.{Trace}
use Rattle.mr_replay.specs.declared.rows.Trace.TheVariants.{OfBooking, OfCancel}
use Rattle.mr_replay.specs.declared.rows.Row.{Row}
use Rattle.mr_replay.specs.Rows.{Rows, row_at, is_in_the_way}

abbrev pub zeros : List ℕ
zeros = 0 ∷ 0 ∷ 0 ∷ 0 ∷ 0 ∷ 0 ∷ 0 ∷ 0 ∷ 0 ∷ 0 ∷ 0 ∷ 0 ∷ 0 ∷ 0 ∷ 0 ∷ 0 ∷ []

-- a name with zeros up to 16 bytes
abbrev pub padded : Text → List ℕ
padded name = name ++ drop (length name) zeros

-- ---- the order of the keys

abbrev pub day_cmp : Date → Date → Ordering
day_cmp = then_cmp (on (λ d. d.year) nat_cmp) (then_cmp (on (λ d. d.month) nat_cmp) (on (λ d. d.day) nat_cmp))

abbrev pub slot_cmp : Slot → Slot → Ordering
slot_cmp = then_cmp (on (λ s. s.day) day_cmp) (on (λ s. s.start) nat_cmp)

-- by day, then by room, then by id; the ends of a room's day are in front of all its bookings and behind them
abbrev pub key_cmp : IndexKey → IndexKey → Ordering
key_cmp = then_cmp (on (λ k. k.day) day_cmp) (then_cmp (on (λ k. k.room) (slice_cmp nat_cmp)) (then_cmp (on (λ k. k.edge) nat_cmp)
    (then_cmp (on (λ k. k.id) id_cmp) (then_cmp (on (λ k. k.slot) slot_cmp) (on (λ k. k.length) nat_cmp)))))

-- where a booking of the room stands
abbrev pub key_of : Id → Text → Slot → ℕ → IndexKey
key_of i room slot length = record { day = slot.day; room = padded room; edge = 1; id = i; slot = slot; length = length }

-- the ends of the day of a slot in a room
abbrev pub end_key : ℕ → Slot → Text → IndexKey
end_key edge slot room = record { day = slot.day; room = padded room; edge = edge; id = record { server = 1; n = 1 }; slot = slot; length = 0 }

abbrev pub first_key : Slot → Text → IndexKey
first_key slot room = end_key 0 slot room

abbrev pub last_key : Slot → Text → IndexKey
last_key slot room = end_key 2 slot room

-- where a row stands, if it is that of a booking that took its slot, whether a cancel took it back or not
abbrev pub key_traced : Id → Text → Trace → Option IndexKey
key_traced i room (OfBooking slot length title Booked) = Some (key_of i room slot length)
key_traced i room (OfBooking slot length title (CancelledBy cancel)) = Some (key_of i room slot length)
key_traced i room (OfBooking slot length title InErrorLog) = None
key_traced i room (OfCancel target) = None

abbrev pub key_if_taken : Id → Row → Option IndexKey
key_if_taken i row = key_traced i row.room row.trace

-- whether the index has a key
abbrev pub has : BTreeSet IndexKey → IndexKey → Bool
has index key = contains key_cmp index key

-- the other index has each key of this one
abbrev pub Grows : BTreeSet IndexKey → BTreeSet IndexKey → Type 0
Grows old new = (key : IndexKey) → IsTrue (has old key) → IsTrue (has new key)

-- the key of the row, if it has one, is in the index
abbrev pub IsNoted : BTreeSet IndexKey → Id → Row → Type 0
IsNoted index i row = (key : IndexKey) → key_if_taken i row ≡ Some key → IsTrue (has index key)

-- the rows stand in the order of their ids, and the key of each is in the index
pub record IsIndexed (rows : Rows) (index : BTreeSet IndexKey) : Type 0 where
  pub ordered : IsStrictlySortedBy id_cmp (keys_of rows)
  pub bookings : (i : Id) → IfSome (row_at rows i) (IsNoted index i)

-- ---- whether a slot is taken

abbrev pub is_row : (Row → Bool) → Option Row → Bool
is_row test None = false
is_row test (Some row) = test row

-- whether the row of this id is a booking of the room that overlaps the slot
abbrev pub way_at : Text → Slot → ℕ → Rows → Id → Bool
way_at room slot length rows i = is_row (is_in_the_way room slot length) (row_at rows i)

-- whether what this key is of overlaps the slot, and the row of its id is in the way
abbrev pub is_in_the_way_at : Text → Slot → ℕ → Rows → IndexKey → Bool
is_in_the_way_at room slot length rows key = overlaps slot length key.slot key.length && way_at room slot length rows key.id

-- what the index has of the slot's day of this room
abbrev pub of_day : Slot → Text → BTreeSet IndexKey → List IndexKey
of_day slot room index = keys_between key_cmp (Included (first_key slot room)) (Included (last_key slot room)) index
