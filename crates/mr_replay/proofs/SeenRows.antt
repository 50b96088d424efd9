-- The bookings of some rooms of a board: look-ups, the order, and which bookings a room has among them.
use Rattle.std.proofs.Common.{◌≡◌, ◌∙◌, suc, Bool, true, false, not, cond, ◌&&◌, [], ◌∷◌, ◌++◌, Option, Some, None, length, ap, refl, sym}
use Rattle.std.specs.List.{filter, AllByRecursion}
use Rattle.std.specs.List.Sorted.{IsStrictlySortedBy}
use Rattle.std.specs.Map.{keys_of, values_of}
use Rattle.std.specs.BTreeSet.{BTreeSet}
use Rattle.std.specs.Str.{bytes_eq}
use Rattle.std.specs.declared.cmp.Ordering.TheVariants.{Less}
use Rattle.std.proofs.lemmas.Bool.{true≢false}
use Rattle.mr_model.specs.Texts.{Text}
use Rattle.mr_model.specs.Writes.{Id, same_id}
use Rattle.mr_model.proofs.Members.{same_id-true}
use Rattle.mr_base.specs.Ids.{id_cmp}
use Rattle.mr_replay.specs.declared.rows.Standing.TheVariants.{Booked, CancelledBy, InErrorLog}
use Rattle.mr_replay.specs.declared.rows.Trace.{Trace}
use Rattle.mr_replay.specs.declared.rows.Trace.TheVariants.{OfBooking, OfCancel}
use Rattle.mr_replay.specs.declared.rows.Row.{Row}
use Rattle.mr_replay.specs.Rows.{Rows, row_at, booking_traced, bookings_of_entry, bookings_of}
use Rattle.mr_replay.specs.Bookings.{is_taken}
use Rattle.mr_replay.specs.Hidden.{is_hidden, shown}
use Rattle.mr_replay.specs.Seen.{has_room, is_in_rooms, seen_in}
use Rattle.mr_replay.proofs.Entries.{IsInOrder}
use Rattle.mr_replay.proofs.Lists.{one_name}
use Rattle.mr_replay.proofs.PlacesOnBoard.{first_absent, rest_in_order}

-- ---- the order, and look-ups

each-seen : (P : Id → Type 0) (rooms : BTreeSet Text) (b : Rows) → AllByRecursion P (keys_of b) → AllByRecursion P (keys_of (seen_in rooms b))
each-seen P rooms [] h = tt
each-seen P rooms (e ∷ es) h =
    elim (is_in_rooms rooms e.1) as (λ t. AllByRecursion P (keys_of (cond t (e ∷ seen_in rooms es) (seen_in rooms es)))) [ true ↦ (h.0, each-seen P rooms es h.1) | false ↦ each-seen P rooms es h.1 ]

pub in_order-seen : (rooms : BTreeSet Text) (b : Rows) → IsInOrder b → IsInOrder (seen_in rooms b)
unfolding IsStrictlySortedBy
in_order-seen rooms [] h = tt
in_order-seen rooms (e ∷ es) h =
    elim (is_in_rooms rooms e.1) as (λ t. IsStrictlySortedBy id_cmp (keys_of (cond t (e ∷ seen_in rooms es) (seen_in rooms es)))) [
      | true ↦ (each-seen (λ k. id_cmp e.0 k ≡ Less) rooms es h.0, in_order-seen rooms es h.1)
      | false ↦ in_order-seen rooms es h.1
    ]

-- the row, if it is seen
abbrev pub if_seen : BTreeSet Text → Option Row → Option Row
if_seen rooms None = None
if_seen rooms (Some row) = cond (is_in_rooms rooms row) (Some row) None

pub row_at-seen : (rooms : BTreeSet Text) (b : Rows) (q : Id) → IsInOrder b → row_at (seen_in rooms b) q ≡ if_seen rooms (row_at b q)
row_at-seen rooms [] q h = refl
row_at-seen rooms (e ∷ es) q h = go (same_id q e.0) (is_in_rooms rooms e.1) refl refl (row_at-seen rooms es q (rest_in_order e es h))
  where
    go : (s t : Bool) → same_id q e.0 ≡ s → is_in_rooms rooms e.1 ≡ t → row_at (seen_in rooms es) q ≡ if_seen rooms (row_at es q)
        → row_at (cond t (e ∷ seen_in rooms es) (seen_in rooms es)) q ≡ if_seen rooms (cond s (Some e.1) (row_at es q))
    go true true s t rest = ap (λ x. cond x (Some e.1) (row_at (seen_in rooms es) q)) s ∙ sym (ap (λ x. cond x (Some e.1) None) t)
    go true false s t rest =
        rest ∙ ap (if_seen rooms) (ap (row_at es) (same_id-true q e.0 s) ∙ first_absent e es h) ∙ sym (ap (λ x. cond x (Some e.1) None) t)
    go false true s t rest = ap (λ x. cond x (Some e.1) (row_at (seen_in rooms es) q)) s ∙ rest
    go false false s t rest = rest

-- ---- the bookings of a room

nothing_taken : (i : Id) (k : Trace) → is_taken k ≡ false → booking_traced i k ≡ []
nothing_taken i (OfBooking s l t Booked) e = absurd (true≢false e)
nothing_taken i (OfBooking s l t (CancelledBy c)) e = absurd (true≢false e)
nothing_taken i (OfBooking s l t InErrorLog) e = refl
nothing_taken i (OfCancel t) e = refl

-- of a room that is seen
taken_in : (rooms : BTreeSet Text) (room : Text) (e : Id × Row) → has_room rooms room ≡ true → is_in_rooms rooms e.1 ≡ false → bookings_of_entry room e ≡ []
taken_in rooms room e there unseen = go (bytes_eq e.1.room room) refl (is_taken e.1.trace) refl
  where
    go : (c : Bool) → bytes_eq e.1.room room ≡ c → (k : Bool) → is_taken e.1.trace ≡ k → cond c (booking_traced e.0 e.1.trace) [] ≡ []
    go false s k t = refl
    go true s false t = nothing_taken e.0 e.1.trace t
    go true s true t = absurd (true≢false (sym ((λ i. t i && (ap (has_room rooms) (one_name e.1.room room s) ∙ there) i)) ∙ unseen))

-- of one that isn't
taken_out : (rooms : BTreeSet Text) (room : Text) (e : Id × Row) → has_room rooms room ≡ false → is_in_rooms rooms e.1 ≡ true → bookings_of_entry room e ≡ []
taken_out rooms room e out seen = go (bytes_eq e.1.room room) refl
  where
    and_false : (b : Bool) → (b && false) ≡ false
    and_false true = refl
    and_false false = refl

    go : (c : Bool) → bytes_eq e.1.room room ≡ c → cond c (booking_traced e.0 e.1.trace) [] ≡ []
    go false s = refl
    go true s = absurd (true≢false (sym seen ∙ ap (λ t. is_taken e.1.trace && t) (ap (has_room rooms) (one_name e.1.room room s) ∙ out) ∙ and_false (is_taken e.1.trace)))

-- a room that is seen has the bookings that it has
pub bookings-seen : (rooms : BTreeSet Text) (hidden : BTreeSet Id) (room : Text) (b : Rows)
    → has_room rooms room ≡ true → bookings_of room (shown hidden (seen_in rooms b)) ≡ bookings_of room (shown hidden b)
bookings-seen rooms hidden room [] there = refl
bookings-seen rooms hidden room (e ∷ es) there = go (is_in_rooms rooms e.1) refl (not (is_hidden hidden e.0)) refl (bookings-seen rooms hidden room es there)
  where
    go : (t : Bool) → is_in_rooms rooms e.1 ≡ t → (h : Bool) → not (is_hidden hidden e.0) ≡ h → bookings_of room (shown hidden (seen_in rooms es)) ≡ bookings_of room (shown hidden es)
        → bookings_of room (shown hidden (cond t (e ∷ seen_in rooms es) (seen_in rooms es))) ≡ bookings_of room (cond h (e ∷ shown hidden es) (shown hidden es))
    go true t true h rest = ap (λ x. bookings_of room (cond x (e ∷ shown hidden (seen_in rooms es)) (shown hidden (seen_in rooms es)))) h ∙ ap (λ bs. bookings_of_entry room e ++ bs) rest
    go true t false h rest = ap (λ x. bookings_of room (cond x (e ∷ shown hidden (seen_in rooms es)) (shown hidden (seen_in rooms es)))) h ∙ rest
    go false t true h rest = rest ∙ sym (ap (λ bs. bs ++ bookings_of room (shown hidden es)) (taken_in rooms room e there t))
    go false t false h rest = rest

-- and another one has none
pub bookings-unseen : (rooms : BTreeSet Text) (hidden : BTreeSet Id) (room : Text) (b : Rows) → has_room rooms room ≡ false → bookings_of room (shown hidden (seen_in rooms b)) ≡ []
bookings-unseen rooms hidden room [] out = refl
bookings-unseen rooms hidden room (e ∷ es) out = go (is_in_rooms rooms e.1) refl (not (is_hidden hidden e.0)) refl (bookings-unseen rooms hidden room es out)
  where
    go : (t : Bool) → is_in_rooms rooms e.1 ≡ t → (h : Bool) → not (is_hidden hidden e.0) ≡ h → bookings_of room (shown hidden (seen_in rooms es)) ≡ []
        → bookings_of room (shown hidden (cond t (e ∷ seen_in rooms es) (seen_in rooms es))) ≡ []
    go true t true h rest =
        ap (λ x. bookings_of room (cond x (e ∷ shown hidden (seen_in rooms es)) (shown hidden (seen_in rooms es)))) h
        ∙ ap (λ bs. bs ++ bookings_of room (shown hidden (seen_in rooms es))) (taken_out rooms room e out t) ∙ rest
    go true t false h rest = ap (λ x. bookings_of room (cond x (e ∷ shown hidden (seen_in rooms es)) (shown hidden (seen_in rooms es)))) h ∙ rest
    go false t h g rest = rest

-- ---- how many there are

pub count-values : (rooms : BTreeSet Text) (b : Rows) → length (filter (is_in_rooms rooms) (values_of b)) ≡ length (seen_in rooms b)
count-values rooms [] = refl
count-values rooms (e ∷ es) = go (is_in_rooms rooms e.1) (count-values rooms es)
  where
    go : (t : Bool) → length (filter (is_in_rooms rooms) (values_of es)) ≡ length (seen_in rooms es)
        → length (cond t (e.1 ∷ filter (is_in_rooms rooms) (values_of es)) (filter (is_in_rooms rooms) (values_of es))) ≡ length (cond t (e ∷ seen_in rooms es) (seen_in rooms es))
    go true h = ap suc h
    go false h = h
