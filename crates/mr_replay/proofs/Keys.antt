-- The index of a board's bookings: its keys, and what putting a row in or taking one out leaves noted.
use Rattle.std.proofs.Common.{◌≡◌, ◌∙◌, ℕ, Bool, true, false, cond, List, Some, ap, refl, sym}
use Rattle.std.specs.BTreeMap.{is_at}
use Rattle.std.specs.Cmp.Lexicographic.{slice_cmp}
use Rattle.std.specs.Ordering.{nat_cmp}
use Rattle.std.proofs.lemmas.Bool.{true≢false}
use Rattle.std.proofs.lemmas.Map.Lookups.{CmpEqualImpliesEq, exact_pairs, exact_unsigned, exact_bytes}
use Rattle.mr_model.specs.Texts.{Text}
use Rattle.mr_model.specs.Calendar.{Date}
use Rattle.mr_model.specs.Slots.{Slot}
use Rattle.mr_model.specs.Writes.{Id, same_id}
use Rattle.mr_model.proofs.Members.{same_id_from}
use Rattle.mr_base.specs.Ids.{id_cmp}
use Rattle.mr_replay.specs.declared.index.IndexKey.{IndexKey}
use Rattle.mr_replay.specs.declared.rows.Standing.TheVariants.{Booked, CancelledBy, InErrorLog}
use Rattle.mr_replay.specs.declared.rows.Trace.{Trace}
use Rattle.mr_replay.specs.declared.rows.Trace.TheVariants.{OfBooking, OfCancel}
use Rattle.mr_replay.specs.declared.rows.Row.{Row}
use Rattle.mr_replay.specs.Rows.{with_mark, without_mark, change}
use Rattle.mr_replay.specs.Index.{day_cmp, slot_cmp, key_cmp, key_of, key_traced, key_if_taken}
use Rattle.mr_replay.proofs.IdKeys.{exact_ids, is_eq-Equal}

-- ---- keys that compare alike are one

pub exact_days : CmpEqualImpliesEq day_cmp
exact_days a b h =
    ap (λ (p : ℕ × (ℕ × ℕ)). record { year = p.0; month = (p.1).0; day = (p.1).1 })
    (exact_pairs nat_cmp _ exact_unsigned (exact_pairs nat_cmp nat_cmp exact_unsigned exact_unsigned) (a.year, (a.month, a.day)) (b.year, (b.month, b.day)) h)

exact_slots : CmpEqualImpliesEq slot_cmp
exact_slots a b h =
    ap (λ (p : Date × ℕ). record { day = p.0; start = p.1 }) (exact_pairs day_cmp nat_cmp exact_days exact_unsigned (a.day, a.start) (b.day, b.start) h)

pub exact_keys : CmpEqualImpliesEq key_cmp
exact_keys a b h =
    ap (λ (p : Date × (List ℕ × (ℕ × (Id × (Slot × ℕ))))). record { day = p.0; room = (p.1).0; edge = ((p.1).1).0; id = (((p.1).1).1).0; slot = ((((p.1).1).1).1).0; length = ((((p.1).1).1).1).1 })
    (exact_pairs day_cmp _ exact_days
    (exact_pairs (slice_cmp nat_cmp) _ exact_bytes (exact_pairs nat_cmp _ exact_unsigned (exact_pairs id_cmp _ exact_ids (exact_pairs slot_cmp nat_cmp exact_slots exact_unsigned))))
    (a.day, (a.room, (a.edge, (a.id, (a.slot, a.length))))) (b.day, (b.room, (b.edge, (b.id, (b.slot, b.length))))) h)

pub same_key : (k q : IndexKey) → is_at (key_cmp k) q ≡ true → k ≡ q
same_key k q e = exact_keys k q (is_eq-Equal (key_cmp k q) e)

-- a row's key has its id
pub key_id : (i : Id) (room : Text) (trace : Trace) (key : IndexKey) → key_traced i room trace ≡ Some key → key.id ≡ i
key_id i room (OfBooking s l t Booked) key is = let one : key ≡ key_of i room s l = cc in ap (λ (k : IndexKey). k.id) one
key_id i room (OfBooking s l t (CancelledBy c)) key is = let one : key ≡ key_of i room s l = cc in ap (λ (k : IndexKey). k.id) one
key_id i room (OfBooking s l t InErrorLog) key is = cc
key_id i room (OfCancel t) key is = cc

-- rows of different ids stand under different keys
pub apart_keys : (i j : Id) (r row : Row) (key : IndexKey) → same_id i j ≡ false → key_if_taken i r ≡ Some key → key_if_taken j row ≡ Some key → ⊥
apart_keys i j r row key apart own other =
    true≢false (sym (same_id_from i j (sym (key_id i r.room r.trace key own) ∙ key_id j row.room row.trace key other)) ∙ apart)

-- a mark changes no key
pub key-marked : (c : Id) (i : Id) (row : Row) → key_if_taken i (change (with_mark c) row) ≡ key_if_taken i row
key-marked c i row = go row.trace
  where
    go : (k : Trace) → key_traced i row.room (with_mark c k) ≡ key_traced i row.room k
    go (OfBooking s l t Booked) = refl
    go (OfBooking s l t (CancelledBy d)) = refl
    go (OfBooking s l t InErrorLog) = refl
    go (OfCancel t) = refl

pub key-unmarked : (c : Id) (i : Id) (row : Row) → key_if_taken i (change (without_mark c) row) ≡ key_if_taken i row
key-unmarked c i row = go row.trace
  where
    either : (s : Slot) (l : ℕ) (t : Text) (d : Id) (b : Bool) → key_traced i row.room (OfBooking s l t (cond b Booked (CancelledBy d))) ≡ Some (key_of i row.room s l)
    either s l t d true = refl
    either s l t d false = refl

    go : (k : Trace) → key_traced i row.room (without_mark c k) ≡ key_traced i row.room k
    go (OfBooking s l t Booked) = refl
    go (OfBooking s l t (CancelledBy d)) = either s l t d (same_id d c)
    go (OfBooking s l t InErrorLog) = refl
    go (OfCancel t) = refl
