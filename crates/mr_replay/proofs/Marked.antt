-- A row changed in place, marked by a cancel or not any more: look-ups, order, and the rows from before.
use Rattle.std.proofs.Common.{◌≡◌, Bool, true, false, cond, [], ◌∷◌, Option, Some, None, ap, refl, sym, ◌∙◌, subst}
use Rattle.std.specs.declared.cmp.Ordering.TheVariants.{Less, Equal, Greater}
use Rattle.std.specs.Ordering.{match_ordering}
use Rattle.std.specs.Prelude.{option_map}
use Rattle.std.specs.List.{AllByRecursion}
use Rattle.std.specs.List.Sorted.{IsStrictlySortedBy}
use Rattle.std.specs.Map.{keys_of, values_of, set_value}
use Rattle.std.specs.BTreeMap.{insert_entry}
use Rattle.std.proofs.lemmas.Bool.{true≢false}
use Rattle.mr_model.specs.Writes.{Id, same_id}
use Rattle.mr_model.proofs.Members.{same_id-true, same_id_refl}
use Rattle.mr_base.specs.Ids.{id_cmp}
use Rattle.mr_replay.specs.declared.rows.Standing.TheVariants.{Booked, CancelledBy, InErrorLog}
use Rattle.mr_replay.specs.declared.rows.Trace.{Trace}
use Rattle.mr_replay.specs.declared.rows.Trace.TheVariants.{OfBooking, OfCancel}
use Rattle.mr_replay.specs.declared.rows.Row.{Row}
use Rattle.mr_replay.specs.Rows.{Rows, row_at, with_mark, without_mark, change, row_changed, with_row}
use Rattle.mr_replay.specs.Holds.{bears}
use Rattle.mr_replay.proofs.IdKeys.{at, at_is}
use Rattle.mr_replay.proofs.Entries.{IsInOrder, in_order-put}

-- the row of an id, where one is changed
abbrev pub change_if : (Trace → Trace) → Bool → Option Row → Option Row
change_if f true o = option_map (change f) o
change_if f false o = o

pub nothing-changed : (f : Trace → Trace) (c : Bool) → change_if f c None ≡ None
nothing-changed f true = refl
nothing-changed f false = refl

pub row_at-changed : (f : Trace → Trace) (i : Id) (b : Rows) (q : Id) → row_at (row_changed f i b) q ≡ change_if f (same_id q i) (row_at b q)
row_at-changed f i [] q = sym (nothing-changed f (same_id q i))
row_at-changed f i (e ∷ es) q = go (same_id i e.0) refl (same_id q e.0) refl (same_id q i) refl (row_at-changed f i es q)
  where
    go : (a : Bool) → same_id i e.0 ≡ a → (s : Bool) → same_id q e.0 ≡ s → (c : Bool) → same_id q i ≡ c → row_at (row_changed f i es) q ≡ change_if f (same_id q i) (row_at es q)
        → row_at (cond a ((e.0, change f e.1) ∷ es) (e ∷ row_changed f i es)) q ≡ change_if f c (cond s (Some e.1) (row_at es q))
    go true own true found true is rest = ap (λ t. cond t (Some (change f e.1)) (row_at es q)) found
    go true own true found false is rest = absurd (true≢false (sym found ∙ ap (λ k. same_id q k) (sym (same_id-true i e.0 own)) ∙ is))
    go true own false found true is rest = absurd (true≢false (sym is ∙ ap (λ k. same_id q k) (same_id-true i e.0 own) ∙ found))
    go true own false found false is rest = ap (λ t. cond t (Some (change f e.1)) (row_at es q)) found
    go false own true found true is rest = absurd (true≢false (sym found ∙ ap (λ k. same_id k e.0) (same_id-true q i is) ∙ own))
    go false own true found false is rest = ap (λ t. cond t (Some e.1) (row_at (row_changed f i es) q)) found
    go false own false found c is rest = ap (λ t. cond t (Some e.1) (row_at (row_changed f i es) q)) found ∙ rest ∙ ap (λ t. change_if f t (row_at es q)) is

pub keys-changed : (f : Trace → Trace) (i : Id) (b : Rows) → keys_of (row_changed f i b) ≡ keys_of b
keys-changed f i [] = refl
keys-changed f i (e ∷ es) =
    elim (same_id i e.0) as (λ t. keys_of (cond t ((e.0, change f e.1) ∷ es) (e ∷ row_changed f i es)) ≡ keys_of (e ∷ es)) [ true ↦ refl | false ↦ ap (λ ks. e.0 ∷ ks) (keys-changed f i es) ]

pub in_order-changed : (f : Trace → Trace) (i : Id) (b : Rows) → IsInOrder b → IsInOrder (row_changed f i b)
in_order-changed f i b h = subst (λ ks. IsStrictlySortedBy id_cmp ks) (sym (keys-changed f i b)) h

-- where there is no row, none is changed
pub changed-absent : (f : Trace → Trace) (i : Id) (b : Rows) → row_at b i ≡ None → row_changed f i b ≡ b
changed-absent f i [] h = refl
changed-absent f i (e ∷ es) h = go (same_id i e.0) h (changed-absent f i es)
  where
    go : (c : Bool) → cond c (Some e.1) (row_at es i) ≡ None → (row_at es i ≡ None → row_changed f i es ≡ es) → cond c ((e.0, change f e.1) ∷ es) (e ∷ row_changed f i es) ≡ e ∷ es
    go true g rest = cc
    go false g rest = ap (λ xs. e ∷ xs) (rest g)

-- a row that is found and written again is changed
set-changed : (f : Trace → Trace) (i : Id) (b : Rows) (row : Row) → row_at b i ≡ Some row → set_value (same_id i) b (change f row) ≡ row_changed f i b
set-changed f i [] row h = refl
set-changed f i (e ∷ es) row h = go (same_id i e.0) h (set-changed f i es row)
  where
    go : (c : Bool) → cond c (Some e.1) (row_at es i) ≡ Some row → (row_at es i ≡ Some row → set_value (same_id i) es (change f row) ≡ row_changed f i es)
        → cond c ((e.0, change f row) ∷ es) (e ∷ set_value (same_id i) es (change f row)) ≡ cond c ((e.0, change f e.1) ∷ es) (e ∷ row_changed f i es)
    go true g rest = let one : row ≡ e.1 = cc in ap (λ r. (e.0, change f r) ∷ es) one
    go false g rest = ap (λ xs. e ∷ xs) (rest g)

pub written-changed : (f : Trace → Trace) (i : Id) (b : Rows) (row : Row) → row_at b i ≡ Some row → set_value (at i) b (change f row) ≡ row_changed f i b
written-changed f i b row h = (λ t. set_value (at_is t i) b (change f row)) ∙ set-changed f i b row h

-- ---- order, after executions and undoings

pub in_order-with : (b : Rows) (i : Id) (o : Option Row) → IsInOrder b → IsInOrder (with_row i o b)
in_order-with b i None h = h
in_order-with b i (Some row) h = in_order-put b i row h

-- ---- marked, and not marked any more

-- what does not bear the mark stays when it is marked and unmarked
unmark-mark : (c : Id) (k : Trace) → bears c k ≡ false → without_mark c (with_mark c k) ≡ k
unmark-mark c (OfBooking s l t Booked) h = ap (λ (b : Bool). OfBooking s l t (cond b Booked (CancelledBy c))) (same_id_refl c)
unmark-mark c (OfBooking s l t (CancelledBy d)) h = ap (λ (b : Bool). OfBooking s l t (cond b Booked (CancelledBy d))) h
unmark-mark c (OfBooking s l t InErrorLog) h = refl
unmark-mark c (OfCancel t) h = refl

pub change-back : (c : Id) (row : Row) → bears c row.trace ≡ false → change (without_mark c) (change (with_mark c) row) ≡ row
change-back c row h = let trace = unmark-mark c row.trace h in λ i. record { room = row.room; trace = trace i }

pub changed-back : (c t : Id) (b : Rows) → AllByRecursion (λ row. bears c row.trace ≡ false) (values_of b) → row_changed (without_mark c) t (row_changed (with_mark c) t b) ≡ b
changed-back c t [] h = refl
changed-back c t (e ∷ es) h = go (same_id t e.0) refl (changed-back c t es h.1)
  where
    go : (a : Bool) → same_id t e.0 ≡ a → row_changed (without_mark c) t (row_changed (with_mark c) t es) ≡ es
        → row_changed (without_mark c) t (cond a ((e.0, change (with_mark c) e.1) ∷ es) (e ∷ row_changed (with_mark c) t es)) ≡ e ∷ es
    go true is rest =
        ap (λ x. cond x ((e.0, change (without_mark c) (change (with_mark c) e.1)) ∷ es) ((e.0, change (with_mark c) e.1) ∷ row_changed (without_mark c) t es)) is
        ∙ ap (λ row. (e.0, row) ∷ es) (change-back c e.1 h.0)
    go false is rest =
        ap (λ x. cond x ((e.0, change (without_mark c) e.1) ∷ row_changed (with_mark c) t es) (e ∷ row_changed (without_mark c) t (row_changed (with_mark c) t es))) is ∙ ap (λ xs. e ∷ xs) rest

-- ---- what holds of all rows

pub values-put : (P : Row → Type 0) (b : Rows) (i : Id) (row : Row) → P row → AllByRecursion P (values_of b) → AllByRecursion P (values_of (insert_entry id_cmp b i row))
values-put P [] i row p h = (p, tt)
values-put P (e ∷ es) i row p h =
    elim (id_cmp i e.0) as (λ o. AllByRecursion P (values_of (match_ordering o ((i, row) ∷ e ∷ es) ((e.0, row) ∷ es) (e ∷ insert_entry id_cmp es i row)))) [
      | Less ↦ (p, h)
      | Equal ↦ (p, h.1)
      | Greater ↦ (h.0, values-put P es i row p h.1)
    ]

pub values-changed : (P : Row → Type 0) (f : Trace → Trace) (i : Id) (b : Rows) → ((row : Row) → P row → P (change f row))
    → AllByRecursion P (values_of b) → AllByRecursion P (values_of (row_changed f i b))
values-changed P f i [] keeps h = tt
values-changed P f i (e ∷ es) keeps h =
    elim (same_id i e.0) as (λ t. AllByRecursion P (values_of (cond t ((e.0, change f e.1) ∷ es) (e ∷ row_changed f i es)))) [
      | true ↦ (keeps e.1 h.0, h.1)
      | false ↦ (h.0, values-changed P f i es keeps h.1)
    ]
