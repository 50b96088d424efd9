-- Looking at a board's index is looking at all rows: what stands there of one day of one room.
use Rattle.std.proofs.Common.{◌≡◌, ◌∙◌, ℕ, Bool, true, false, not, cond, ◌&&◌, ◌||◌, List, [], ◌∷◌, Option, Some, None, IfSome, IsTrue, ap, refl, sym, subst}
use Rattle.std.specs.BTreeMap.{is_at, insert_entry}
use Rattle.std.specs.BTreeSet.{BTreeSet}
use Rattle.std.specs.BTreeMap.Range.{range_contains}
use Rattle.std.specs.Cmp.{IsTotalOrder}
use Rattle.std.specs.Cmp.Lexicographic.{slice_cmp}
use Rattle.std.specs.List.{list_any, filter}
use Rattle.std.specs.Map.{values_of, remove_entry}
use Rattle.std.specs.Ordering.{nat_cmp, ordering_then, is_gt, is_le, is_lt}
use Rattle.std.specs.declared.cmp.Ordering.{Ordering}
use Rattle.std.specs.declared.cmp.Ordering.TheVariants.{Less, Greater}
use Rattle.std.specs.Str.{bytes_eq}
use Rattle.std.specs.declared.ops.Bound.TheVariants.{Included}
use Rattle.std.proofs.Math.Bool.{and-false}
use Rattle.std.proofs.lemmas.Bool.{true≢false, or_right, and_from, and_parts, or_parts, or_from, false_from_ne_true}
use Rattle.std.proofs.lemmas.Cmp.{tied_itself, nat_cmp_total, nat_list_cmp_total, on_total, then_total}
use Rattle.std.proofs.lemmas.List.Folds.{list_any_none}
use Rattle.std.proofs.lemmas.Map.Views.{All-values_from_lookup}
use Rattle.mr_model.specs.Texts.{Text}
use Rattle.mr_model.specs.Calendar.{Date}
use Rattle.mr_model.specs.Slots.{Slot, overlaps}
use Rattle.mr_model.specs.Writes.{Id, same_id}
use Rattle.mr_model.proofs.Members.{same_id-true}
use Rattle.mr_model.proofs.SlotTests.{overlaps-true}
use Rattle.mr_base.specs.Ids.{id_cmp}
use Rattle.mr_replay.specs.declared.index.IndexKey.{IndexKey}
use Rattle.mr_replay.specs.declared.rows.Standing.TheVariants.{Booked, CancelledBy, InErrorLog}
use Rattle.mr_replay.specs.declared.rows.Trace.{Trace}
use Rattle.mr_replay.specs.declared.rows.Trace.TheVariants.{OfBooking, OfCancel}
use Rattle.mr_replay.specs.declared.rows.Row.{Row}
use Rattle.mr_replay.specs.Rows.{Rows, row_at, is_trace_in_the_way, is_in_the_way, with_mark, without_mark, change, row_changed}
use Rattle.mr_replay.specs.Index.{padded, day_cmp, key_cmp, key_of, key_traced, key_if_taken, first_key, last_key, has, Grows, IsNoted, IsIndexed, way_at, is_in_the_way_at, of_day, is_row}
use Rattle.mr_replay.proofs.IdKeys.{same_id_equivalence}
use Rattle.mr_replay.proofs.Entries.{distinct_keys, in_order-put, in_order-removed, row_at-put, row_at-removed}
use Rattle.mr_replay.proofs.Marked.{change_if, row_at-changed, in_order-changed}
use Rattle.mr_replay.proofs.Keys.{same_key, apart_keys, key-marked, key-unmarked}
use Rattle.mr_replay.proofs.Lists.{one_name}

-- ---- a booking's key is between the ends of its day

days_total : IsTotalOrder day_cmp
days_total = then_total (on_total (λ (d : Date). d.year) nat_cmp_total) (then_total (on_total (λ (d : Date). d.month) nat_cmp_total) (on_total (λ (d : Date). d.day) nat_cmp_total))

-- keys of one day of one room, at different edges, stand as those do
same_day : (d : Date) (room : List ℕ) (o : Ordering) → ordering_then (day_cmp d d) (ordering_then (slice_cmp nat_cmp room room) o) ≡ o
same_day d room o = ap (λ x. ordering_then x (ordering_then (slice_cmp nat_cmp room room) o)) (tied_itself days_total d) ∙ ap (λ x. ordering_then x o) (tied_itself nat_list_cmp_total room)

in_day : (slot : Slot) (room : Text) (i : Id) (at : Slot) (length : ℕ)
    → range_contains key_cmp (Included (first_key slot room)) (Included (last_key slot room)) (record { day = slot.day; room = padded room; edge = 1; id = i; slot = at; length = length }) ≡ true
in_day slot room i at length = and_from _ _ (ap is_le (same_day slot.day (padded room) Less)) (ap (λ o. not (is_lt o)) (same_day slot.day (padded room) Greater))

-- the ends of a day stand in order
pub ends_in_order : (slot : Slot) (room : Text) (first last : IndexKey) → first ≡ first_key slot room → last ≡ last_key slot room → is_gt (key_cmp first last) ≡ false
ends_in_order slot room first last a b = (λ t. is_gt (key_cmp (a t) (b t))) ∙ ap is_gt (same_day slot.day (padded room) Less)

-- ---- what a look-up finds is in the part of the list that has its key

any_in : (test inside : IndexKey → Bool) (key : IndexKey) (ks : List IndexKey) → list_any (is_at (key_cmp key)) ks ≡ true
    → inside key ≡ true → test key ≡ true → list_any test (filter inside ks) ≡ true
any_in test inside key [] found is holds = absurd (true≢false (sym found))
any_in test inside key (k ∷ ks) found is holds = go (is_at (key_cmp key) k) refl found (λ f. any_in test inside key ks f is holds)
  where
    rest : List IndexKey
    rest = filter inside ks

    behind : (b : Bool) → list_any test rest ≡ true → list_any test (cond b (k ∷ rest) rest) ≡ true
    behind true h = or_right (test k) (list_any test rest) h
    behind false h = h

    go : (b : Bool) → is_at (key_cmp key) k ≡ b → (b || list_any (is_at (key_cmp key)) ks) ≡ true
        → (list_any (is_at (key_cmp key)) ks ≡ true → list_any test rest ≡ true) → list_any test (cond (inside k) (k ∷ rest) rest) ≡ true
    go true at f later =
        let one = sym (same_key key k at) in
        ap (λ b. list_any test (cond b (k ∷ rest) rest)) (ap inside one ∙ is) ∙ ap (λ b. b || list_any test rest) (ap test one ∙ holds)
    go false at f later = behind (inside k) (later f)

-- two tests that fail together are one
same_from_false : (a b : Bool) → (a ≡ false → b ≡ false) → (b ≡ false → a ≡ false) → a ≡ b
same_from_false true true f g = refl
same_from_false true false f g = g refl
same_from_false false b f g = sym (f refl)

-- ---- the index tells of all rows

module _ (room : Text) (slot : Slot) (length : ℕ) where
  abbrev Clear : Row → Type 0
  Clear row = is_in_the_way room slot length row ≡ false

  -- where no row is in the way, none is that the index names
  none_named : (rows : Rows) (i : Id) → list_any (is_in_the_way room slot length) (values_of rows) ≡ false → way_at room slot length rows i ≡ false
  none_named [] i h = refl
  none_named (e ∷ es) i h =
      let parts = or_parts (is_in_the_way room slot length e.1) (list_any (is_in_the_way room slot length) (values_of es)) h in
      go (same_id i e.0) parts.0 (none_named es i parts.1)
    where
      go : (b : Bool) → is_in_the_way room slot length e.1 ≡ false → way_at room slot length es i ≡ false → is_row (is_in_the_way room slot length) (cond b (Some e.1) (row_at es i)) ≡ false
      go true own rest = own
      go false own rest = rest

  none_there : (rows : Rows) (inside : IndexKey → Bool) (ks : List IndexKey) → list_any (is_in_the_way room slot length) (values_of rows) ≡ false
      → list_any (is_in_the_way_at room slot length rows) (filter inside ks) ≡ false
  none_there rows inside [] h = refl
  none_there rows inside (k ∷ ks) h = go (inside k) (none_there rows inside ks h)
    where
      rest : List IndexKey
      rest = filter inside ks

      go : (b : Bool) → list_any (is_in_the_way_at room slot length rows) rest ≡ false → list_any (is_in_the_way_at room slot length rows) (cond b (k ∷ rest) rest) ≡ false
      go true later = or_from _ _ (ap (λ b. overlaps slot length k.slot k.length && b) (none_named rows k.id h) ∙ and-false (overlaps slot length k.slot k.length)) later
      go false later = later

  -- a row in the way is a booking that stands and overlaps the slot, and has a key
  way_key : (i : Id) (room_of : Text) (k : Trace) → is_trace_in_the_way slot length k ≡ true
      → (s : Slot) × (l : ℕ) × (key_traced i room_of k ≡ Some (key_of i room_of s l)) × (overlaps slot length s l ≡ true)
  way_key i room_of (OfBooking s l t Booked) h = (s, l, refl, h)
  way_key i room_of (OfBooking s l t (CancelledBy c)) h = absurd (true≢false (sym h))
  way_key i room_of (OfBooking s l t InErrorLog) h = absurd (true≢false (sym h))
  way_key i room_of (OfCancel t) h = absurd (true≢false (sym h))

  -- a row in the way is named
  row_named : (rows : Rows) (index : BTreeSet IndexKey) (i : Id) (row : Row) → row_at rows i ≡ Some row → IsNoted index i row
      → is_in_the_way room slot length row ≡ true → list_any (is_in_the_way_at room slot length rows) (of_day slot room index) ≡ true
  row_named rows index i row there noted way =
      let parts = and_parts (is_trace_in_the_way slot length row.trace) (bytes_eq row.room room) way in
      let (at, long, is, meets) = way_key i row.room row.trace parts.0 in
      let overlap = overlaps-true slot length at long meets in
      let day : at.day ≡ slot.day = overlap.3.same_day ∙ sym overlap.2.same_day in
      let key : key_of i row.room at long ≡ record { day = slot.day; room = padded room; edge = 1; id = i; slot = at; length = long } =
      λ t. record { day = day t; room = padded (one_name row.room room parts.1 t); edge = 1; id = i; slot = at; length = long } in
      any_in (is_in_the_way_at room slot length rows) (range_contains key_cmp (Included (first_key slot room)) (Included (last_key slot room)))
      (key_of i row.room at long) index.keys (noted (key_of i row.room at long) is)
      (ap (range_contains key_cmp (Included (first_key slot room)) (Included (last_key slot room))) key ∙ in_day slot room i at long)
      (and_from _ _ meets (ap (is_row (is_in_the_way room slot length)) there ∙ way))

  pub taken : (rows : Rows) (index : BTreeSet IndexKey) → IsIndexed rows index
      → list_any (is_in_the_way_at room slot length rows) (of_day slot room index) ≡ list_any (is_in_the_way room slot length) (values_of rows)
  taken rows index h =
      same_from_false _ _
      (λ clear. list_any_none (is_in_the_way room slot length) (values_of rows)
      (All-values_from_lookup same_id_equivalence Clear rows (distinct_keys rows h.ordered) (λ q. at q clear (row_at rows q) refl)))
      (λ clear. none_there rows (range_contains key_cmp (Included (first_key slot room)) (Included (last_key slot room))) index.keys clear)
    where
      at : (q : Id) → list_any (is_in_the_way_at room slot length rows) (of_day slot room index) ≡ false → (o : Option Row) → row_at rows q ≡ o → IfSome o Clear
      at q clear None is = tt
      at q clear (Some row) is =
          false_from_ne_true (is_in_the_way room slot length row) (λ way.
          true≢false (sym (row_named rows index q row is (subst (λ o. IfSome o (IsNoted index q)) is (h.bookings q)) way) ∙ clear))

-- ---- rows put in and taken out

abbrev pub KeepsOthers : BTreeSet IndexKey → BTreeSet IndexKey → Id → Type 0
KeepsOthers old new i = (j : Id) (r : Row) → same_id j i ≡ false → IsNoted old j r → IsNoted new j r

IfSome-more : (o : Option Row) (P Q : Row → Type 0) → ((r : Row) → P r → Q r) → IfSome o P → IfSome o Q
IfSome-more None P Q f h = tt
IfSome-more (Some r) P Q f h = f r h

pub IsIndexed-put : (rows : Rows) (old new : BTreeSet IndexKey) (i : Id) (row : Row) → IsIndexed rows old → IsNoted new i row → KeepsOthers old new i → IsIndexed (insert_entry id_cmp rows i row) new
IsIndexed-put rows old new i row h noted others = record {
  ordered = in_order-put rows i row h.ordered;
  bookings = λ q. subst (λ o. IfSome o (IsNoted new q)) (sym (row_at-put rows i row q)) (at q (same_id q i) refl);
} where
  at : (q : Id) (b : Bool) → same_id q i ≡ b → IfSome (cond b (Some row) (row_at rows q)) (IsNoted new q)
  at q true e = subst (λ j. IsNoted new j row) (sym (same_id-true q i e)) noted
  at q false e = IfSome-more (row_at rows q) (IsNoted old q) (IsNoted new q) (λ r. others q r e) (h.bookings q)

pub IsIndexed-removed : (rows : Rows) (old new : BTreeSet IndexKey) (i : Id) → IsIndexed rows old → KeepsOthers old new i → IsIndexed (remove_entry (same_id i) rows) new
IsIndexed-removed rows old new i h others = record {
  ordered = in_order-removed rows i h.ordered;
  bookings = λ q. subst (λ o. IfSome o (IsNoted new q)) (sym (row_at-removed rows i q h.ordered)) (at q (same_id q i) refl);
} where
  at : (q : Id) (b : Bool) → same_id q i ≡ b → IfSome (cond b None (row_at rows q)) (IsNoted new q)
  at q true e = tt
  at q false e = IfSome-more (row_at rows q) (IsNoted old q) (IsNoted new q) (λ r. others q r e) (h.bookings q)

pub IsIndexed-absent : (rows : Rows) (old new : BTreeSet IndexKey) (i : Id) → row_at rows i ≡ None → IsIndexed rows old → KeepsOthers old new i → IsIndexed rows new
IsIndexed-absent rows old new i absent h others = record { ordered = h.ordered; bookings = λ q. at q (same_id q i) refl }
  where
    at : (q : Id) (b : Bool) → same_id q i ≡ b → IfSome (row_at rows q) (IsNoted new q)
    at q true e = subst (λ o. IfSome o (IsNoted new q)) (sym (ap (row_at rows) (same_id-true q i e) ∙ absent)) tt
    at q false e = IfSome-more (row_at rows q) (IsNoted old q) (IsNoted new q) (λ r. others q r e) (h.bookings q)

-- a larger index keeps what is noted
pub KeepsOthers-grown : (old new : BTreeSet IndexKey) (i : Id) → Grows old new → KeepsOthers old new i
KeepsOthers-grown old new i grows = λ j r apart noted key is. grows key (noted key is)

-- and serves as well
pub IsIndexed-grown : (rows : Rows) (old new : BTreeSet IndexKey) → Grows old new → IsIndexed rows old → IsIndexed rows new
IsIndexed-grown rows old new grows h = record {
  ordered = h.ordered;
  bookings = λ q. IfSome-more (row_at rows q) (IsNoted old q) (IsNoted new q) (λ r noted key is. grows key (noted key is)) (h.bookings q);
}

-- ---- a key taken out

-- of the old index there is each key but this one, if it isn't the one that stays
abbrev pub Forgets : BTreeSet IndexKey → BTreeSet IndexKey → Option IndexKey → Option IndexKey → Type 0
Forgets old new key stays = (k : IndexKey) → (key ≡ Some k → stays ≡ Some k) → IsTrue (has old k) → IsTrue (has new k)

-- forgetting a row's key keeps those of rows of other ids
pub Forgets-others : (old new : BTreeSet IndexKey) (key stays : Option IndexKey) (i : Id) (row : Row) → key ≡ key_if_taken i row → Forgets old new key stays → KeepsOthers old new i
Forgets-others old new key stays i row is h = λ j r apart noted k own. h k (λ e. absurd (apart_keys j i r row k apart own (sym is ∙ e))) (noted k own)

-- and the key of the row that it keeps
pub Forgets-stays : (old new : BTreeSet IndexKey) (key stays : Option IndexKey) (i : Id) (row : Row) → stays ≡ key_if_taken i row → Forgets old new key stays → IsNoted old i row → IsNoted new i row
Forgets-stays old new key stays i row is h noted = λ k own. h k (λ _. is ∙ own) (noted k own)

-- ---- a row changed in place

pub IsNoted-same : (index : BTreeSet IndexKey) (i : Id) (r s : Row) → key_if_taken i s ≡ key_if_taken i r → IsNoted index i r → IsNoted index i s
IsNoted-same index i r s same noted = λ key is. noted key (sym same ∙ is)

IsIndexed-changed : (f : Trace → Trace) → ((i : Id) (row : Row) → key_if_taken i (change f row) ≡ key_if_taken i row)
    → (t : Id) (rows : Rows) (index : BTreeSet IndexKey) → IsIndexed rows index → IsIndexed (row_changed f t rows) index
IsIndexed-changed f same t rows index h = record {
  ordered = in_order-changed f t rows h.ordered;
  bookings = λ q. subst (λ o. IfSome o (IsNoted index q)) (sym (row_at-changed f t rows q)) (at q (same_id q t) (row_at rows q) (h.bookings q));
} where
  at : (q : Id) (c : Bool) (o : Option Row) → IfSome o (IsNoted index q) → IfSome (change_if f c o) (IsNoted index q)
  at q false o noted = noted
  at q true None noted = tt
  at q true (Some row) noted = IsNoted-same index q row (change f row) (same q row) noted

pub IsIndexed-marked : (c t : Id) (rows : Rows) (index : BTreeSet IndexKey) → IsIndexed rows index → IsIndexed (row_changed (with_mark c) t rows) index
IsIndexed-marked c t rows index h = IsIndexed-changed (with_mark c) (λ i row. key-marked c i row) t rows index h

pub IsIndexed-unmarked : (c t : Id) (rows : Rows) (index : BTreeSet IndexKey) → IsIndexed rows index → IsIndexed (row_changed (without_mark c) t rows) index
IsIndexed-unmarked c t rows index h = IsIndexed-changed (without_mark c) (λ i row. key-unmarked c i row) t rows index h
