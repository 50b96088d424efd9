-- Rows over those of a base: look-ups, a row put in or hidden, and whether a slot is taken.
use Rattle.std.proofs.Common.{◌≡◌, ◌∙◌, Result, Ok, Err, OnOk, OnErr, Bool, true, false, not, cond, ◌&&◌, ◌||◌, List, [], ◌∷◌, Option, Some, None, ℕ, ap, refl, sym, subst}
use Rattle.std.specs.declared.cmp.Ordering.TheVariants.{Less, Equal, Greater}
use Rattle.std.specs.Ordering.{is_eq, match_ordering}
use Rattle.std.specs.Option.{option_or}
use Rattle.std.specs.List.{AllByRecursion, list_any}
use Rattle.std.specs.List.Sorted.{IsStrictlySortedBy}
use Rattle.std.specs.Map.{keys_of, values_of, lookup, remove_entry}
use Rattle.std.specs.BTreeMap.{insert_entry}
use Rattle.std.specs.BTreeSet.{BTreeSet}
use Rattle.mr_model.specs.Texts.{Text}
use Rattle.mr_model.specs.Slots.{Slot}
use Rattle.mr_model.specs.Writes.{Id, same_id}
use Rattle.mr_model.specs.Replay.{is_free}
use Rattle.mr_base.specs.Ids.{id_cmp}
use Rattle.mr_replay.specs.declared.rows.Row.{Row}
use Rattle.mr_replay.specs.Rows.{Rows, row_at, is_in_the_way, bookings_of}
use Rattle.mr_replay.specs.Hidden.{is_hidden, shown}
use Rattle.mr_replay.specs.Overlay.{overlaid, CanOverlay}
use Rattle.mr_replay.proofs.IdKeys.{at, at_is}
use Rattle.mr_replay.proofs.Entries.{IsInOrder, row_at-put, in_order-put, row_at-removed, in_order-removed, each_more, each-put, each-removed}
use Rattle.mr_replay.proofs.Hiding.{same_rows, row_at-shown, in_order-shown, HidesMore}
use Rattle.mr_replay.proofs.PlacesOnBoard.{first_absent}
use Rattle.mr_replay.proofs.Checking.{free-bookings}
use Rattle.mr_model.proofs.Members.{same_id_from}

-- ---- look-ups and the order

option_or-cond : (s : Bool) (row : Row) (o p : Option Row) → cond s (Some row) (option_or o p) ≡ option_or (cond s (Some row) o) p
option_or-cond true row o p = refl
option_or-cond false row o p = refl

pub row_at-overlaid : (base own : Rows) (q : Id) → row_at (overlaid base own) q ≡ option_or (row_at own q) (row_at base q)
row_at-overlaid base [] q = refl
row_at-overlaid base (e ∷ es) q =
    row_at-put (overlaid base es) e.0 e.1 q ∙ ap (cond (same_id q e.0) (Some e.1)) (row_at-overlaid base es q) ∙ option_or-cond (same_id q e.0) e.1 (row_at es q) (row_at base q)

pub in_order-overlaid : (base own : Rows) → IsInOrder base → IsInOrder (overlaid base own)
in_order-overlaid base [] h = h
in_order-overlaid base (e ∷ es) h = in_order-put (overlaid base es) e.0 e.1 (in_order-overlaid base es h)

-- what is seen under an id
pub row_at-seen : (base own : Rows) (hidden : BTreeSet Id) (q : Id) → row_at (overlaid (shown hidden base) own) q ≡ option_or (row_at own q) (cond (is_hidden hidden q) None (row_at base q))
row_at-seen base own hidden q = row_at-overlaid (shown hidden base) own q ∙ ap (option_or (row_at own q)) (row_at-shown hidden base q)

-- ---- a row put in, and one hidden

putting : (s h : Bool) (row : Row) (o x : Option Row) → option_or (cond s (Some row) o) (cond (cond s true h) None x) ≡ cond s (Some row) (option_or o (cond h None x))
putting true h row o x = refl
putting false h row o x = refl

taking : (s h : Bool) (o x : Option Row) → option_or (cond s None o) (cond (cond s true h) None x) ≡ cond s None (option_or o (cond h None x))
taking true h o x = refl
taking false h o x = refl

module _ (base own : Rows) (old new : BTreeSet Id) (i : Id) (can : CanOverlay base old own) (more : HidesMore i old new) where
  ordered : IsInOrder (overlaid (shown old base) own)
  ordered = in_order-overlaid (shown old base) own (in_order-shown old base can.base_order)

  pub seen-put : (row : Row) → overlaid (shown new base) (insert_entry id_cmp own i row) ≡ insert_entry id_cmp (overlaid (shown old base) own) i row
  seen-put row =
      same_rows _ _ (in_order-overlaid (shown new base) (insert_entry id_cmp own i row) (in_order-shown new base can.base_order)) (in_order-put (overlaid (shown old base) own) i row ordered) (λ q.
      row_at-seen base (insert_entry id_cmp own i row) new q ∙ (λ t. option_or (row_at-put own i row q t) (cond (more q t) None (row_at base q)))
      ∙ putting (same_id q i) (is_hidden old q) row (row_at own q) (row_at base q)
      ∙ ap (cond (same_id q i) (Some row)) (sym (row_at-seen base own old q)) ∙ sym (row_at-put (overlaid (shown old base) own) i row q))

  pub seen-removed : overlaid (shown new base) (remove_entry (same_id i) own) ≡ remove_entry (same_id i) (overlaid (shown old base) own)
  seen-removed =
      same_rows _ _ (in_order-overlaid (shown new base) (remove_entry (same_id i) own) (in_order-shown new base can.base_order)) (in_order-removed (overlaid (shown old base) own) i ordered) (λ q.
      row_at-seen base (remove_entry (same_id i) own) new q ∙ (λ t. option_or (row_at-removed own i q can.own_order t) (cond (more q t) None (row_at base q)))
      ∙ taking (same_id q i) (is_hidden old q) (row_at own q) (row_at base q)
      ∙ ap (cond (same_id q i) None) (sym (row_at-seen base own old q)) ∙ sym (row_at-removed (overlaid (shown old base) own) i q ordered))

  still : (q : Id) → is_hidden old q ≡ true → is_hidden new q ≡ true
  still q h = more q ∙ go (same_id q i) (is_hidden old q) h
    where
      go : (s t : Bool) → t ≡ true → cond s true t ≡ true
      go true t h = refl
      go false t h = h

  now_hidden : is_hidden new i ≡ true
  now_hidden = more i ∙ ap (λ s. cond s true (is_hidden old i)) (same_id_from i i refl)

  pub can-put : (row : Row) → CanOverlay base new (insert_entry id_cmp own i row)
  can-put row = record {
    base_order = can.base_order;
    own_order = in_order-put own i row can.own_order;
    aside = each-put (λ k. is_hidden new k ≡ true) own i row now_hidden (each_more (keys_of own) still can.aside);
  }

  pub can-hidden : CanOverlay base new own
  can-hidden = record {
    base_order = can.base_order;
    own_order = can.own_order;
    aside = each_more (keys_of own) still can.aside;
  }

  pub can-removed : CanOverlay base new (remove_entry (same_id i) own)
  can-removed = record {
    base_order = can.base_order;
    own_order = in_order-removed own i can.own_order;
    aside = each-removed (λ k. is_hidden new k ≡ true) own i (each_more (keys_of own) still can.aside);
  }

-- ---- whether some row passes a test

pub or_swap : (a b c : Bool) → (a || (b || c)) ≡ (b || (a || c))
or_swap true true c = refl
or_swap true false c = refl
or_swap false b c = refl

any-put : (p : Row → Bool) (b : Rows) (i : Id) (row : Row) → lookup (at i) b ≡ None → list_any p (values_of (insert_entry id_cmp b i row)) ≡ (p row || list_any p (values_of b))
any-put p [] i row absent = refl
any-put p (e ∷ es) i row absent =
    elim (id_cmp i e.0) as (λ o. cond (is_eq o) (Some e.1) (lookup (at i) es) ≡ None
    → list_any p (values_of (match_ordering o ((i, row) ∷ e ∷ es) ((e.0, row) ∷ es) (e ∷ insert_entry id_cmp es i row))) ≡ (p row || (p e.1 || list_any p (values_of es)))) [
      | Less ↦ λ _. refl
      | Equal ↦ λ h. cc
      | Greater ↦ λ h. ap (λ t. p e.1 || t) (any-put p es i row h) ∙ or_swap (p e.1) (p row) (list_any p (values_of es))
    ] absent

assoc-or : (a b c : Bool) → (a || (b || c)) ≡ ((a || b) || c)
assoc-or true b c = refl
assoc-or false b c = refl

any-overlaid : (p : Row → Bool) (base own : Rows) → IsInOrder own → AllByRecursion (λ k. row_at base k ≡ None) (keys_of own)
    → list_any p (values_of (overlaid base own)) ≡ (list_any p (values_of own) || list_any p (values_of base))
unfolding IsStrictlySortedBy
any-overlaid p base [] h apart = refl
any-overlaid p base (e ∷ es) h apart =
    let own_new = first_absent e es h in
    let new : row_at (overlaid base es) e.0 ≡ None = row_at-overlaid base es e.0 ∙ ap (λ o. option_or o (row_at base e.0)) own_new ∙ apart.0 in
    any-put p (overlaid base es) e.0 e.1 (subst (λ (f : Id → Id → Bool). lookup (f e.0) (overlaid base es) ≡ None) (sym at_is) new)
    ∙ ap (λ t. p e.1 || t) (any-overlaid p base es h.1 apart.1) ∙ assoc-or (p e.1) (list_any p (values_of es)) (list_any p (values_of base))

none_shown : (base : Rows) (hidden : BTreeSet Id) (ks : List Id) → AllByRecursion (λ i. is_hidden hidden i ≡ true) ks → AllByRecursion (λ k. row_at (shown hidden base) k ≡ None) ks
none_shown base hidden ks h = each_more ks (λ k hides. row_at-shown hidden base k ∙ ap (λ t. cond t None (row_at base k)) hides) h

not-or : (a b : Bool) → not (a || b) ≡ (not b && not a)
not-or true true = refl
not-or true false = refl
not-or false true = refl
not-or false false = refl

-- a slot is free where it is so on both boards
pub free-seen : (room : Text) (slot : Slot) (length : ℕ) (base own : Rows) (hidden : BTreeSet Id) → CanOverlay base hidden own
    → is_free (bookings_of room (overlaid (shown hidden base) own)) length slot
    ≡ (is_free (bookings_of room (shown hidden base)) length slot && is_free (bookings_of room own) length slot)
free-seen room slot length base own hidden can =
    let p : Row → Bool = is_in_the_way room slot length in
    sym (free-bookings room slot length (overlaid (shown hidden base) own))
    ∙ ap not (any-overlaid p (shown hidden base) own can.own_order (none_shown base hidden (keys_of own) can.aside))
    ∙ not-or (list_any p (values_of own)) (list_any p (values_of (shown hidden base)))
    ∙ (λ t. free-bookings room slot length (shown hidden base) t && free-bookings room slot length own t)

-- ---- what calls leave

pub same_set : (base own : Rows) (old new : BTreeSet Id) → new.keys ≡ old.keys → CanOverlay base old own → CanOverlay base new own
same_set base own old new h can = subst (λ (ks : List Id). CanOverlay base (record { keys = ks }) own) (sym h) can

pub can-after : {X E : Type 0} (r : Result X E) (base own own' : Rows) (old new : BTreeSet Id) (i : Id) (row : Row) → CanOverlay base old own → HidesMore i old new
    → OnOk r (own' ≡ insert_entry id_cmp own i row) → OnErr r (own' ≡ own) → CanOverlay base new own'
can-after (Ok x) base own own' old new i row can more ok err = subst (CanOverlay base new) (sym ok) (can-put base own old new i can more row)
can-after (Err e) base own own' old new i row can more ok err = subst (CanOverlay base new) (sym err) (can-hidden base own old new i can more)

pub seen-after : {X E : Type 0} (r : Result X E) (base own own' v : Rows) (old new : BTreeSet Id) (i : Id) (row : Row) → CanOverlay base old own → HidesMore i old new
    → overlaid (shown old base) own ≡ v → OnOk r (own' ≡ insert_entry id_cmp own i row) → OnOk r (overlaid (shown new base) own' ≡ insert_entry id_cmp v i row)
seen-after (Ok x) base own own' v old new i row can more view ok =
    ap (overlaid (shown new base)) ok ∙ seen-put base own old new i can more row ∙ ap (λ b. insert_entry id_cmp b i row) view
seen-after (Err e) base own own' v old new i row can more view ok = tt
