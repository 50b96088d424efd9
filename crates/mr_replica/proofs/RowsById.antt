-- Rows that stand under their ids: what look-ups find among them, and what they are with a row put or without one.
use Rattle.std.proofs.Common.{◌≡◌, refl, sym, ap, ◌∙◌, subst, Bool, true, false, cond, not, ◌&&◌, ◌||◌, ◌==◌, nat_lt, List, [], ◌∷◌, ◌++◌, map, inl, inr, Some, None, Result, Ok, Err}
use Rattle.std.specs.Prelude.{OnErr}
use Rattle.std.specs.BTreeMap.{insert_entry, is_at}
use Rattle.std.specs.List.{AllByRecursion, filter, find, list_any}
use Rattle.std.specs.Map.{values_of, lookup, remove_entry}
use Rattle.std.specs.Option.{is_some, option_to_list}
use Rattle.std.specs.Ordering.{is_lt, match_ordering, ordering_reverse, nat_cmp}
use Rattle.std.specs.declared.cmp.Ordering.TheVariants.{Less, Equal, Greater}
use Rattle.std.proofs.lemmas.Bool.{false_from_ne_true}
use Rattle.std.proofs.lemmas.List.{append_assoc}
use Rattle.mr_model.specs.Dropped.{Has}
use Rattle.mr_model.specs.Replica.{is_among}
use Rattle.mr_model.specs.Writes.{Id, same_id}
use Rattle.mr_model.proofs.Members.{all_has, has_right, map_has, not_among, same_id-true, sorted_filter}
use Rattle.mr_base.specs.Ids.{id_cmp}
use Rattle.mr_replay.specs.Holds.{AreDistinct}
use Rattle.mr_replay.proofs.IdKeys.{exact_ids, ids_total, at_is, same_id_equivalence}
use Rattle.mr_tables.specs.Change.{id_before, put, rows_without}
use Rattle.mr_tables.specs.TableOrders.{InOrder, id_order}
use Rattle.mr_tables.proofs.Putting.{one_a_key, put_in_order}
use Rattle.mr_replica.specs.Keyed.{IsKeyed, if_passes}
use Rattle.mr_replica.proofs.CalendarOrder.{less_then, less}

-- it holds whatever the result
pub on_err : {X E P : Type 0} (r : Result X E) → P → OnErr r P
on_err (Ok x) p = tt
on_err (Err e) p = p

-- ---- the order of ids

pub before_is : (i j : Id) → is_lt (id_cmp i j) ≡ id_before i j
before_is i j =
    less_then (nat_lt i.server j.server) (i.server == j.server) (nat_cmp i.n j.n)
    ∙ ap (λ x. nat_lt i.server j.server || (i.server == j.server && x)) (less (nat_lt i.n j.n) (i.n == j.n))

before_less : (i j : Id) → id_cmp i j ≡ Less → id_before i j ≡ true
before_less i j p = sym (before_is i j) ∙ ap is_lt p

not_before : (i j : Id) → is_lt (id_cmp i j) ≡ false → id_before i j ≡ false
not_before i j p = sym (before_is i j) ∙ p

behind_less : (i j : Id) → id_cmp i j ≡ Greater → id_before j i ≡ true
behind_less i j p = before_less j i (ids_total.antisymm j i ∙ ap ordering_reverse p)

not_behind : (i j : Id) → id_cmp i j ≡ Equal → id_before j i ≡ false
not_behind i j p = not_before j i (ap is_lt (ids_total.antisymm j i ∙ ap ordering_reverse p))

-- ---- rows with an id, in the order of ids

module _ {R : Type 0} (id : R → Id) where
  -- of two rows with one id both are the same
  pub one_row : (rows : List R) → InOrder id_before id rows → (x y : R) → Has x rows → Has y rows → id x ≡ id y → x ≡ y
  one_row rows s x y h g e = one_a_key id_before id id_order rows s x y h g e

  pub distinct_ids : (rows : List R) → InOrder id_before id rows → AreDistinct (map id rows)
  distinct_ids [] s = tt
  distinct_ids (x ∷ rows) s = (
    not_among (id x) (map id rows) (λ h.
        let (y, there, e) = map_has id (id x) rows h in
        id_order.irreflexive (id x) (subst (λ i. id_before (id x) i ≡ true) (sym e) (all_has (λ u. id_before (id x) (id u) ≡ true) y rows s.0 there))),
    distinct_ids rows s.1,
  )

  abbrev pub with_id : Id → List R → List R
  with_id i rows = filter (λ r. same_id (id r) i) rows

  -- behind a row no row has its id
  apart : (x : R) (rows : List R) → InOrder id_before id (x ∷ rows) → (i : Id) → same_id (id x) i ≡ true → (y : R) → Has y rows → same_id (id y) i ≡ false
  apart x rows s i is y h =
      false_from_ne_true (same_id (id y) i)
      (λ also. id_order.irreflexive (id x)
      (subst (λ j. id_before (id x) j ≡ true) (same_id-true (id y) i also ∙ sym (same_id-true (id x) i is)) (all_has (λ u. id_before (id x) (id u) ≡ true) y rows s.0 h)))

  stay : (i : Id) (rows : List R) → ((y : R) → Has y rows → same_id (id y) i ≡ false) → rows_without id (i ∷ []) rows ≡ rows
  stay i [] lacks = refl
  stay i (x ∷ rows) lacks =
      ap (λ b. cond (not (b || false)) (x ∷ rows_without id (i ∷ []) rows) (rows_without id (i ∷ []) rows)) (lacks x (inl refl))
      ∙ ap (λ ys. x ∷ ys) (stay i rows (λ y h. lacks y (inr h)))

  none_found : (i : Id) (q : R → Bool) (rows : List R) → ((y : R) → Has y rows → same_id (id y) i ≡ false) → find (λ r. same_id (id r) i && q r) rows ≡ None
  none_found i q [] lacks = refl
  none_found i q (x ∷ rows) lacks = ap (λ b. cond (b && q x) (Some x) (find (λ r. same_id (id r) i && q r) rows)) (lacks x (inl refl)) ∙ none_found i q rows (λ y h. lacks y (inr h))

  none_picked : (i : Id) (rows : List R) → ((y : R) → Has y rows → same_id (id y) i ≡ false) → with_id i rows ≡ []
  none_picked i [] lacks = refl
  none_picked i (x ∷ rows) lacks = ap (λ b. cond b (x ∷ with_id i rows) (with_id i rows)) (lacks x (inl refl)) ∙ none_picked i rows (λ y h. lacks y (inr h))

  -- the rows with the id are the one that is found
  pub picked_one : (i : Id) (rows : List R) → InOrder id_before id rows → with_id i rows ≡ option_to_list (find (λ r. same_id (id r) i) rows)
  picked_one i [] s = refl
  picked_one i (x ∷ rows) s = go (same_id (id x) i) refl (picked_one i rows s.1)
    where
      go : (b : Bool) → same_id (id x) i ≡ b → with_id i rows ≡ option_to_list (find (λ r. same_id (id r) i) rows)
          → cond b (x ∷ with_id i rows) (with_id i rows) ≡ option_to_list (cond b (Some x) (find (λ r. same_id (id r) i) rows))
      go true is ih = ap (λ ys. x ∷ ys) (none_picked i rows (apart x rows s i is))
      go false other ih = ih

  -- the row with the id, if it passes another test too
  pub found_both : (i : Id) (q : R → Bool) (rows : List R) → InOrder id_before id rows → find (λ r. same_id (id r) i && q r) rows ≡ if_passes q (find (λ r. same_id (id r) i) rows)
  found_both i q [] s = refl
  found_both i q (x ∷ rows) s = go (same_id (id x) i) refl (found_both i q rows s.1)
    where
      one : same_id (id x) i ≡ true → (c : Bool) → cond c (Some x) (find (λ r. same_id (id r) i && q r) rows) ≡ cond c (Some x) None
      one is true = refl
      one is false = none_found i q rows (apart x rows s i is)

      go : (b : Bool) → same_id (id x) i ≡ b → find (λ r. same_id (id r) i && q r) rows ≡ if_passes q (find (λ r. same_id (id r) i) rows)
          → cond (b && q x) (Some x) (find (λ r. same_id (id r) i && q r) rows) ≡ if_passes q (cond b (Some x) (find (λ r. same_id (id r) i) rows))
      go true is ih = one is (q x)
      go false other ih = ih

  pub any_found : (p : R → Bool) (rows : List R) → list_any p rows ≡ is_some (find p rows)
  any_found p [] = refl
  any_found p (x ∷ rows) = go (p x) (any_found p rows)
    where
      go : (b : Bool) → list_any p rows ≡ is_some (find p rows) → (b || list_any p rows) ≡ is_some (cond b (Some x) (find p rows))
      go true e = refl
      go false e = e

-- ---- entries

module _ {R : Type 0} (id : R → Id) where
  abbrev Entries : Type 0
  Entries = List (Id × R)

  abbrev Keyed : Entries → Type 0
  Keyed es = AllByRecursion (λ e. e.0 ≡ (id e.1)) es

  at_row : (i : Id) (e : Id × R) → e.0 ≡ (id e.1) → is_at (id_cmp i) e.0 ≡ same_id (id e.1) i
  at_row i e is = ap (is_at (id_cmp i)) is ∙ (λ t. at_is t i (id e.1)) ∙ same_id_equivalence.symm i (id e.1)

  found_keyed : (es : Entries) (i : Id) → Keyed es → lookup (is_at (id_cmp i)) es ≡ find (λ r. same_id (id r) i) (values_of es)
  found_keyed [] i k = refl
  found_keyed (e ∷ es) i k =
      ap (λ b. cond b (Some e.1) (lookup (is_at (id_cmp i)) es)) (at_row i e k.0)
      ∙ ap (λ o. cond (same_id (id e.1) i) (Some e.1) o) (found_keyed es i k.1)

  -- a look-up finds the row with the id
  pub found : (es : Entries) (i : Id) → IsKeyed id es → lookup (is_at (id_cmp i)) es ≡ find (λ r. same_id (id r) i) (values_of es)
  found es i k = found_keyed es i k.keys

  pub any_keyed : (es : Entries) (i : Id) → IsKeyed id es → is_some (lookup (is_at (id_cmp i)) es) ≡ list_any (λ r. same_id (id r) i) (values_of es)
  any_keyed es i k = ap is_some (found es i k) ∙ sym (any_found id (λ r. same_id (id r) i) (values_of es))

  -- ---- with a row put

  put_keyed : (es : Entries) (x : R) → Keyed es → values_of (insert_entry id_cmp es (id x) x) ≡ put id_before id x (values_of es)
  put_keyed [] x k = refl
  put_keyed (e ∷ es) x k =
      elim (id_cmp (id x) e.0) as (λ o. id_cmp (id x) e.0 ≡ o
      → values_of (match_ordering o (((id x), x) ∷ e ∷ es) ((e.0, x) ∷ es) (e ∷ insert_entry id_cmp es (id x) x)) ≡ put id_before id x (e.1 ∷ values_of es)) [
        | Less ↦ λ p. sym (both (before_less (id x) (id e.1) (own ∙ p)) refl)
        | Equal ↦ λ p. sym (both (not_before (id x) (id e.1) (ap is_lt (own ∙ p))) (not_behind (id x) (id e.1) (own ∙ p)))
        | Greater ↦ λ p. ap (λ ys. e.1 ∷ ys) (put_keyed es x k.1) ∙ sym (both (not_before (id x) (id e.1) (ap is_lt (own ∙ p))) (behind_less (id x) (id e.1) (own ∙ p)))
      ] refl
    where
      own : id_cmp (id x) (id e.1) ≡ id_cmp (id x) e.0
      own = ap (id_cmp (id x)) (sym k.0)

      both : {b c : Bool} → id_before (id x) (id e.1) ≡ b → id_before (id e.1) (id x) ≡ c
          → put id_before id x (e.1 ∷ values_of es) ≡ cond b (x ∷ e.1 ∷ values_of es) (cond c (e.1 ∷ put id_before id x (values_of es)) (x ∷ values_of es))
      both p q = λ t. cond (p t) (x ∷ e.1 ∷ values_of es) (cond (q t) (e.1 ∷ put id_before id x (values_of es)) (x ∷ values_of es))

  keys_put : (es : Entries) (x : R) → Keyed es → Keyed (insert_entry id_cmp es (id x) x)
  keys_put [] x k = (refl, tt)
  keys_put (e ∷ es) x k =
      elim (id_cmp (id x) e.0) as (λ o. id_cmp (id x) e.0 ≡ o → Keyed (match_ordering o (((id x), x) ∷ e ∷ es) ((e.0, x) ∷ es) (e ∷ insert_entry id_cmp es (id x) x))) [
        | Less ↦ λ p. (refl, k)
        | Equal ↦ λ p. (k.0 ∙ sym (exact_ids (id x) (id e.1) (ap (id_cmp (id x)) (sym k.0) ∙ p)), k.1)
        | Greater ↦ λ p. (k.0, keys_put es x k.1)
      ] refl

  pub rows_put : (es : Entries) (x : R) → IsKeyed id es → values_of (insert_entry id_cmp es (id x) x) ≡ put id_before id x (values_of es)
  rows_put es x k = put_keyed es x k.keys

  pub IsKeyed-put : (es : Entries) (x : R) → IsKeyed id es → IsKeyed id (insert_entry id_cmp es (id x) x)
  IsKeyed-put es x k = record {
    keys = keys_put es x k.keys;
    order = subst (InOrder id_before id) (sym (rows_put es x k)) (put_in_order id_before id id_order x (values_of es) k.order);
  }

  -- ---- without the row of an id

  taken_keyed : (es : Entries) (i : Id) → Keyed es → InOrder id_before id (values_of es) → values_of (remove_entry (is_at (id_cmp i)) es) ≡ rows_without id (i ∷ []) (values_of es)
  taken_keyed [] i k s = refl
  taken_keyed (e ∷ es) i k s =
      ap (λ b. values_of (cond b es (e ∷ remove_entry (is_at (id_cmp i)) es))) (at_row i e k.0)
      ∙ go (same_id (id e.1) i) refl (taken_keyed es i k.1 s.1)
    where
      go : (b : Bool) → same_id (id e.1) i ≡ b → values_of (remove_entry (is_at (id_cmp i)) es) ≡ rows_without id (i ∷ []) (values_of es)
          → values_of (cond b es (e ∷ remove_entry (is_at (id_cmp i)) es)) ≡ cond (not (b || false)) (e.1 ∷ rows_without id (i ∷ []) (values_of es)) (rows_without id (i ∷ []) (values_of es))
      go true is ih = sym (stay id i (values_of es) (apart id e.1 (values_of es) s i is))
      go false other ih = ap (λ ys. e.1 ∷ ys) ih

  keys_taken : (es : Entries) (test : Id → Bool) → Keyed es → Keyed (remove_entry test es)
  keys_taken [] test k = tt
  keys_taken (e ∷ es) test k = elim (test e.0) as (λ b. Keyed (cond b es (e ∷ remove_entry test es))) [ true ↦ k.1 | false ↦ (k.0, keys_taken es test k.1) ]

  pub rows_taken : (es : Entries) (i : Id) → IsKeyed id es → values_of (remove_entry (is_at (id_cmp i)) es) ≡ rows_without id (i ∷ []) (values_of es)
  rows_taken es i k = taken_keyed es i k.keys k.order

  pub IsKeyed-taken : (es : Entries) (i : Id) → IsKeyed id es → IsKeyed id (remove_entry (is_at (id_cmp i)) es)
  IsKeyed-taken es i k = record {
    keys = keys_taken es (is_at (id_cmp i)) k.keys;
    order = subst (InOrder id_before id) (sym (rows_taken es i k)) (sorted_filter (λ x y. id_before (id x) (id y) ≡ true) (λ r. not (is_among (id r) (i ∷ []))) (values_of es) k.order);
  }

-- ---- rows one after the other

module _ {R : Type 0} (id : R → Id) where
  -- a row behind all others goes to the end
  put_end : (x : R) (rows : List R) → ((y : R) → Has y rows → id_before (id y) (id x) ≡ true) → put id_before id x rows ≡ rows ++ x ∷ []
  put_end x [] last = refl
  put_end x (y ∷ rows) last =
      let behind : id_before (id y) (id x) ≡ true = last y (inl refl) in
      let front : id_before (id x) (id y) ≡ false = false_from_ne_true (id_before (id x) (id y)) (λ e. id_order.irreflexive (id x) (id_order.transitive (id x) (id y) (id x) e behind)) in
      (λ t. cond (front t) (x ∷ y ∷ rows) (cond (behind t) (y ∷ put id_before id x rows) (x ∷ rows)))
      ∙ ap (λ ys. y ∷ ys) (put_end x rows (λ z h. last z (inr h)))

  in_front : (front : List R) (x : R) (back : List R) → InOrder id_before id (front ++ x ∷ back) → (y : R) → Has y front → id_before (id y) (id x) ≡ true
  in_front [] x back s y h = absurd h
  in_front (z ∷ front) x back s y (inl e) =
      subst (λ u. id_before (id u) (id x) ≡ true) (sym e) (all_has (λ u. id_before (id z) (id u) ≡ true) x (front ++ x ∷ back) s.0 (has_right x front (x ∷ back) (inl refl)))
  in_front (z ∷ front) x back s y (inr h) = in_front front x back s.1 y h

  pub put_next : (front : List R) (x : R) (back : List R) → InOrder id_before id (front ++ x ∷ back) → put id_before id x front ++ back ≡ front ++ x ∷ back
  put_next front x back s = ap (λ ys. ys ++ back) (put_end x front (in_front front x back s)) ∙ append_assoc front (x ∷ []) back

  pub without_next : (gone : List Id) (i : Id) (rows : List R) → rows_without id gone (rows_without id (i ∷ []) rows) ≡ rows_without id (i ∷ gone) rows
  without_next gone i [] = refl
  without_next gone i (x ∷ rows) = go (same_id (id x) i) (without_next gone i rows)
    where
      go : (a : Bool) → rows_without id gone (rows_without id (i ∷ []) rows) ≡ rows_without id (i ∷ gone) rows
          → filter (λ r. not (is_among (id r) gone)) (cond (not (a || false)) (x ∷ rows_without id (i ∷ []) rows) (rows_without id (i ∷ []) rows))
          ≡ cond (not (a || is_among (id x) gone)) (x ∷ rows_without id (i ∷ gone) rows) (rows_without id (i ∷ gone) rows)
      go true ih = ih
      go false ih = ap (λ ys. cond (not (is_among (id x) gone)) (x ∷ ys) ys) ih

  pub without_none : (rows : List R) → rows_without id [] rows ≡ rows
  without_none [] = refl
  without_none (x ∷ rows) = ap (λ ys. x ∷ ys) (without_none rows)
