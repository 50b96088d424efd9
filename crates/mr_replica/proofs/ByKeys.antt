-- Rows by their second keys: which keys stay as rows are put and taken away, and the rows that are found between two keys.
use Rattle.std.proofs.Common.{◌≡◌, refl, sym, ap, ◌∙◌, subst, ℕ, Bool, true, false, not, cond, ◌||◌, List, [], ◌∷◌, ◌⊎◌, inl, inr, Option, Some, None, IfSome, Result, Ok, Err}
use Rattle.std.specs.Prelude.{OnOk, OnErr}
use Rattle.std.specs.BTreeMap.{is_at}
use Rattle.std.specs.BTreeSet.{BTreeSet, IsOrdered, keys_between}
use Rattle.std.specs.Cmp.Lexicographic.{slice_cmp}
use Rattle.std.specs.List.{cons_option, filter, filter_map, find}
use Rattle.std.specs.Option.{is_some, option_map}
use Rattle.std.specs.List.Sorted.{IsPermutation, IsStrictlySortedBy}
use Rattle.std.specs.Ordering.{is_lt, is_eq, nat_cmp, ordering_then}
use Rattle.std.specs.declared.cmp.Ordering.{Ordering}
use Rattle.std.specs.declared.cmp.Ordering.TheVariants.{Less, Equal}
use Rattle.std.specs.declared.ops.Bound.TheVariants.{Included}
use Rattle.std.proofs.lemmas.Bool.{true≢false, false_from_ne_true}
use Rattle.std.proofs.lemmas.Cmp.{tied_itself, nat_cmp_total, nat_list_cmp_total}
use Rattle.std.proofs.lemmas.Map.Lookups.{CmpEqualImpliesEq, exact_pairs, exact_unsigned, exact_bytes}
use Rattle.mr_model.specs.Dropped.{Has}
use Rattle.mr_model.specs.Replica.{is_among}
use Rattle.mr_model.specs.Writes.{Id, same_id}
use Rattle.mr_model.proofs.Members.{Sorted, all_has, has_all, has_any, has_filter, filter_has, has_filter_map, filter_map_has, find_has, find_one, sorted_filter, same_id-true, same_id_from}
use Rattle.mr_model.proofs.UniqueReplay.{some_inj, none_some}
use Rattle.mr_base.specs.Ids.{id_cmp}
use Rattle.mr_replay.proofs.IdKeys.{exact_ids, ids_total, is_eq-Equal}
use Rattle.mr_tables.specs.Change.{id_before, put, rows_without}
use Rattle.mr_tables.specs.TableOrders.{InOrder, id_order}
use Rattle.mr_tables.proofs.Putting.{put_has, put_in_order}
use Rattle.mr_replica.specs.declared.row_key.RowKey.{RowKey}
use Rattle.mr_replica.specs.Keyed.{if_passes}
use Rattle.mr_replica.specs.RowKeys.{row_key_cmp, key_before, has_row_key, row_of_key, is_between, AreRowsIndexed, AreBetween}
use Rattle.mr_replica.proofs.RowsById.{one_row}
use Rattle.mr_replica.proofs.SameMembers.{apart_from, permuted}

-- ---- keys that compare alike are one

exact_keys : CmpEqualImpliesEq row_key_cmp
exact_keys a b h =
    ap (λ (p : ℕ × (List ℕ × (ℕ × (ℕ × (ℕ × (ℕ × (ℕ × (ℕ × Id)))))))). record {
      edge = p.0;
      room = (p.1).0;
      room_edge = ((p.1).1).0;
      number = (((p.1).1).1).0;
      month = ((((p.1).1).1).1).0;
      day = (((((p.1).1).1).1).1).0;
      day_edge = ((((((p.1).1).1).1).1).1).0;
      start = (((((((p.1).1).1).1).1).1).1).0;
      id = (((((((p.1).1).1).1).1).1).1).1;
    })
    (exact_pairs nat_cmp _ exact_unsigned (exact_pairs (slice_cmp nat_cmp) _ exact_bytes
    (exact_pairs nat_cmp _ exact_unsigned (exact_pairs nat_cmp _ exact_unsigned
    (exact_pairs nat_cmp _ exact_unsigned (exact_pairs nat_cmp _ exact_unsigned (exact_pairs nat_cmp _ exact_unsigned (exact_pairs nat_cmp id_cmp exact_unsigned exact_ids)))))))
    (a.edge, (a.room, (a.room_edge, (a.number, (a.month, (a.day, (a.day_edge, (a.start, a.id)))))))) (b.edge, (b.room, (b.room_edge, (b.number, (b.month, (b.day, (b.day_edge, (b.start, b.id)))))))) h)

pub same_key : (k q : RowKey) → is_at (row_key_cmp k) q ≡ true → k ≡ q
same_key k q e = exact_keys k q (is_eq-Equal (row_key_cmp k q) e)

pub tied : (n : ℕ) (o : Ordering) → ordering_then (nat_cmp n n) o ≡ o
tied n o = ap (λ x. ordering_then x o) (tied_itself nat_cmp_total n)

pub tied_names : (room : List ℕ) (o : Ordering) → ordering_then (slice_cmp nat_cmp room room) o ≡ o
tied_names room o = ap (λ x. ordering_then x o) (tied_itself nat_list_cmp_total room)

pub at_itself : (k : RowKey) → row_key_cmp k k ≡ Equal
at_itself k = tied k.edge _ ∙ tied_names k.room _ ∙ tied k.room_edge _ ∙ tied k.number _ ∙ tied k.month _ ∙ tied k.day _ ∙ tied k.day_edge _ ∙ tied k.start _ ∙ tied_itself ids_total k.id

keys_rise : (ks : List RowKey) → IsStrictlySortedBy row_key_cmp ks → Sorted (λ a b. key_before a b ≡ true) ks
unfolding IsStrictlySortedBy
keys_rise [] s = tt
keys_rise (k ∷ ks) s = (has_all (λ q. key_before k q ≡ true) ks (λ q h. ap is_lt (all_has (λ q. row_key_cmp k q ≡ Less) q ks s.0 h)), keys_rise ks s.1)

-- a key put keeps the others
pub still : (key k : RowKey) (old : BTreeSet RowKey) → has_row_key old k ≡ true → cond (is_at (row_key_cmp key) k) true (has_row_key old k) ≡ true
still key k old there = go (is_at (row_key_cmp key) k)
  where
    go : (b : Bool) → cond b true (has_row_key old k) ≡ true
    go true = refl
    go false = there

-- a key that is taken out is none of the others
pub left : (key k : RowKey) (old : BTreeSet RowKey) → is_at (row_key_cmp key) k ≡ false → has_row_key old k ≡ true → cond (is_at (row_key_cmp key) k) false (has_row_key old k) ≡ true
left key k old other there = ap (λ b. cond b false (has_row_key old k)) other ∙ there

module _ {R : Type 0} (id : R → Id) (key : R → RowKey) (has_id : (r : R) → RowKey.id (key r) ≡ id r) where
  -- ---- which keys stay

  -- rows of different ids have different keys
  keys_apart : (r x : R) → (id r ≡ id x → ⊥) → is_at (row_key_cmp (key x)) (key r) ≡ false
  keys_apart r x differ = false_from_ne_true (is_at (row_key_cmp (key x)) (key r)) (λ e. differ (sym (has_id r) ∙ sym (ap RowKey.id (same_key (key x) (key r) e)) ∙ has_id x))

  found_apart : (r : R) (i : Id) (rows : List R) (o : Option R) → find (λ x. same_id (id x) i) rows ≡ o → (id r ≡ i → ⊥) → IfSome o (λ x. is_at (row_key_cmp (key x)) (key r) ≡ false)
  found_apart r i rows None e differ = tt
  found_apart r i rows (Some x) e differ =
      let is = same_id-true (id x) i (find_has (λ x. same_id (id x) i) x rows e).1 in
      keys_apart r x (λ same. differ (same ∙ is))

  -- the keys that the old ones have stay, but for that of the row
  abbrev pub Forgets : BTreeSet RowKey → BTreeSet RowKey → Option R → Type 0
  Forgets old new row = (k : RowKey) → IfSome row (λ r. is_at (row_key_cmp (key r)) k ≡ false) → has_row_key old k ≡ true → has_row_key new k ≡ true

  -- a row put, and its key
  pub IsIndexed-put : (row : R) (rows : List R) (old mid new : BTreeSet RowKey) (o : Option R) → AreRowsIndexed id key rows old
      → o ≡ find (λ x. same_id (id x) (id row)) rows → ((k : RowKey) → has_row_key old k ≡ true → has_row_key mid k ≡ true)
      → Forgets mid new o → has_row_key new (key row) ≡ true → AreRowsIndexed id key (put id_before id row rows) new
  IsIndexed-put row rows old mid new o all found grows forgets own = record {
    order = put_in_order id_before id id_order row rows all.order;
    noted = λ r h. go r (put_has id_before id id_order r row rows all.order h);
  } where
    go : (r : R) → (r ≡ row) ⊎ (Has r rows × (id r ≡ id row → ⊥)) → has_row_key new (key r) ≡ true
    go r (inl e) = subst (λ x. has_row_key new (key x) ≡ true) (sym e) own
    go r (inr p) = forgets (key r) (found_apart r (id row) rows o (sym found) p.1) (grows (key r) (all.noted r p.0))

  -- a row taken away, and its key
  pub IsIndexed-without : (i : Id) (rows : List R) (old new : BTreeSet RowKey) (o : Option R) → AreRowsIndexed id key rows old
      → o ≡ find (λ x. same_id (id x) i) rows → Forgets old new o → AreRowsIndexed id key (rows_without id (i ∷ []) rows) new
  IsIndexed-without i rows old new o all found forgets = record {
    order = sorted_filter (λ x y. id_before (id x) (id y) ≡ true) (λ x. not (is_among (id x) (i ∷ []))) rows all.order;
    noted = λ r h.
        let p = filter_has (λ x. not (is_among (id x) (i ∷ []))) r rows h in
        forgets (key r) (found_apart r i rows o (sym found) (λ e. true≢false (sym p.1 ∙ ap (λ b. not (b || false)) (same_id_from (id r) i e)))) (all.noted r p.0);
  }

  -- more keys do no harm
  pub IsIndexed-more : (rows : List R) (old new : BTreeSet RowKey) → AreRowsIndexed id key rows old
      → ((k : RowKey) → has_row_key old k ≡ true → has_row_key new k ≡ true) → AreRowsIndexed id key rows new
  IsIndexed-more rows old new all grows = record { order = all.order; noted = λ r h. grows (key r) (all.noted r h) }

  -- whether the row is put or memory refuses it
  pub index_put : {X E : Type 0} (row : R) (rows new : List R) (old keys : BTreeSet RowKey) (r : Result X E)
      → AreRowsIndexed id key rows old → OnOk r (new ≡ put id_before id row rows) → OnErr r (new ≡ rows)
      → ((k : RowKey) → has_row_key old k ≡ true → has_row_key keys k ≡ true) → has_row_key keys (key row) ≡ true → AreRowsIndexed id key new keys
  index_put row rows new old keys (Ok x) all made kept grows own =
      subst (λ rs. AreRowsIndexed id key rs keys) (sym made) (IsIndexed-put row rows old keys keys (find (λ x. same_id (id x) (id row)) rows) all refl grows (λ k other there. there) own)
  index_put row rows new old keys (Err e) all made kept grows own = subst (λ rs. AreRowsIndexed id key rs keys) (sym kept) (IsIndexed-more rows old keys all grows)

  -- a row taken away, whose key stays
  pub index_without : (i : Id) (rows : List R) (keys : BTreeSet RowKey) → AreRowsIndexed id key rows keys → AreRowsIndexed id key (rows_without id (i ∷ []) rows) keys
  index_without i rows keys all = record {
    order = sorted_filter (λ x y. id_before (id x) (id y) ≡ true) (λ x. not (is_among (id x) (i ∷ []))) rows all.order;
    noted = λ r h. all.noted r (filter_has (λ x. not (is_among (id x) (i ∷ []))) r rows h).0;
  }

  -- ---- the rows of keys

  module _ (rows : List R) where
    -- a row that its key finds
    at_has : (k : RowKey) (r : R) → row_of_key id key rows k ≡ Some r → Has r rows × (key r ≡ k)
    at_has k r h = go (find (λ x. same_id (id x) k.id) rows) refl h
      where
        passed : (x : R) → find (λ x. same_id (id x) k.id) rows ≡ Some x → (b : Bool) → is_eq (row_key_cmp (key x) k) ≡ b → cond b (Some x) None ≡ Some r → Has r rows × (key r ≡ k)
        passed x e true is h =
            subst (λ y. Has y rows × (key y ≡ k)) (some_inj x r h) ((find_has (λ x. same_id (id x) k.id) x rows e).0, same_key (key x) k is)
        passed x e false is h = absurd (none_some r h)

        go : (o : Option R) → find (λ x. same_id (id x) k.id) rows ≡ o → if_passes (λ x. is_eq (row_key_cmp (key x) k)) o ≡ Some r → Has r rows × (key r ≡ k)
        go None e h = absurd (none_some r h)
        go (Some x) e h = passed x e (is_eq (row_key_cmp (key x) k)) refl h

    -- each row is found by its key
    at_own : (r : R) → InOrder id_before id rows → Has r rows → row_of_key id key rows (key r) ≡ Some r
    at_own r order h =
        ap (if_passes (λ x. is_eq (row_key_cmp (key x) (key r))))
        (find_one (λ x. same_id (id x) (RowKey.id (key r))) r rows h (same_id_from (id r) (RowKey.id (key r)) (sym (has_id r)))
        (λ y g e. one_row id rows order y r g h (same_id-true (id y) (RowKey.id (key r)) e ∙ has_id r)))
        ∙ ap (λ o. cond (is_eq o) (Some r) None) (at_itself (key r))

    -- rows of keys that rise stand in the order of their keys
    rising : (ks : List RowKey) → Sorted (λ a b. key_before a b ≡ true) ks → InOrder key_before key (filter_map (row_of_key id key rows) ks)
    rising [] s = tt
    rising (k ∷ ks) s = go (row_of_key id key rows k) refl (rising ks s.1)
      where
        go : (o : Option R) → row_of_key id key rows k ≡ o → InOrder key_before key (filter_map (row_of_key id key rows) ks)
            → InOrder key_before key (cons_option o (filter_map (row_of_key id key rows) ks))
        go None e ih = ih
        go (Some r) e ih = (
          has_all (λ y. key_before (key r) (key y) ≡ true) (filter_map (row_of_key id key rows) ks) (λ y h.
              let (q, there, is) = filter_map_has (row_of_key id key rows) y ks h in
              let own : key r ≡ k = (at_has k r e).1 in
              let next : key y ≡ q = (at_has q y is).1 in
              (λ t. key_before (own t) (next t)) ∙ all_has (λ q. key_before k q ≡ true) q ks s.0 there),
          ih,
        )

    -- the rows of the keys from the first to the last
    pub between : (first last : RowKey) (keys : BTreeSet RowKey) → AreRowsIndexed id key rows keys → IsOrdered row_key_cmp keys
        → AreBetween key first last rows (filter_map (row_of_key id key rows) (keys_between row_key_cmp (Included first) (Included last) keys))
    between first last keys all rises = record {
      own = λ r h.
          let (k, there, is) = filter_map_has (row_of_key id key rows) r (filter (is_between first last) keys.keys) h in
          let (g, own) = at_has k r is in
          (g, ap (is_between first last) own ∙ (filter_has (is_between first last) k keys.keys there).1);
      each = λ r h inside.
          let (k, there, is) = has_any (is_at (row_key_cmp (key r))) keys.keys (all.noted r h) in
          let key_there : Has (key r) keys.keys = subst (λ q. Has q keys.keys) (sym (same_key (key r) k is)) there in
          has_filter_map (row_of_key id key rows) (key r) r (filter (is_between first last) keys.keys) (at_own r all.order h) (has_filter (is_between first last) (key r) keys.keys inside key_there);
      rise = rising (filter (is_between first last) keys.keys) (sorted_filter (λ a b. key_before a b ≡ true) (is_between first last) keys.keys (keys_rise keys.keys rises));
    }

  -- rows that are asked for, all of which are between two keys
  pub picked : (first last : RowKey) (all rows : List R) (q : R → Bool) → InOrder id_before id all → AreBetween key first last all rows
      → ((r : R) → q r ≡ true → is_between first last (key r) ≡ true) → IsPermutation (filter q all) (filter q rows)
  picked first last all rows q order found inside =
      permuted (filter q all) (filter q rows)
      (apart_from (λ a b. id_before (id a) (id b) ≡ true) (λ x e. id_order.irreflexive (id x) e) (filter q all) (sorted_filter (λ a b. id_before (id a) (id b) ≡ true) q all order))
      (apart_from (λ a b. key_before (key a) (key b) ≡ true) (λ x e. true≢false (sym e ∙ ap is_lt (at_itself (key x))))
      (filter q rows) (sorted_filter (λ a b. key_before (key a) (key b) ≡ true) q rows found.rise))
      (λ r h. let p = filter_has q r all h in has_filter q r rows p.1 (found.each r p.0 (inside r p.1)))
      (λ r h. let p = filter_has q r rows h in has_filter q r all p.1 (found.own r p.0).0)

-- ---- a key that no row has

pub none_copied : {X Y : Type 0} (f : X → Y) (o : Option X) (b : Bool) → is_some o ≡ not b → b ≡ true → option_map f o ≡ None
none_copied f None b e none = refl
none_copied f (Some x) b e none = absurd (true≢false (e ∙ ap not none))

-- it is taken out
pub index_forget : {R : Type 0} (id : R → Id) (key : R → RowKey) (has_id : (r : R) → RowKey.id (key r) ≡ id r) (k : RowKey) (rows : List R) (old new : BTreeSet RowKey)
    → AreRowsIndexed id key rows old → row_of_key id key rows k ≡ None
    → ((q : RowKey) → has_row_key new q ≡ cond (is_at (row_key_cmp k) q) false (has_row_key old q)) → AreRowsIndexed id key rows new
index_forget {R} id key has_id k rows old new all none is = record { order = all.order; noted = λ r h. is (key r) ∙ left k (key r) old (other r h) (all.noted r h) }
  where
    other : (r : R) → Has r rows → is_at (row_key_cmp k) (key r) ≡ false
    other r h =
        false_from_ne_true (is_at (row_key_cmp k) (key r)) (λ e. none_some r (sym none ∙ ap (row_of_key id key rows) (same_key k (key r) e) ∙ at_own id key has_id rows r all.order h))
