-- Rows that are hidden: look-ups among the others, and their order. A row changed is one put in its own place.
use Rattle.std.proofs.Common.{◌≡◌, ◌∙◌, Bool, true, false, not, cond, [], ◌∷◌, Option, Some, None, IfSome, ap, refl, sym, subst}
use Rattle.std.specs.BTreeMap.{insert_entry}
use Rattle.std.specs.BTreeSet.{BTreeSet, contains}
use Rattle.std.specs.List.{AllByRecursion}
use Rattle.std.specs.Prelude.{option_map}
use Rattle.std.specs.List.Sorted.{IsStrictlySortedBy}
use Rattle.std.specs.Map.{keys_of}
use Rattle.std.specs.FinMap.Entries.{same_entries}
use Rattle.std.specs.declared.cmp.Ordering.TheVariants.{Less}
use Rattle.mr_model.specs.Writes.{Id, same_id}
use Rattle.mr_base.specs.Ids.{id_cmp}
use Rattle.mr_replay.specs.declared.rows.Row.{Row}
use Rattle.mr_replay.specs.declared.index.IndexKey.{IndexKey}
use Rattle.mr_replay.specs.declared.rows.Trace.{Trace}
use Rattle.mr_replay.specs.Rows.{Rows, row_at, change, row_changed}
use Rattle.mr_replay.specs.Index.{IsIndexed, IsNoted}
use Rattle.mr_replay.specs.Hidden.{is_hidden, shown}
use Rattle.mr_replay.proofs.IdKeys.{exact_ids, ids_total, at, at_is, same_id_equivalence}
use Rattle.mr_replay.proofs.Entries.{IsInOrder, row_at-put, in_order-put}
use Rattle.mr_replay.proofs.Marked.{change_if, row_at-changed, in_order-changed}
use Rattle.mr_replay.proofs.OneBoard.{sorted_test, find-row_at}
use Rattle.mr_model.proofs.Members.{same_id-true}

-- rows in order that look alike under each id are the same
pub same_rows : (b c : Rows) → IsInOrder b → IsInOrder c → ((q : Id) → row_at b q ≡ row_at c q) → b ≡ c
same_rows b c h g same = same_entries id_cmp ids_total exact_ids b c (sorted_test b h) (sorted_test c g) (λ q. find-row_at b q ∙ same q ∙ sym (find-row_at c q))

-- ---- hidden rows

each-shown : (P : Id → Type 0) (hidden : BTreeSet Id) (b : Rows) → AllByRecursion P (keys_of b) → AllByRecursion P (keys_of (shown hidden b))
each-shown P hidden [] h = tt
each-shown P hidden (e ∷ es) h =
    elim (not (is_hidden hidden e.0)) as (λ t. AllByRecursion P
    (keys_of (cond t (e ∷ shown hidden es) (shown hidden es)))) [ true ↦ (h.0, each-shown P hidden es h.1) | false ↦ each-shown P hidden es h.1 ]

pub in_order-shown : (hidden : BTreeSet Id) (b : Rows) → IsInOrder b → IsInOrder (shown hidden b)
unfolding IsStrictlySortedBy
in_order-shown hidden [] h = tt
in_order-shown hidden (e ∷ es) h =
    elim (not (is_hidden hidden e.0)) as (λ t. IsStrictlySortedBy id_cmp (keys_of (cond t (e ∷ shown hidden es) (shown hidden es)))) [
      | true ↦ (each-shown (λ k. id_cmp e.0 k ≡ Less) hidden es h.0, in_order-shown hidden es h.1)
      | false ↦ in_order-shown hidden es h.1
    ]

same_either : {X : Type 0} (t : Bool) (x : X) → x ≡ cond t x x
same_either true x = refl
same_either false x = refl

pub row_at-shown : (hidden : BTreeSet Id) (b : Rows) (q : Id) → row_at (shown hidden b) q ≡ cond (is_hidden hidden q) None (row_at b q)
row_at-shown hidden [] q = same_either (is_hidden hidden q) None
row_at-shown hidden (e ∷ es) q = go (same_id q e.0) (is_hidden hidden e.0) refl refl (row_at-shown hidden es q)
  where
    go : (s t : Bool) → same_id q e.0 ≡ s → is_hidden hidden e.0 ≡ t → row_at (shown hidden es) q ≡ cond (is_hidden hidden q) None (row_at es q)
        → row_at (cond (not t) (e ∷ shown hidden es) (shown hidden es)) q ≡ cond (is_hidden hidden q) None (cond s (Some e.1) (row_at es q))
    go true true s t rest =
        let hides : is_hidden hidden q ≡ true = ap (is_hidden hidden) (same_id-true q e.0 s) ∙ t in
        rest ∙ ap (λ x. cond x None (row_at es q)) hides ∙ sym (ap (λ x. cond x None (Some e.1)) hides)
    go true false s t rest =
        let shows : is_hidden hidden q ≡ false = ap (is_hidden hidden) (same_id-true q e.0 s) ∙ t in
        ap (λ x. cond x (Some e.1) (row_at (shown hidden es) q)) s ∙ sym (ap (λ x. cond x None (Some e.1)) shows)
    go false true s t rest = rest
    go false false s t rest = ap (λ x. cond x (Some e.1) (row_at (shown hidden es) q)) s ∙ rest

-- where nothing is hidden
pub shown-empty : (hidden : BTreeSet Id) (b : Rows) → hidden.keys ≡ [] → shown hidden b ≡ b
shown-empty hidden [] h = refl
shown-empty hidden (e ∷ es) h =
    ap (λ ks. cond (not (contains id_cmp (record { keys = ks }) e.0)) (e ∷ shown hidden es) (shown hidden es)) h ∙ ap (λ r. e ∷ r) (shown-empty hidden es h)

pub IsIndexed-shown : (hidden : BTreeSet Id) (rows : Rows) (index : BTreeSet IndexKey) → IsIndexed rows index → IsIndexed (shown hidden rows) index
IsIndexed-shown hidden rows index h = record {
  ordered = in_order-shown hidden rows h.ordered;
  bookings = λ q. subst (λ o. IfSome o (IsNoted index q)) (sym (row_at-shown hidden rows q)) (at_id q (is_hidden hidden q));
} where
  at_id : (q : Id) (t : Bool) → IfSome (cond t None (row_at rows q)) (IsNoted index q)
  at_id q true = tt
  at_id q false = h.bookings q

-- ---- one id more is hidden

-- the second set has this id, and the others as the first one
abbrev pub HidesMore : Id → BTreeSet Id → BTreeSet Id → Type 0
HidesMore i old new = (q : Id) → is_hidden new q ≡ cond (same_id q i) true (is_hidden old q)

pub hides_more : (i : Id) (old new : BTreeSet Id) → ((q : Id) → contains id_cmp new q ≡ cond (at i q) true (contains id_cmp old q)) → HidesMore i old new
hides_more i old new h = λ q.
    subst (λ (f : Id → Id → Bool). contains id_cmp new q ≡ cond (f i q) true (contains id_cmp old q)) at_is (h q)
    ∙ ap (λ s. cond s true (contains id_cmp old q)) (same_id_equivalence.symm i q)

-- ---- a row changed

changing : (f : Trace → Trace) (s : Bool) (row : Row) (o : Option Row) → (s ≡ true → o ≡ Some row) → cond s (Some (change f row)) o ≡ change_if f s o
changing f true row o h = ap (option_map (change f)) (sym (h refl))
changing f false row o h = refl

-- a changed row put in the place of the one that was there
pub put-changed : (f : Trace → Trace) (b : Rows) (i : Id) (row : Row) → IsInOrder b → row_at b i ≡ Some row → insert_entry id_cmp b i (change f row) ≡ row_changed f i b
put-changed f b i row order there =
    same_rows (insert_entry id_cmp b i (change f row)) (row_changed f i b) (in_order-put b i (change f row) order) (in_order-changed f i b order) (λ q.
    row_at-put b i (change f row) q ∙ changing f (same_id q i) row (row_at b q) (λ e. ap (row_at b) (same_id-true q i e) ∙ there) ∙ sym (row_at-changed f i b q))
