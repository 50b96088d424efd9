-- Kept writes in a map by their ids: how it is filled, what it has, and its writes in the order of execution.
use Rattle.std.proofs.Common.{◌≡◌, refl, sym, ap, ◌∙◌, subst, append_assoc, ℕ, suc, arith, Bool, true, false, cond, List, [], ◌∷◌, ◌++◌, length, Option, Some, None, map, inl, inr}
use Rattle.std.specs.declared.cmp.Ordering.TheVariants.{Less}
use Rattle.std.specs.BTreeMap.{IsOrdered, Updates, is_at}
use Rattle.std.specs.List.{filter, slice_get}
use Rattle.std.specs.List.Sorted.{IsPermutation, IsSortedByKey, IsStrictlySortedBy}
use Rattle.std.specs.Map.{keys_of, values_of}
use Rattle.std.specs.Option.{option_map}
use Rattle.std.proofs.lemmas.Map.Entries.{btree_map_get_place, place_from_lookup}
use Rattle.std.proofs.lemmas.Map.Keys.{sorted_head, sorted_tail}
use Rattle.mr_model.specs.Writes.{Id, Write, id_of, same_id}
use Rattle.mr_model.specs.Replica.{Replica, IsReplica}
use Rattle.mr_model.specs.Dropped.{Has}
use Rattle.mr_model.specs.Kept.{LogBefore, AreInRunOrder, kept_in_order}
use Rattle.mr_model.specs.Tables.{log_row}
use Rattle.mr_model.proofs.KnownById.{one_known}
use Rattle.mr_model.proofs.LogOrder.{kept_is_the_log}
use Rattle.mr_model.proofs.DroppedApart.{kept_known}
use Rattle.mr_model.proofs.Members.{all_has, has_all, has_map, map_has, filter_has, find_one, find_has, slice_has, same_id-true, same_id_refl, Sorted, sorted_filter}
use Rattle.mr_base.specs.Ids.{id_cmp}
use Rattle.mr_replay.proofs.IdKeys.{at_is, ids_total}
use Rattle.mr_part.specs.declared.kept_rows.KeptRow.{KeptRow}
use Rattle.mr_part.specs.Candidate.{write_with_id}
use Rattle.mr_part.specs.KeptRows.{kept_row, run_place, run_cmp}
use Rattle.mr_part.specs.KeptWrites.{KeptWrites, logged_at, HasKept, held_row}
use Rattle.mr_part.proofs.KeptOrder.{run_order, before_less}
use Rattle.mr_part.proofs.Sorting.{Rises, irreflexive, sorted_is}

-- ---- what the map has

-- the write of a look-up
pub write_told : (a r : Replica) (o : Option Write) → option_map (λ (x : KeptRow). x.write) (option_map (held_row a r) o) ≡ o
write_told a r None = refl
write_told a r (Some w) = refl

-- one write more, which stands before those so far
kept_more : (old new : KeptWrites) (row : Write → KeptRow) (w : Write) (there : List Write) → Updates id_cmp old new (id_of w) (Some (row w)) → HasKept old row there → HasKept new row (w ∷ there)
kept_more old new row w there put had = λ id. put.0 id ∙ (λ t. cond (at_is t (id_of w) id) (Some (row w)) (had id t)) ∙ go id (same_id (id_of w) id)
  where
    go : (id : Id) (b : Bool) → cond b (Some (row w)) (option_map row (write_with_id there id)) ≡ option_map row (cond b (Some w) (write_with_id there id))
    go id true = refl
    go id false = refl

-- behind the rows that are left stand those whose writes the map has
abbrev pub IsFilled : List KeptRow → List KeptRow → KeptWrites → Type 0
IsFilled rows left kept = (there : List KeptRow) × (left ++ there ≡ rows) × ((a : Replica) (ws : List Write) → there ≡ map (kept_row a) ws → HasKept kept (kept_row a) ws)

-- the one that is taken from their end stands before those that the map has
pub filled_more : (rows : List KeptRow) (old new : KeptWrites) (was left : List KeptRow) (x : KeptRow) (k : Id)
    → IsFilled rows was old → was ≡ left ++ x ∷ [] → k ≡ id_of x.write → Updates id_cmp old new k (Some x) → IsFilled rows left new
filled_more rows old new was left x k filled last key put =
    let (there, parts, has) = filled in (
      x ∷ there,
      sym (append_assoc left (x ∷ []) there) ∙ ap (λ xs. xs ++ there) (sym last) ∙ parts,
      more there has,
    )
  where
    more : (there : List KeptRow) → ((a : Replica) (ws : List Write) → there ≡ map (kept_row a) ws → HasKept old (kept_row a) ws)
        → (a : Replica) (ws : List Write) → x ∷ there ≡ map (kept_row a) ws → HasKept new (kept_row a) ws
    more there has a [] e = absurd (let n : suc (length there) ≡ 0 = ap length e in omega arith)
    more there has a (w ∷ ws) e =
        let first : x ≡ kept_row a w = cc in
        let rest : there ≡ map (kept_row a) ws = cc in
        let at : k ≡ id_of w = key ∙ ap (λ (r : KeptRow). id_of r.write) first in
        kept_more old new (kept_row a) w ws (subst (λ v. Updates id_cmp old new (id_of w) (Some v)) first (subst (λ i. Updates id_cmp old new i (Some x)) at put)) (has a ws rest)

-- ---- in the order of execution

-- values of rising keys, each of which is the id of its value
abbrev ValueBefore : KeptRow → KeptRow → Type 0
ValueBefore x y = id_cmp (id_of x.write) (id_of y.write) ≡ Less

values_rise : (es : List (Id × KeptRow)) → IsStrictlySortedBy id_cmp (keys_of es) → ((e : Id × KeptRow) → Has e es → e.0 ≡ id_of e.1.write) → Sorted ValueBefore (values_of es)
values_rise [] s f = tt
values_rise (e ∷ es) s f = (
  has_all (ValueBefore e.1) (values_of es) (λ x h.
      let (d, g, is) = map_has (λ (u : Id × KeptRow). u.1) x es h in
      let less : id_cmp e.0 d.0 ≡ Less = all_has (λ k. id_cmp e.0 k ≡ Less) d.0 (keys_of es) (sorted_head id_cmp e.0 (keys_of es) s) (has_map (λ (u : Id × KeptRow). u.0) d es g) in
      subst (λ (y : KeptRow). id_cmp (id_of e.1.write) (id_of y.write) ≡ Less) (sym is) ((λ i. id_cmp (sym (f e (inl refl)) i) (sym (f d (inr g)) i)) ∙ less)),
  values_rise es (sorted_tail id_cmp e.0 (keys_of es) s) (λ d h. f d (inr h)),
)

pub place_of_entry : {A : Type 0} (xs : List A) (x : A) → Has x xs → (i : ℕ) × (slice_get xs i ≡ Some x)
place_of_entry [] x h = absurd h
place_of_entry (y ∷ ys) x (inl e) = (0, ap Some (sym e))
place_of_entry (y ∷ ys) x (inr h) = let (i, e) = place_of_entry ys x h in (suc i, e)

-- writes in the order of execution stay so where some are left out
abbrev RunBefore : Replica → Write → Write → Type 0
RunBefore a v w = LogBefore (log_row a v) (log_row a w)

runs : (a : Replica) (ws : List Write) → AreInRunOrder (map (log_row a) ws) → Sorted (RunBefore a) ws
runs a [] s = tt
runs a (w ∷ ws) s = (has_all (RunBefore a w) ws (λ v h. all_has (LogBefore (log_row a w)) (log_row a v) (map (log_row a) ws) s.0 (has_map (log_row a) v ws h)), runs a ws s.1)

run_rise : (o a : Replica) (ws : List Write) → Sorted (RunBefore a) ws → Rises run_cmp run_place (map (held_row o a) ws)
run_rise o a [] s = tt
run_rise o a (w ∷ ws) s = (
  has_all (λ x. run_cmp (run_place (held_row o a w)) (run_place x) ≡ Less) (map (held_row o a) ws) (λ x h.
      let (v, g, e) = map_has (held_row o a) x ws h in
      subst (λ y. run_cmp (run_place (held_row o a w)) (run_place y) ≡ Less) (sym e) (before_less (log_row a w) (log_row a v) (all_has (RunBefore a w) v ws s.0 g))),
  run_rise o a ws s.1,
)

module _ (o a : Replica) (inside : Write → Bool) (kept : KeptWrites) (sound : IsReplica a) (ordered : IsOrdered id_cmp kept) (has : HasKept kept (held_row o a) (filter inside (kept_in_order a))) where
  abbrev ws : List Write
  ws = filter inside (kept_in_order a)

  known : (w : Write) → Has w ws → Has w a.known
  known w h = (kept_known a w sound (filter_has inside w (kept_in_order a) h).0).0

  found : (w : Write) → Has w ws → logged_at kept (id_of w) ≡ Some (held_row o a w)
  found w h =
      has (id_of w)
      ∙ ap (option_map (held_row o a))
      (find_one (λ v. same_id (id_of v) (id_of w)) w ws h (same_id_refl (id_of w)) (λ v g s. one_known a v w sound (known v g) (known w h) (same_id-true (id_of v) (id_of w) s)))

  -- each entry is that of a write
  entry_is : (id : Id) (x : KeptRow) → Has (id, x) kept.entries → (w : Write) × Has w ws × (x ≡ held_row o a w) × (id ≡ id_of w)
  entry_is id x h =
      let (i, at) = place_of_entry kept.entries (id, x) h in
      go (write_with_id ws id) refl (sym (has id) ∙ btree_map_get_place ids_total kept i id x ordered at)
    where
      go : (found : Option Write) → write_with_id ws id ≡ found → option_map (held_row o a) found ≡ Some x → (w : Write) × Has w ws × (x ≡ held_row o a w) × (id ≡ id_of w)
      go None e f = absurd (let g : ◌≡◌ {A = Option KeptRow} None (Some x) = f in let never : ⊥ = cc in never)
      go (Some w) e f =
          let there = find_has (λ v. same_id (id_of v) id) w ws e in
          let same : held_row o a w ≡ x = let g : ◌≡◌ {A = Option KeptRow} (Some (held_row o a w)) (Some x) = f in cc in
          (w, there.0, sym same, sym (same_id-true (id_of w) id there.1))

  pub run_sorted : (sorted : List KeptRow) → IsPermutation (values_of kept.entries) sorted → IsSortedByKey run_place run_cmp sorted → sorted ≡ map (held_row o a) ws
  run_sorted sorted moved s =
      sorted_is run_cmp run_order run_place ValueBefore (λ x e. never (id_of x.write) e) (values_of kept.entries) sorted (map (held_row o a) ws)
      (values_rise kept.entries ordered (λ e h. let (w, g, is, k) = entry_is e.0 e.1 h in k ∙ ap (λ (y : KeptRow). id_of y.write) (sym is))) moved s
      (run_rise o a ws (sorted_filter (RunBefore a) inside (kept_in_order a) (runs a (kept_in_order a) (kept_is_the_log a sound).in_order)))
      (λ x h.
      let (e, g, is) = map_has (λ (u : Id × KeptRow). u.1) x kept.entries h in
      let (w, there, e_is, k) = entry_is e.0 e.1 g in
      subst (λ y. Has y (map (held_row o a) ws)) (sym (is ∙ e_is)) (has_map (held_row o a) w ws there))
      (λ x h.
      let (w, g, is) = map_has (held_row o a) x ws h in
      let (i, id, at, t) = place_from_lookup (is_at (id_cmp (id_of w))) kept.entries (held_row o a w) (found w g) in
      subst (λ y. Has y (values_of kept.entries)) (sym is) (has_map (λ (u : Id × KeptRow). u.1) (id, held_row o a w) kept.entries (slice_has kept.entries i (id, held_row o a w) at)))
    where
      never : (id : Id) → id_cmp id id ≡ Less → ⊥
      never id e = irreflexive id_cmp ids_total id e
