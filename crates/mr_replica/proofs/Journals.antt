-- Rows put and taken back, and rows taken away once others are put.
use Rattle.std.proofs.Common.{◌≡◌, refl, sym, ap, ◌∙◌, subst, Bool, true, false, cond, not, ◌||◌, List, [], ◌∷◌, ◌++◌, ◌⊎◌, inl, inr, Option, Some, None, Result, Ok, Err, length, reverse, ◌<◌, arith}
use Rattle.std.specs.Prelude.{OnOk, OnErr}
use Rattle.std.specs.BTreeMap.{is_at}
use Rattle.std.specs.BTreeSet.{BTreeSet, InsertsAll}
use Rattle.std.specs.List.{filter, find, list_any}
use Rattle.std.proofs.lemmas.Bool.{true≢false, false_from_ne_true}
use Rattle.std.proofs.lemmas.List.{reverse-append}
use Rattle.mr_model.specs.Dropped.{Has}
use Rattle.mr_model.specs.Replica.{is_among}
use Rattle.mr_model.specs.Writes.{Id, same_id}
use Rattle.mr_model.proofs.Members.{filter_has, find_has, has_filter, same_id-true, same_id_from, same_id_refl, sorted_filter}
use Rattle.mr_model.proofs.UniqueReplay.{none_some}
use Rattle.mr_tables.specs.Change.{id_before, put, put_all, rows_without}
use Rattle.mr_tables.specs.TableOrders.{InOrder, id_order}
use Rattle.mr_tables.proofs.Putting.{has_put, has_without, in_order_same, put_has, put_in_order, without_has}
use Rattle.mr_base.specs.Ids.{id_cmp}
use Rattle.mr_replay.proofs.IdKeys.{at_is, same_id_equivalence}
use Rattle.mr_replica.specs.Journal.{AreSteps, IsRowStep, is_going, rows_but}
use Rattle.mr_replica.proofs.RowsById.{one_row}

-- a row that isn't found isn't there
pub lacks : {R : Type 0} (p : R → Bool) (rows : List R) → find p rows ≡ None → (y : R) → Has y rows → p y ≡ false
lacks p [] none y h = absurd h
lacks {R} p (x ∷ rows) none y h = go (p x) refl none h (lacks p rows)
  where
    go : (b : Bool) → p x ≡ b → cond b (Some x) (find p rows) ≡ None → Has y (x ∷ rows) → (find p rows ≡ None → (z : R) → Has z rows → p z ≡ false) → p y ≡ false
    go true e none h ih = absurd (none_some x (sym none))
    go false e none (inl same) ih = ap p same ∙ e
    go false e none (inr there) ih = ih none y there

module _ {R : Type 0} (id : R → Id) where
  abbrev Ordered : List R → Type 0
  Ordered rows = InOrder id_before id rows

  without_order : (gone : List Id) (rows : List R) → Ordered rows → Ordered (rows_without id gone rows)
  without_order gone rows = sorted_filter (λ x y. id_before (id x) (id y) ≡ true) (λ row. not (is_among (id row) gone)) rows

  but_order : (test : Id → Bool) (rows : List R) → Ordered rows → Ordered (rows_but id test rows)
  but_order test rows = sorted_filter (λ x y. id_before (id x) (id y) ≡ true) (λ row. not (test (id row))) rows

  abbrev found : Id → List R → Option R
  found i rows = find (λ r. same_id (id r) i) rows

  apart : (i j : Id) → (i ≡ j → ⊥) → same_id i j ≡ false
  apart i j differ = false_from_ne_true (same_id i j) (λ e. differ (same_id-true i j e))

  -- ---- a row put is taken back

  -- one that was new
  pub new_back : (x : R) (rows : List R) → Ordered rows → found (id x) rows ≡ None → rows_without id (id x ∷ []) (put id_before id x rows) ≡ rows
  new_back x rows s none =
      in_order_same id_before id id_order (rows_without id (id x ∷ []) (put id_before id x rows)) rows
      (without_order (id x ∷ []) (put id_before id x rows) (put_in_order id_before id id_order x rows s)) s to back
    where
      left : (y : R) → (Has (id y) (id x ∷ []) → ⊥) → (y ≡ x) ⊎ (Has y rows × (id y ≡ id x → ⊥)) → Has y rows
      left y f (inl e) = absurd (f (inl (ap id e)))
      left y f (inr p) = p.0

      to : (y : R) → Has y (rows_without id (id x ∷ []) (put id_before id x rows)) → Has y rows
      to y h =
          let p = without_has id (id x ∷ []) y (put id_before id x rows) h in
          left y p.1 (put_has id_before id id_order y x rows s p.0)

      other : (y : R) → Has y rows → id y ≡ id x → ⊥
      other y h e = true≢false (sym (same_id_from (id y) (id x) e) ∙ lacks (λ r. same_id (id r) (id x)) rows none y h)

      gone : (y : R) → Has y rows → Has (id y) (id x ∷ []) → ⊥
      gone y h (inl e) = other y h e
      gone y h (inr n) = n

      back : (y : R) → Has y rows → Has y (rows_without id (id x ∷ []) (put id_before id x rows))
      back y h = has_without id (id x ∷ []) y (put id_before id x rows) (has_put id_before id id_order y x rows (inr (h, other y h))) (gone y h)

  -- one that came in the place of another
  pub old_back : (x r : R) (rows : List R) → Ordered rows → found (id x) rows ≡ Some r → put id_before id r (put id_before id x rows) ≡ rows
  old_back x r rows s some =
      in_order_same id_before id id_order (put id_before id r (put id_before id x rows)) rows (put_in_order id_before id id_order r (put id_before id x rows) mid) s to back
    where
      mid : Ordered (put id_before id x rows)
      mid = put_in_order id_before id id_order x rows s

      there : Has r rows × (same_id (id r) (id x) ≡ true)
      there = find_has (λ y. same_id (id y) (id x)) r rows some

      one : id r ≡ id x
      one = same_id-true (id r) (id x) there.1

      left : (y : R) → (id y ≡ id r → ⊥) → (y ≡ x) ⊎ (Has y rows × (id y ≡ id x → ⊥)) → Has y rows
      left y differ (inl e) = absurd (differ (ap id e ∙ sym one))
      left y differ (inr p) = p.0

      from : (y : R) → (y ≡ r) ⊎ (Has y (put id_before id x rows) × (id y ≡ id r → ⊥)) → Has y rows
      from y (inl e) = subst (λ z. Has z rows) (sym e) there.0
      from y (inr p) = left y p.1 (put_has id_before id id_order y x rows s p.0)

      to : (y : R) → Has y (put id_before id r (put id_before id x rows)) → Has y rows
      to y h = from y (put_has id_before id id_order y r (put id_before id x rows) mid h)

      step : (y : R) → Has y rows → (b : Bool) → same_id (id y) (id r) ≡ b → (y ≡ r) ⊎ (Has y (put id_before id x rows) × (id y ≡ id r → ⊥))
      step y h true e = inl (one_row id rows s y r h there.0 (same_id-true (id y) (id r) e))
      step y h false e =
          let differ : id y ≡ id r → ⊥ = λ same. true≢false (sym (same_id_from (id y) (id r) same) ∙ e) in
          inr (has_put id_before id id_order y x rows (inr (h, λ same. differ (same ∙ sym one))), differ)

      back : (y : R) → Has y rows → Has y (put id_before id r (put id_before id x rows))
      back y h = has_put id_before id id_order y r (put id_before id x rows) (step y h (same_id (id y) (id r)) refl)

  -- a row that was put is found
  pub put_found : (x : R) (rows : List R) → found (id x) (put id_before id x rows) ≡ None → ⊥
  put_found x rows none = true≢false (sym (same_id_refl (id x)) ∙ lacks (λ r. same_id (id r) (id x)) (put id_before id x rows) none x (has_put id_before id id_order x x rows (inl refl)))

  -- ---- rows that are to go

  -- nothing is to go but these
  pub but_these : (test : Id → Bool) (gone : List Id) (rows : List R) → ((i : Id) → test i ≡ is_among i gone) → rows_but id test rows ≡ rows_without id gone rows
  but_these test gone rows same = λ t. rows_but id (λ i. same i t) rows

  pub but_none : (test : Id → Bool) (rows : List R) → ((i : Id) → test i ≡ false) → rows_but id test rows ≡ rows
  but_none test rows none = (λ t. rows_but id (λ i. none i t) rows) ∙ all rows
    where
      all : (rows : List R) → filter (λ r. true) rows ≡ rows
      all [] = refl
      all (x ∷ rows) = ap (λ ys. x ∷ ys) (all rows)

  -- the row that is put doesn't go any more
  pub put_but : (test next : Id → Bool) (x : R) (rows : List R) → Ordered rows → ((i : Id) → next i ≡ cond (same_id i (id x)) false (test i))
      → rows_but id next (put id_before id x rows) ≡ put id_before id x (rows_but id test rows)
  put_but test next x rows s is =
      in_order_same id_before id id_order (rows_but id next (put id_before id x rows)) (put id_before id x (rows_but id test rows))
      (but_order next (put id_before id x rows) (put_in_order id_before id id_order x rows s)) (put_in_order id_before id id_order x (rows_but id test rows) (but_order test rows s)) to back
    where
      same : (i : Id) → (i ≡ id x → ⊥) → next i ≡ test i
      same i differ = is i ∙ ap (λ b. cond b false (test i)) (apart i (id x) differ)

      left : (y : R) → not (next (id y)) ≡ true → (y ≡ x) ⊎ (Has y rows × (id y ≡ id x → ⊥)) → (y ≡ x) ⊎ (Has y (rows_but id test rows) × (id y ≡ id x → ⊥))
      left y n (inl e) = inl e
      left y n (inr p) = inr (has_filter (λ r. not (test (id r))) y rows (ap not (sym (same (id y) p.1)) ∙ n) p.0, p.1)

      to : (y : R) → Has y (rows_but id next (put id_before id x rows)) → Has y (put id_before id x (rows_but id test rows))
      to y h =
          let p = filter_has (λ r. not (next (id r))) y (put id_before id x rows) h in
          has_put id_before id id_order y x (rows_but id test rows) (left y p.1 (put_has id_before id id_order y x rows s p.0))

      stays : next (id x) ≡ false
      stays = is (id x) ∙ ap (λ b. cond b false (test (id x))) (same_id_refl (id x))

      right : (y : R) → (y ≡ x) ⊎ (Has y (rows_but id test rows) × (id y ≡ id x → ⊥)) → Has y (rows_but id next (put id_before id x rows))
      right y (inl e) =
          subst (λ z. Has z (rows_but id next (put id_before id x rows))) (sym e)
          (has_filter (λ r. not (next (id r))) x (put id_before id x rows) (ap not stays) (has_put id_before id id_order x x rows (inl refl)))
      right y (inr p) =
          let q = filter_has (λ r. not (test (id r))) y rows p.0 in
          has_filter (λ r. not (next (id r))) y (put id_before id x rows) (ap not (same (id y) p.1) ∙ q.1) (has_put id_before id id_order y x rows (inr (q.0, p.1)))

      back : (y : R) → Has y (put id_before id x (rows_but id test rows)) → Has y (rows_but id next (put id_before id x rows))
      back y h = right y (put_has id_before id id_order y x (rows_but id test rows) (but_order test rows s) h)

  -- one of those that are to go is taken away
  pub take_but : (test next : Id → Bool) (i : Id) (rows : List R) → test i ≡ true
      → ((j : Id) → next j ≡ cond (same_id j i) false (test j)) → rows_but id next (rows_without id (i ∷ []) rows) ≡ rows_but id test rows
  take_but test next i [] goes is = refl
  take_but test next i (x ∷ rows) goes is =
      go (same_id (id x) i) refl (take_but test next i rows goes is)
    where
      Rest : Type 0
      Rest = rows_but id next (rows_without id (i ∷ []) rows) ≡ rows_but id test rows

      here : same_id (id x) i ≡ true → test (id x) ≡ true
      here e = ap test (same_id-true (id x) i e) ∙ goes

      go : (b : Bool) → same_id (id x) i ≡ b → Rest → rows_but id next (cond (not (b || false)) (x ∷ rows_without id (i ∷ []) rows) (rows_without id (i ∷ []) rows))
          ≡ cond (not (test (id x))) (x ∷ rows_but id test rows) (rows_but id test rows)
      go true e ih = ih ∙ ap (λ b. cond (not b) (x ∷ rows_but id test rows) (rows_but id test rows)) (sym (here e))
      go false e ih =
          ap (λ b. cond (not b) (x ∷ rows_but id next (rows_without id (i ∷ []) rows)) (rows_but id next (rows_without id (i ∷ []) rows))) (is (id x) ∙ ap (λ b. cond b false (test (id x))) e)
          ∙ ap (λ ys. cond (not (test (id x))) (x ∷ ys) ys) ih

  -- as it is said of the same ids and rows
  pub made_of : (rows : List R) (taken gone : List Id) (given news old : List R) → rows ≡ put_all id_before id given (rows_without id taken old)
      → taken ≡ gone → given ≡ news → rows ≡ put_all id_before id news (rows_without id gone old)
  made_of rows taken gone given news old made g n = made ∙ (λ t. put_all id_before id (n t) (rows_without id (g t) old))

  -- ---- steps

  -- the last one is first
  pub last_step : (knows : R → Type 0) (steps : List (Id × Option R)) (step : Id × Option R) (before now : List R)
      → AreSteps id knows (reverse (steps ++ step ∷ [])) before now → (mid : List R) × IsRowStep id knows step mid now × AreSteps id knows (reverse steps) before mid
  last_step knows steps step before now h = subst (λ xs. AreSteps id knows xs before now) (reverse-append steps (step ∷ [])) h

  -- more keys are known
  pub steps_more : (knows more : R → Type 0) → ((r : R) → knows r → more r) → (steps : List (Id × Option R)) (before now : List R)
      → AreSteps id knows steps before now → AreSteps id more steps before now
  steps_more knows more up [] before now h = h
  steps_more knows more up (step ∷ older) before now (mid, one, rest) =
      (mid, record { row = one.row; order = one.order; put = one.put; its_id = one.its_id; old = one.old; known = λ r h. up r (one.known r h) }, steps_more knows more up older before mid rest)

-- ---- sets of ids

-- a set without this one has the others
pub at_id : (i j : Id) → is_at (id_cmp i) j ≡ same_id j i
at_id i j = (λ t. at_is t i j) ∙ same_id_equivalence.symm i j

-- those that go are put into a set that has none
pub going_all : (old new : BTreeSet Id) (gone : List Id) → old.keys ≡ [] → InsertsAll id_cmp old gone new → (i : Id) → is_going new i ≡ is_among i gone
going_all old new gone none made i = made.0 i ∙ ap (λ ids. list_any (is_at (id_cmp i)) ids || list_any (is_at (id_cmp i)) gone) none ∙ (λ t. list_any (at_is t i) gone)

pub none_going : (going : BTreeSet Id) → (0 < length going.keys → ⊥) → (i : Id) → is_going going i ≡ false
none_going going none i = go going.keys none
  where
    go : (ids : List Id) → (0 < length ids → ⊥) → list_any (is_at (id_cmp i)) ids ≡ false
    go [] none = refl
    go (x ∷ ids) none = absurd (none (omega arith))

-- ---- one step back

module _ {R : Type 0} (id : R → Id) (knows : R → Type 0) where
  -- where a row was new
  pub taken_back : (i : Id) (before now new : List R) → IsRowStep id knows (i, None) before now → new ≡ rows_without id (i ∷ []) now → new ≡ before
  taken_back i before now new step taken =
      taken ∙ ap (λ j. rows_without id (j ∷ []) now) step.its_id ∙ ap (rows_without id (id step.row ∷ [])) step.put ∙ new_back id step.row before step.order (sym step.old)

  -- where it came in the place of another, which is put again
  pub put_again : {X E : Type 0} (i : Id) (row : R) (before now new : List R) (r : Result X E) → IsRowStep id knows (i, Some row) before now
      → OnOk r (new ≡ put id_before id row now) → (knows row → OnErr r (find (λ x. same_id (id x) (id row)) now ≡ None)) → new ≡ before
  put_again {X} {E} i row before now new r step made absent = go r made (absent (step.known row there.0))
    where
      there : Has row before × (same_id (id row) (id step.row) ≡ true)
      there = find_has (λ x. same_id (id x) (id step.row)) row before (sym step.old)

      go : (r : Result X E) → OnOk r (new ≡ put id_before id row now) → OnErr r (find (λ x. same_id (id x) (id row)) now ≡ None) → new ≡ before
      go (Ok x) made absent = made ∙ ap (put id_before id row) step.put ∙ old_back id step.row row before step.order (sym step.old)
      go (Err e) made absent =
          absurd (put_found id step.row before
          (subst (λ i. find (λ x. same_id (id x) i) (put id_before id step.row before) ≡ None) (same_id-true (id row) (id step.row) there.1)
          (ap (find (λ x. same_id (id x) (id row))) (sym step.put) ∙ absent)))

  -- no step is left
  pub steps_none : (steps : List (Id × Option R)) (before now : List R) → length steps ≡ 0 → AreSteps id knows (reverse steps) before now → now ≡ before
  steps_none [] before now none h = h
  steps_none (x ∷ steps) before now none h = absurd (omega (arith, none))
