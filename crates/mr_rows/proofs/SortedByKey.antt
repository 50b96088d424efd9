-- Rows in the order of their keys, made of rows in any order, no two of which have one key.
use Rattle.std.proofs.Common.{◌≡◌, refl, sym, ap, ◌∙◌, subst, Bool, true, false, not, cond, List, [], ◌∷◌, ◌++◌, filter, ◌⊎◌, ⊎_elim, inl, inr}
use Rattle.std.specs.List.Sorted.{IsPermutation}
use Rattle.std.proofs.lemmas.List.{append-nil}
use Rattle.std.proofs.lemmas.List.Sorted.{IsPermutation-refl, IsPermutation-trans, IsPermutation-sym, IsPermutation-cons, IsPermutation-middle, IsPermutation-append_right}
use Rattle.mr_model.specs.Dropped.{Has}
use Rattle.mr_model.proofs.Members.{Sorted, sorted_filter, has_filter, filter_has, all_has}
use Rattle.mr_tables.specs.Change.{put, put_all}
use Rattle.mr_tables.specs.TableOrders.{IsOrder, InOrder}
use Rattle.mr_tables.proofs.Putting.{Lacks, OneAKey, put_has, has_put, put_in_order, put_all_in_order, put_all_has, new_has_put_all, in_order_same}

module _ {R K : Type 0} (before : K → K → Bool) (key : R → K) where
  -- no two of them have one key
  abbrev pub Apart : List R → Type 0
  Apart rows = Sorted (λ x y. key x ≡ key y → ⊥) rows

  abbrev pub ordered : List R → List R
  ordered rows = put_all before key rows []

  -- the last row of those that are put
  pub put_all-push : (xs : List R) (x : R) (rows : List R) → put_all before key (xs ++ x ∷ []) rows ≡ put before key x (put_all before key xs rows)
  put_all-push [] x rows = refl
  put_all-push (y ∷ xs) x rows = put_all-push xs x (put before key y rows)

  pub one_apart : (rows : List R) → Apart rows → OneAKey key rows
  one_apart [] apart x y a b k = absurd a
  one_apart (z ∷ zs) apart x y (inl p) (inl q) k = p ∙ sym q
  one_apart (z ∷ zs) apart x y (inl p) (inr b) k = absurd (all_has (λ w. key z ≡ key w → ⊥) y zs apart.0 b (ap key (sym p) ∙ k))
  one_apart (z ∷ zs) apart x y (inr a) (inl q) k = absurd (all_has (λ w. key z ≡ key w → ⊥) x zs apart.0 a (ap key (sym q) ∙ sym k))
  one_apart (z ∷ zs) apart x y (inr a) (inr b) k = one_apart zs apart.1 x y a b k

  module _ (o : IsOrder K before) where
    pub ordered_in_order : (xs : List R) → InOrder before key (ordered xs)
    ordered_in_order xs = put_all_in_order before key o xs [] tt

    pub ordered_has : (xs : List R) (row : R) → Has row (ordered xs) → Has row xs
    ordered_has xs row h = ⊎_elim (λ g. g) (λ p. absurd p.0) (put_all_has before key o row xs [] tt h)

    pub has_ordered : (xs : List R) → Apart xs → (row : R) → Has row xs → Has row (ordered xs)
    has_ordered xs apart row = new_has_put_all before key o row xs [] (one_apart xs apart)

    -- rows taken away by a test, before or after
    pub ordered-filter : (p : R → Bool) (xs : List R) → Apart xs → ordered (filter p xs) ≡ filter p (ordered xs)
    ordered-filter p xs apart =
        in_order_same before key o (ordered (filter p xs)) (filter p (ordered xs)) (ordered_in_order (filter p xs)) (sorted_filter _ p (ordered xs) (ordered_in_order xs))
        (λ row h. let g = filter_has p row xs (ordered_has (filter p xs) row h) in has_filter p row (ordered xs) g.1 (has_ordered xs apart row g.0))
        (λ row h. let g = filter_has p row (ordered xs) h in has_ordered (filter p xs) (sorted_filter _ p xs apart) row (has_filter p row xs g.1 (ordered_has xs row g.0)))

    -- a row put in the stead of those that pass a test, which finds rows of its key
    pub ordered-put : (q : R → Bool) (x : R) (xs : List R) → ((y : R) → q y ≡ true → key y ≡ key x) → Apart xs
        → ordered (filter (λ y. not (q y)) xs ++ x ∷ []) ≡ put before key x (ordered xs)
    ordered-put q x xs sound apart =
        let p = λ (y : R). not (q y) in
        let up = ordered_in_order xs in
        let few = sorted_filter _ p (ordered xs) up in
        put_all-push (filter p xs) x [] ∙ ap (put before key x) (ordered-filter p xs apart)
        ∙ in_order_same before key o (put before key x (filter p (ordered xs))) (put before key x (ordered xs)) (put_in_order before key o x _ few) (put_in_order before key o x _ up)
        (λ row h. has_put before key o row x (ordered xs) (more row (put_has before key o row x (filter p (ordered xs)) few h)))
        (λ row h. has_put before key o row x (filter p (ordered xs)) (fewer row (put_has before key o row x (ordered xs) up h)))
      where
        more : (row : R) → (row ≡ x) ⊎ (Has row (filter (λ y. not (q y)) (ordered xs)) × (key row ≡ key x → ⊥)) → (row ≡ x) ⊎ (Has row (ordered xs) × (key row ≡ key x → ⊥))
        more row (inl e) = inl e
        more row (inr h) = inr ((filter_has (λ y. not (q y)) row (ordered xs) h.0).0, h.1)

        fails : (row : R) (b : Bool) → q row ≡ b → (key row ≡ key x → ⊥) → not (q row) ≡ true
        fails row true e other = absurd (other (sound row e))
        fails row false e other = ap not e

        fewer : (row : R) → (row ≡ x) ⊎ (Has row (ordered xs) × (key row ≡ key x → ⊥)) → (row ≡ x) ⊎ (Has row (filter (λ y. not (q y)) (ordered xs)) × (key row ≡ key x → ⊥))
        fewer row (inl e) = inl e
        fewer row (inr h) = inr (has_filter (λ y. not (q y)) row (ordered xs) (fails row (q row) refl h.1) h.0, h.1)

    -- a row of a new key is one row more
    put_more : (x : R) (rows : List R) → Lacks key (key x) rows → IsPermutation (x ∷ rows) (put before key x rows)
    put_more x [] lacks = IsPermutation-refl (x ∷ [])
    put_more x (y ∷ ys) lacks = go (before (key x) (key y)) refl (before (key y) (key x)) refl (put_more x ys (λ z h. lacks z (inr h)))
      where
        go : (b : Bool) → before (key x) (key y) ≡ b → (c : Bool) → before (key y) (key x) ≡ c → IsPermutation (x ∷ ys) (put before key x ys)
            → IsPermutation (x ∷ y ∷ ys) (cond b (x ∷ y ∷ ys) (cond c (y ∷ put before key x ys) (x ∷ ys)))
        go true b c d ih = IsPermutation-refl (x ∷ y ∷ ys)
        go false b true d ih = IsPermutation-trans _ _ _ (IsPermutation-middle (x ∷ []) y ys) (IsPermutation-cons y (x ∷ ys) (put before key x ys) ih)
        go false b false d ih = absurd (lacks y (inl refl) (sym (o.total (key x) (key y) b d)))

    put_all_more : (xs rows : List R) → Apart xs → InOrder before key rows → ((x y : R) → Has x xs → Has y rows → key y ≡ key x → ⊥) → IsPermutation (xs ++ rows) (put_all before key xs rows)
    put_all_more [] rows apart up new = IsPermutation-refl rows
    put_all_more (x ∷ xs) rows apart up new =
        IsPermutation-trans _ _ _ (IsPermutation-sym _ _ (IsPermutation-middle xs x rows))
        (IsPermutation-trans _ _ _ (IsPermutation-append_right xs (x ∷ rows) (put before key x rows) (put_more x rows (λ y h. new x y (inl refl) h)))
        (put_all_more xs (put before key x rows) apart.1 (put_in_order before key o x rows up) (λ z y h g k. go z y h k (put_has before key o y x rows up g))))
      where
        go : (z y : R) → Has z xs → key y ≡ key z → (y ≡ x) ⊎ (Has y rows × (key y ≡ key x → ⊥)) → ⊥
        go z y h k (inl e) = all_has (λ w. key x ≡ key w → ⊥) z xs apart.0 h (ap key (sym e) ∙ k)
        go z y h k (inr a) = new z y (inr h) a.0 k

    -- each row is there once
    pub ordered_same : (xs : List R) → Apart xs → IsPermutation xs (ordered xs)
    ordered_same xs apart = subst (λ ys. IsPermutation ys (ordered xs)) (append-nil xs) (put_all_more xs [] apart tt (λ x y h g k. absurd g))
