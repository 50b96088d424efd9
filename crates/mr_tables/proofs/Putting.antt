-- Rows put and taken away: which rows a table then has, and that its order tells it.
use Rattle.std.proofs.Common.{◌≡◌, refl, sym, ap, ◌∙◌, subst, Bool, true, false, not, cond, List, [], ◌∷◌, ◌⊎◌, inl, inr}
use Rattle.std.proofs.lemmas.Bool.{true≢false, not-true}
use Rattle.mr_model.specs.Writes.{Id}
use Rattle.mr_model.specs.Replica.{is_among}
use Rattle.mr_model.specs.Dropped.{Has}
use Rattle.mr_model.proofs.Members.{sorted_same, sorted_filter, has_filter, filter_has, all_has, has_all, has_among, not_among}
use Rattle.mr_tables.specs.Change.{put, put_all, rows_without, id_before}
use Rattle.mr_tables.specs.TableOrders.{IsOrder, InOrder, id_order}

-- no row of these has the key
abbrev pub Lacks : {R K : Type 0} → (R → K) → K → List R → Type 0
Lacks {R} key k rows = (y : R) → Has y rows → key y ≡ k → ⊥

-- ---- one row

pub put_has : {R K : Type 0} (before : K → K → Bool) (key : R → K) (o : IsOrder K before) (row x : R) (rows : List R)
    → InOrder before key rows → Has row (put before key x rows) → (row ≡ x) ⊎ (Has row rows × (key row ≡ key x → ⊥))
put_has before key o row x [] s (inl e) = inl e
put_has before key o row x [] s (inr h) = absurd h
put_has {R} {K} before key o row x (y ∷ ys) s h = go (before (key x) (key y)) refl (before (key y) (key x)) refl h (put_has before key o row x ys s.1)
  where
    later : (z : R) → before (key x) (key z) ≡ true → key z ≡ key x → ⊥
    later z b e = o.irreflexive (key x) (subst (λ k. before (key x) k ≡ true) e b)

    behind : (z : R) → before (key x) (key y) ≡ true → Has z (y ∷ ys) → before (key x) (key z) ≡ true
    behind z b (inl e) = subst (λ u. before (key x) (key u) ≡ true) (sym e) b
    behind z b (inr g) = o.transitive (key x) (key y) (key z) b (all_has (λ u. before (key y) (key u) ≡ true) z ys s.0 g)

    rest : (row ≡ x) ⊎ (Has row ys × (key row ≡ key x → ⊥)) → (row ≡ x) ⊎ (Has row (y ∷ ys) × (key row ≡ key x → ⊥))
    rest (inl e) = inl e
    rest (inr p) = inr (inr p.0, p.1)

    go : (b : Bool) → before (key x) (key y) ≡ b → (c : Bool) → before (key y) (key x) ≡ c → Has row (cond b (x ∷ y ∷ ys) (cond c (y ∷ put before key x ys) (x ∷ ys)))
        → (Has row (put before key x ys) → (row ≡ x) ⊎ (Has row ys × (key row ≡ key x → ⊥))) → (row ≡ x) ⊎ (Has row (y ∷ ys) × (key row ≡ key x → ⊥))
    go true b c d (inl e) ih = inl e
    go true b c d (inr g) ih = inr (g, later row (behind row b g))
    go false b true d (inl e) ih = inr (inl e, λ k. o.irreflexive (key x) (subst (λ u. before u (key x) ≡ true) (ap key (sym e) ∙ k) d))
    go false b true d (inr g) ih = rest (ih g)
    go false b false d (inl e) ih = inl e
    go false b false d (inr g) ih =
        inr (inr g, λ k. o.irreflexive (key y) (subst (λ u. before (key y) u ≡ true) (k ∙ o.total (key x) (key y) b d) (all_has (λ u. before (key y) (key u) ≡ true) row ys s.0 g)))

pub has_put : {R K : Type 0} (before : K → K → Bool) (key : R → K) (o : IsOrder K before) (row x : R) (rows : List R)
    → (row ≡ x) ⊎ (Has row rows × (key row ≡ key x → ⊥)) → Has row (put before key x rows)
has_put before key o row x [] (inl e) = inl e
has_put before key o row x [] (inr p) = absurd p.0
has_put {R} {K} before key o row x (y ∷ ys) h = go (before (key x) (key y)) refl (before (key y) (key x)) refl h (has_put before key o row x ys)
  where
    rest : (row ≡ x) ⊎ (Has row (y ∷ ys) × (key row ≡ key x → ⊥)) → (row ≡ y) ⊎ ((row ≡ x) ⊎ (Has row ys × (key row ≡ key x → ⊥)))
    rest (inl e) = inr (inl e)
    rest (inr (inl e, k)) = inl e
    rest (inr (inr g, k)) = inr (inr (g, k))

    step : ((row ≡ x) ⊎ (Has row ys × (key row ≡ key x → ⊥)) → Has row (put before key x ys)) → (row ≡ y) ⊎ ((row ≡ x) ⊎ (Has row ys × (key row ≡ key x → ⊥))) → Has row (y ∷ put before key x ys)
    step ih (inl e) = inl e
    step ih (inr p) = inr (ih p)

    go : (b : Bool) → before (key x) (key y) ≡ b → (c : Bool) → before (key y) (key x) ≡ c → (row ≡ x) ⊎ (Has row (y ∷ ys) × (key row ≡ key x → ⊥))
        → ((row ≡ x) ⊎ (Has row ys × (key row ≡ key x → ⊥)) → Has row (put before key x ys)) → Has row (cond b (x ∷ y ∷ ys) (cond c (y ∷ put before key x ys) (x ∷ ys)))
    go true b c d (inl e) ih = inl e
    go true b c d (inr p) ih = inr p.0
    go false b true d p ih = step ih (rest p)
    go false b false d (inl e) ih = inl e
    go false b false d (inr (inl e, k)) ih = absurd (k (ap key e ∙ sym (o.total (key x) (key y) b d)))
    go false b false d (inr (inr g, k)) ih = inr g

pub put_in_order : {R K : Type 0} (before : K → K → Bool) (key : R → K) (o : IsOrder K before) (x : R) (rows : List R) → InOrder before key rows → InOrder before key (put before key x rows)
put_in_order before key o x [] s = (tt, tt)
put_in_order {R} {K} before key o x (y ∷ ys) s = go (before (key x) (key y)) refl (before (key y) (key x)) refl (put_in_order before key o x ys s.1)
  where
    other : (z : R) → before (key y) (key x) ≡ true → (z ≡ x) ⊎ (Has z ys × (key z ≡ key x → ⊥)) → before (key y) (key z) ≡ true
    other z d (inl e) = subst (λ u. before (key y) (key u) ≡ true) (sym e) d
    other z d (inr p) = all_has (λ u. before (key y) (key u) ≡ true) z ys s.0 p.0

    go : (b : Bool) → before (key x) (key y) ≡ b → (c : Bool) → before (key y) (key x) ≡ c → InOrder before key (put before key x ys)
        → InOrder before key (cond b (x ∷ y ∷ ys) (cond c (y ∷ put before key x ys) (x ∷ ys)))
    go true b c d r = ((b, has_all (λ u. before (key x) (key u) ≡ true) ys (λ z g. o.transitive (key x) (key y) (key z) b (all_has (λ u. before (key y) (key u) ≡ true) z ys s.0 g))), s)
    go false b true d r = (has_all (λ u. before (key y) (key u) ≡ true) (put before key x ys) (λ z g. other z d (put_has before key o z x ys s.1 g)), r)
    go false b false d r = (
      has_all (λ u. before (key x) (key u) ≡ true) ys (λ z g. subst (λ k. before k (key z) ≡ true) (sym (o.total (key x) (key y) b d)) (all_has (λ u. before (key y) (key u) ≡ true) z ys s.0 g)),
      s.1,
    )

-- ---- rows one after the other

pub put_all_in_order : {R K : Type 0} (before : K → K → Bool) (key : R → K) (o : IsOrder K before) (xs rows : List R) → InOrder before key rows → InOrder before key (put_all before key xs rows)
put_all_in_order before key o [] rows s = s
put_all_in_order before key o (x ∷ xs) rows s = put_all_in_order before key o xs (put before key x rows) (put_in_order before key o x rows s)

pub put_all_has : {R K : Type 0} (before : K → K → Bool) (key : R → K) (o : IsOrder K before) (row : R) (xs rows : List R)
    → InOrder before key rows → Has row (put_all before key xs rows) → Has row xs ⊎ (Has row rows × Lacks key (key row) xs)
put_all_has before key o row [] rows s h = inr (h, λ y g k. absurd g)
put_all_has {R} {K} before key o row (x ∷ xs) rows s h = go (put_all_has before key o row xs (put before key x rows) (put_in_order before key o x rows s) h)
  where
    more : Lacks key (key row) xs → (row ≡ x) ⊎ (Has row rows × (key row ≡ key x → ⊥)) → Has row (x ∷ xs) ⊎ (Has row rows × Lacks key (key row) (x ∷ xs))
    more f (inl e) = inl (inl e)
    more f (inr p) = inr (p.0, each)
      where
        each : (y : R) → Has y (x ∷ xs) → key y ≡ key row → ⊥
        each y (inl e) k = p.1 (sym k ∙ ap key e)
        each y (inr g) k = f y g k

    go : Has row xs ⊎ (Has row (put before key x rows) × Lacks key (key row) xs) → Has row (x ∷ xs) ⊎ (Has row rows × Lacks key (key row) (x ∷ xs))
    go (inl g) = inl (inr g)
    go (inr p) = more p.1 (put_has before key o row x rows s p.0)

pub old_has_put_all : {R K : Type 0} (before : K → K → Bool) (key : R → K) (o : IsOrder K before) (row : R) (xs rows : List R)
    → Has row rows → Lacks key (key row) xs → Has row (put_all before key xs rows)
old_has_put_all before key o row [] rows h f = h
old_has_put_all before key o row (x ∷ xs) rows h f =
    old_has_put_all before key o row xs (put before key x rows) (has_put before key o row x rows (inr (h, λ k. f x (inl refl) (sym k)))) (λ y g. f y (inr g))

-- of rows with one key all are the same
abbrev pub OneAKey : {R K : Type 0} → (R → K) → List R → Type 0
OneAKey {R} key xs = (x y : R) → Has x xs → Has y xs → key x ≡ key y → x ≡ y

-- a row whose key does not come with another row stays
put_stays : {R K : Type 0} (before : K → K → Bool) (key : R → K) (o : IsOrder K before) (x : R) (ys zs : List R) → OneAKey key (x ∷ ys) → Has x zs → Has x (put_all before key ys zs)
put_stays before key o x [] zs g a = a
put_stays {R} {K} before key o x (y ∷ ys) zs g a =
    put_stays before key o x ys (put before key y zs) (λ u v p q k. g u v (over u p) (over v q) k) (kept (before (key x) (key y)) refl (before (key y) (key x)) refl)
  where
    over : (u : R) → Has u (x ∷ ys) → Has u (x ∷ y ∷ ys)
    over u (inl e) = inl e
    over u (inr p) = inr (inr p)

    kept : (b : Bool) → before (key x) (key y) ≡ b → (c : Bool) → before (key y) (key x) ≡ c → Has x (put before key y zs)
    kept true b c d = has_put before key o x y zs (inr (a, λ e. o.irreflexive (key x) (subst (λ k. before (key x) k ≡ true) (sym e) b)))
    kept false b true d = has_put before key o x y zs (inr (a, λ e. o.irreflexive (key x) (subst (λ k. before k (key x) ≡ true) (sym e) d)))
    kept false b false d = has_put before key o x y zs (inl (g x y (inl refl) (inr (inl refl)) (o.total (key x) (key y) b d)))

pub new_has_put_all : {R K : Type 0} (before : K → K → Bool) (key : R → K) (o : IsOrder K before) (row : R) (xs rows : List R) → OneAKey key xs → Has row xs → Has row (put_all before key xs rows)
new_has_put_all before key o row [] rows f h = absurd h
new_has_put_all before key o row (x ∷ xs) rows f (inl e) =
    subst (λ r. Has r (put_all before key xs (put before key x rows))) (sym e) (put_stays before key o x xs (put before key x rows) f (has_put before key o x x rows (inl refl)))
new_has_put_all before key o row (x ∷ xs) rows f (inr g) = new_has_put_all before key o row xs (put before key x rows) (λ y z a b k. f y z (inr a) (inr b) k) g

-- ---- a table is told by its rows

pub in_order_same : {R K : Type 0} (before : K → K → Bool) (key : R → K) (o : IsOrder K before) (xs ys : List R) → InOrder before key xs
    → InOrder before key ys → ((row : R) → Has row xs → Has row ys) → ((row : R) → Has row ys → Has row xs) → xs ≡ ys
in_order_same before key o xs ys s t f g =
    sorted_same (λ x y. before (key x) (key y) ≡ true) (λ x. o.irreflexive (key x)) (λ x y z. o.transitive (key x) (key y) (key z)) xs ys s t f g

pub one_a_key : {R K : Type 0} (before : K → K → Bool) (key : R → K) (o : IsOrder K before) (rows : List R) → InOrder before key rows → OneAKey key rows
one_a_key before key o [] s x y a b k = absurd a
one_a_key before key o (z ∷ zs) s x y (inl p) (inl q) k = p ∙ sym q
one_a_key before key o (z ∷ zs) s x y (inl p) (inr b) k =
    absurd (o.irreflexive (key z) (subst (λ u. before (key z) u ≡ true) (sym k ∙ ap key p) (all_has (λ u. before (key z) (key u) ≡ true) y zs s.0 b)))
one_a_key before key o (z ∷ zs) s x y (inr a) (inl q) k = absurd (o.irreflexive (key z) (subst (λ u. before (key z) u ≡ true) (k ∙ ap key q) (all_has (λ u. before (key z) (key u) ≡ true) x zs s.0 a)))
one_a_key before key o (z ∷ zs) s x y (inr a) (inr b) k = one_a_key before key o zs s.1 x y a b k

pub key_or_lacks : {R K : Type 0} (before : K → K → Bool) (key : R → K) (o : IsOrder K before) (k : K) (xs : List R) → ((y : R) × Has y xs × (key y ≡ k)) ⊎ Lacks key k xs
key_or_lacks before key o k [] = inr (λ y h e. absurd h)
key_or_lacks {R} {K} before key o k (x ∷ xs) = go (before (key x) k) refl (before k (key x)) refl (key_or_lacks before key o k xs)
  where
    other : (key x ≡ k → ⊥) → ((y : R) × Has y xs × (key y ≡ k)) ⊎ Lacks key k xs → ((y : R) × Has y (x ∷ xs) × (key y ≡ k)) ⊎ Lacks key k (x ∷ xs)
    other ne (inl (y, h, e)) = inl (y, inr h, e)
    other ne (inr l) = inr each
      where
        each : (y : R) → Has y (x ∷ xs) → key y ≡ k → ⊥
        each y (inl e) s = ne (ap key (sym e) ∙ s)
        each y (inr h) s = l y h s

    go : (b : Bool) → before (key x) k ≡ b → (c : Bool) → before k (key x) ≡ c → ((y : R) × Has y xs × (key y ≡ k)) ⊎ Lacks key k xs → ((y : R) × Has y (x ∷ xs) × (key y ≡ k)) ⊎ Lacks key k (x ∷ xs)
    go true b c d ih = other (λ e. o.irreflexive k (subst (λ u. before u k ≡ true) e b)) ih
    go false b true d ih = other (λ e. o.irreflexive k (subst (λ u. before k u ≡ true) e d)) ih
    go false b false d ih = inl (x, inl refl, o.total (key x) k b d)

-- putting rows makes a table of an old one, where these are rows of it, and so are all old rows but those with their keys, and it has
-- no others
pub puts_make : {R K : Type 0} (before : K → K → Bool) (key : R → K) (o : IsOrder K before) (xs old new : List R) → InOrder before key old
    → InOrder before key new → ((row : R) → Has row xs → Has row new) → ((row : R) → Has row old → Lacks key (key row) xs → Has row new)
    → ((row : R) → Has row new → Has row xs ⊎ Has row old) → put_all before key xs old ≡ new
puts_make {R} before key o xs old new s t f g h =
    in_order_same before key o (put_all before key xs old) new (put_all_in_order before key o xs old s) t
    (λ row a. there row (put_all_has before key o row xs old s a))
    (λ row a. back row a (h row a))
  where
    one : OneAKey key new
    one = one_a_key before key o new t

    put_there : (row : R) → Has row xs → Has row (put_all before key xs old)
    put_there row b = new_has_put_all before key o row xs old (λ x y p q k. one x y (f x p) (f y q) k) b

    there : (row : R) → Has row xs ⊎ (Has row old × Lacks key (key row) xs) → Has row new
    there row (inl a) = f row a
    there row (inr p) = g row p.0 p.1

    -- a row of the new table that isn't put has none of the keys put, for those rows are of the new table too
    back : (row : R) → Has row new → Has row xs ⊎ Has row old → Has row (put_all before key xs old)
    back row a (inl b) = put_there row b
    back row a (inr b) = go (key_or_lacks before key o (key row) xs)
      where
        go : ((y : R) × Has y xs × (key y ≡ key row)) ⊎ Lacks key (key row) xs → Has row (put_all before key xs old)
        go (inl (y, p, k)) = put_there row (subst (λ z. Has z xs) (one y row (f y p) a k) p)
        go (inr l) = old_has_put_all before key o row xs old b l

-- ---- rows taken away

-- none taken away
pub without_none : {R : Type 0} (key : R → Id) (rows : List R) → rows_without key [] rows ≡ rows
without_none key [] = refl
without_none key (row ∷ rows) = ap (λ more. row ∷ more) (without_none key rows)

pub without_has : {R : Type 0} (key : R → Id) (gone : List Id) (row : R) (rows : List R) → Has row (rows_without key gone rows) → Has row rows × (Has (key row) gone → ⊥)
without_has key gone row rows h =
    let p = filter_has (λ r. not (is_among (key r) gone)) row rows h in
    (p.0, λ a. true≢false (sym (has_among (key row) gone a) ∙ not-true (is_among (key row) gone) p.1))

pub has_without : {R : Type 0} (key : R → Id) (gone : List Id) (row : R) (rows : List R) → Has row rows → (Has (key row) gone → ⊥) → Has row (rows_without key gone rows)
has_without key gone row rows h f = has_filter (λ r. not (is_among (key r) gone)) row rows (ap not (not_among (key row) gone f)) h

-- the same where rows are taken away first
pub change_makes : {R : Type 0} (key : R → Id) (gone : List Id) (xs old new : List R) → InOrder id_before key old → InOrder id_before key new
    → ((row : R) → Has row xs → Has row new) → ((row : R) → Has row old → Lacks key (key row) xs → (Has (key row) gone → ⊥) → Has row new)
    → ((row : R) → Has row new → Has row xs ⊎ (Has row old × (Has (key row) gone → ⊥))) → put_all id_before key xs (rows_without key gone old) ≡ new
change_makes {R} key gone xs old new s t f g h =
    puts_make id_before key id_order xs (rows_without key gone old) new
    (sorted_filter (λ x y. id_before (key x) (key y) ≡ true) (λ row. not (is_among (key row) gone)) old s) t f
    (λ row a l. let p = without_has key gone row old a in g row p.0 l p.1)
    (λ row a. go row (h row a))
  where
    go : (row : R) → Has row xs ⊎ (Has row old × (Has (key row) gone → ⊥)) → Has row xs ⊎ Has row (rows_without key gone old)
    go row (inl a) = inl a
    go row (inr p) = inr (has_without key gone row old p.0 p.1)
