-- Rows that are read one by one: some of them done, those that pass a test, and what all rows that are picked keep.
use Rattle.std.proofs.Common.{◌≡◌, refl, sym, ap, ◌∙◌, subst, ℕ, zero, suc, ◌+◌, ◌<◌, Bool, true, false, cond, List}
use Rattle.std.proofs.Common.{[], ◌∷◌, ◌++◌, length, get_or, take, map, inl, append_assoc, append-nil, arith, drop}
use Rattle.std.proofs.lemmas.Bool.{true≢false, cond-true, cond-false}
use Rattle.std.specs.List.{AllByRecursion, filter}
use Rattle.mr_model.specs.Dropped.{Has}
use Rattle.mr_model.proofs.Members.{has_right}
use Rattle.mr_model.proofs.WordsReadBack.{all_append}
use Rattle.mr_tables.proofs.BoardEntries.{filter_more}
use Rattle.std.proofs.lemmas.List.{drop_more}

-- some of these are done, and the rows are those of the others
pub record IsDone {X R : Type 0} (f : X → R) (xs done : List X) (rows : List R) : Type 0 where
  pub rest : List X
  pub parts : done ++ rest ≡ xs
  pub rows_are : rows ≡ map f rest

-- the first row that is left is that of one of these, and when this is done the others are left
pub record IsFirst {X R : Type 0} (f : X → R) (xs done : List X) (row : R) (rows : List R) : Type 0 where
  pub first : X
  pub has : Has first xs
  pub row_is : row ≡ f first
  pub next : IsDone f xs (done ++ first ∷ []) rows

pub first_left : {X R : Type 0} (f : X → R) (xs done : List X) (row : R) (rows : List R) → IsDone f xs done (row ∷ rows) → IsFirst f xs done row rows
first_left {X} {R} f xs done row rows d = go d.rest d.parts d.rows_are
  where
    go : (rest : List X) → done ++ rest ≡ xs → row ∷ rows ≡ map f rest → IsFirst f xs done row rows
    go [] p e = absurd (let g : ◌≡◌ {A = List R} (row ∷ rows) [] = e in let never : ⊥ = cc in never)
    go (x ∷ rest) p e =
        let g : ◌≡◌ {A = List R} (row ∷ rows) (f x ∷ map f rest) = e in
        record {
          first = x;
          has = subst (Has x) p (has_right x done (x ∷ rest) (inl refl));
          row_is = (let h : row ≡ f x = cc in h);
          next = record { rest = rest; parts = append_assoc done (x ∷ []) rest ∙ p; rows_are = (let h : rows ≡ map f rest = cc in h) };
        }

-- where no row is left all are done
pub all_done : {X R : Type 0} (f : X → R) (xs done : List X) → IsDone f xs done [] → done ≡ xs
all_done {X} {R} f xs done d = go d.rest d.parts d.rows_are
  where
    go : (rest : List X) → done ++ rest ≡ xs → [] ≡ map f rest → done ≡ xs
    go [] p e = sym (append-nil done) ∙ p
    go (x ∷ rest) p e = absurd (let g : ◌≡◌ {A = List R} [] (f x ∷ map f rest) = e in let never : ⊥ = cc in never)

-- what all rows that are picked keep, each of them keeps
pub of_picked : {R : Type 0} (P : R → Type 0) (p : R → Bool) (rows : List R) (k : ℕ) (row : R) → AllByRecursion P (filter p rows) → k < length rows → row ≡ get_or rows k row → p row ≡ true → P row
of_picked P p [] k row all low at passed = absurd (omega (arith, low))
of_picked P p (r ∷ rs) zero row all low at passed = subst P (sym at) (go (p r) (ap p (sym at) ∙ passed) all)
  where
    go : (b : Bool) → b ≡ true → AllByRecursion P (cond b (r ∷ filter p rs) (filter p rs)) → P r
    go true e a = a.0
    go false e a = absurd (true≢false (sym e))
of_picked P p (r ∷ rs) (suc k) row all low at passed = of_picked P p rs k row (go (p r) all) (let l : suc k < suc (length rs) = low in omega (arith, l)) at passed
  where
    go : (b : Bool) → AllByRecursion P (cond b (r ∷ filter p rs) (filter p rs)) → AllByRecursion P (filter p rs)
    go true a = a.1
    go false a = a

-- what those of the rows so far keep that are picked, and one row more that is picked, or isn't
pub all_passed : {R : Type 0} (P : R → Type 0) (p : R → Bool) (rows : List R) (k : ℕ) (row : R) → AllByRecursion P (filter p (take k rows))
    → P row → k < length rows → row ≡ get_or rows k row → p row ≡ true → AllByRecursion P (filter p (take (k + 1) rows))
all_passed P p rows k row so one low at passed =
    subst (AllByRecursion P) (ap (λ c. filter p (take k rows) ++ cond c (row ∷ []) []) (sym passed) ∙ filter_more p rows k row low at) (all_append P (filter p (take k rows)) (row ∷ []) so (one, tt))

pub all_over : {R : Type 0} (P : R → Type 0) (p : R → Bool) (rows : List R) (k : ℕ) (row : R) → AllByRecursion P (filter p (take k rows))
    → k < length rows → row ≡ get_or rows k row → p row ≡ false → AllByRecursion P (filter p (take (k + 1) rows))
all_over P p rows k row so low at failed =
    subst (AllByRecursion P) (sym (append-nil (filter p (take k rows))) ∙ ap (λ c. filter p (take k rows) ++ cond c (row ∷ []) []) (sym failed) ∙ filter_more p rows k row low at) so

-- the row at this place comes next, and is picked
pub picked_here : {R : Type 0} (p : R → Bool) (rows : List R) (k : ℕ) (row : R) → k < length rows → row ≡ get_or rows k row → p row ≡ true → filter p (drop k rows) ≡ row ∷ filter p (drop (k + 1) rows)
picked_here p rows k row l at t =
    ap (filter p) (drop_more rows k row l ∙ ap (λ r. r ∷ drop (k + 1) rows) (sym at))
    ∙ cond-true (p row) (row ∷ filter p (drop (k + 1) rows)) (filter p (drop (k + 1) rows)) t

-- or is not
pub left_here : {R : Type 0} (p : R → Bool) (rows : List R) (k : ℕ) (row : R) → k < length rows → row ≡ get_or rows k row → p row ≡ false → filter p (drop k rows) ≡ filter p (drop (k + 1) rows)
left_here p rows k row l at f =
    ap (filter p) (drop_more rows k row l ∙ ap (λ r. r ∷ drop (k + 1) rows) (sym at))
    ∙ cond-false (p row) (row ∷ filter p (drop (k + 1) rows)) (filter p (drop (k + 1) rows)) f
