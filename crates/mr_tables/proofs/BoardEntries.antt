-- Rows put on a board, one after the other.
use Rattle.std.proofs.Common.{◌≡◌, refl, sym, ap, ◌∙◌, subst, ℕ, zero, suc, ◌+◌, ◌<◌, Bool, true, false, cond, List, [], ◌∷◌, ◌++◌, length, get_or, take, map, arith, append-nil}
use Rattle.std.proofs.lemmas.List.{take_more, map-append}
use Rattle.std.proofs.lemmas.List.Elements.{filter-append}
use Rattle.std.specs.List.{AllByRecursion, filter}
use Rattle.std.specs.BTreeMap.{insert_entry}
use Rattle.mr_model.specs.Writes.{Id}
use Rattle.mr_model.proofs.WordsReadBack.{all_append}
use Rattle.mr_base.specs.Ids.{id_cmp}
use Rattle.mr_replay.specs.declared.rows.Row.{Row}
use Rattle.mr_replay.specs.Rows.{Rows}
use Rattle.mr_tables.specs.Boards.{put_entries}

entries-push : (es : List (Id × Row)) (e : Id × Row) (b : Rows) → put_entries (es ++ e ∷ []) b ≡ insert_entry id_cmp (put_entries es b) e.0 e.1
entries-push [] e b = refl
entries-push (x ∷ xs) e b = entries-push xs e (insert_entry id_cmp b x.0 x.1)

-- one row more of a list
pub put_more : {R : Type 0} (f : R → Id × Row) (rows : List R) (k : ℕ) (row : R) (b : Rows) → k < length rows → row ≡ get_or rows k row
    → insert_entry id_cmp (put_entries (map f (take k rows)) b) (f row).0 (f row).1 ≡ put_entries (map f (take (k + 1) rows)) b
put_more f rows k row b low at =
    sym (entries-push (map f (take k rows)) (f row) b) ∙ ap (λ es. put_entries es b) (sym (map-append f (take k rows) (row ∷ [])))
    ∙ ap (λ rs. put_entries (map f rs) b) (ap (λ r. take k rows ++ r ∷ []) at ∙ sym (take_more rows k row low))

-- one row more of which those are put that pass a test
pub filter_more : {R : Type 0} (p : R → Bool) (rows : List R) (k : ℕ) (row : R) → k < length rows
    → row ≡ get_or rows k row → filter p (take k rows) ++ cond (p row) (row ∷ []) [] ≡ filter p (take (k + 1) rows)
filter_more p rows k row low at =
    sym (filter-append p (take k rows) (row ∷ [])) ∙ ap (filter p) (ap (λ r. take k rows ++ r ∷ []) at ∙ sym (take_more rows k row low))

pub put_passed : {R : Type 0} (p : R → Bool) (f : R → Id × Row) (rows : List R) (k : ℕ) (row : R) (b : Rows) → k < length rows → row ≡ get_or rows k row
    → p row ≡ true → insert_entry id_cmp (put_entries (map f (filter p (take k rows))) b) (f row).0 (f row).1 ≡ put_entries (map f (filter p (take (k + 1) rows))) b
put_passed p f rows k row b low at passed =
    sym (entries-push (map f (filter p (take k rows))) (f row) b) ∙ ap (λ es. put_entries es b) (sym (map-append f (filter p (take k rows)) (row ∷ [])))
    ∙ ap (λ c. put_entries (map f (filter p (take k rows) ++ cond c (row ∷ []) [])) b) (sym passed)
    ∙ ap (λ rs. put_entries (map f rs) b) (filter_more p rows k row low at)

pub pass_over : {R : Type 0} (p : R → Bool) (f : R → Id × Row) (rows : List R) (k : ℕ) (row : R) (b : Rows) → k < length rows
    → row ≡ get_or rows k row → p row ≡ false → put_entries (map f (filter p (take k rows))) b ≡ put_entries (map f (filter p (take (k + 1) rows))) b
pass_over p f rows k row b low at failed =
    ap (λ rs. put_entries (map f rs) b) (sym (append-nil (filter p (take k rows))) ∙ ap (λ c. filter p (take k rows) ++ cond c (row ∷ []) []) (sym failed) ∙ filter_more p rows k row low at)

-- what all rows keep, the k-th keeps
pub of_all : {R : Type 0} (P : R → Type 0) (rows : List R) (k : ℕ) (row : R) → AllByRecursion P rows → k < length rows → row ≡ get_or rows k row → P row
of_all P [] k row a low at = absurd (omega (arith, low))
of_all P (r ∷ rs) zero row a low at = subst P (sym at) a.0
of_all P (r ∷ rs) (suc k) row a low at = of_all P rs k row a.1 (let l : suc k < suc (length rs) = low in omega (arith, l)) at

-- what the rows so far keep, and one row more
pub all_more : {R : Type 0} (P : R → Type 0) (rows : List R) (k : ℕ) (row : R) → AllByRecursion P (take k rows)
    → P row → k < length rows → row ≡ get_or rows k row → AllByRecursion P (take (k + 1) rows)
all_more P rows k row so last low at =
    subst (AllByRecursion P) (ap (λ r. take k rows ++ r ∷ []) at ∙ sym (take_more rows k row low)) (all_append P (take k rows) (row ∷ []) so (last, tt))
