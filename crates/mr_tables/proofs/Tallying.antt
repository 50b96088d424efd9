-- The tallies that the vector of a replica tells are its own.
use Rattle.std.proofs.Common.{◌≡◌, refl, sym, ap, ◌∙◌, ℕ, zero, suc, ◌+◌, ◌<◌, ◌≤◌, Bool, true, false, cond, eqb, List, [], ◌∷◌}
use Rattle.std.proofs.Common.{◌++◌, length, get_or, take, map, ◌⊎◌, inl, inr, arith, eq-eqb, eqb-true, leb, leb-true, IsTrue, ◌≢◌}
use Rattle.std.proofs.lemmas.Bool.{true≢false, and_parts, cond-true, cond-false, false_from_ne_true, cases_eq}
use Rattle.std.proofs.lemmas.List.{take_more}
use Rattle.std.specs.Prelude.{flat_map, slice_set}
use Rattle.mr_model.specs.Texts.{numbers_on}
use Rattle.mr_model.specs.Writes.{Write, is_server}
use Rattle.mr_model.specs.Replica.{Replica, IsReplica, count_of, writes_of, greatest, last_time, committed_count}
use Rattle.mr_model.specs.Tables.{VectorRow, vector_row, tables_of}
use Rattle.mr_model.proofs.TablesTell.{vector_entry, counted_server}
use Rattle.mr_tables.specs.declared.summary.Tally.{Tally}
use Rattle.mr_tables.specs.Summary.{no_tally, tally_of}
use Rattle.mr_tables.specs.Tallied.{row_tally, tallied}
use Rattle.mr_tables.proofs.Summaries.{set_numbered}

-- one row more
pub tallied-push : (rows : List VectorRow) (row : VectorRow) (f : ℕ → Tally) (s : ℕ) → tallied (rows ++ row ∷ []) f s ≡ cond (eqb s row.server) (row_tally row) (tallied rows f s)
tallied-push [] row f s = refl
tallied-push (x ∷ xs) row f s = tallied-push xs row (λ t. cond (eqb t x.server) (row_tally x) (f t)) s

-- of a server of which nothing is known nothing is told
nothing : (a : Replica) (s : ℕ) → IsReplica a → count_of a s ≡ 0 → tally_of a s ≡ no_tally
nothing a s h z =
    let known : committed_count a s ≤ count_of a s = h.commits_known s in
    let none : committed_count a s ≡ 0 = omega (arith, known, z) in
    let last : last_time a s ≡ 0 = go (writes_of s a.known) z in
    λ i. record { count = z i; last_time = last i; committed = none i }
  where
    go : (ws : List Write) → length ws ≡ 0 → greatest (map (λ w. w.stamp.time) ws) ≡ 0
    go [] e = refl
    go (w ∷ ws) e = absurd (let n : suc (length ws) ≡ 0 = e in omega (arith, n))

-- the rows of servers from k on tell nothing of one before
before_rows : (a : Replica) (k n s : ℕ) (f : ℕ → Tally) → s < k → tallied (flat_map (vector_row a) (numbers_on k n)) f s ≡ f s
before_rows a k zero s f l = refl
before_rows a k (suc n) s f l = go (eqb (count_of a k) 0) (λ g. before_rows a (k + 1) n s g (omega (arith, l)))
  where
    go : (b : Bool) → ((g : ℕ → Tally) → tallied (flat_map (vector_row a) (numbers_on (k + 1) n)) g s ≡ g s)
        → tallied (cond b [] (vector_entry a k ∷ []) ++ flat_map (vector_row a) (numbers_on (k + 1) n)) f s ≡ f s
    go true ih = ih f
    go false ih =
        ih (λ t. cond (eqb t k) (tally_of a k) (f t))
        ∙ cond-false (eqb s k) (tally_of a k) (f s) (false_from_ne_true (eqb s k) (λ e. let n = eqb-true s k e in omega (arith, l, n)))

all_rows : (a : Replica) (k n s : ℕ) (f : ℕ → Tally) → IsReplica a → k ≤ s → s < k + n → f s ≡ no_tally → tallied (flat_map (vector_row a) (numbers_on k n)) f s ≡ tally_of a s
all_rows a k zero s f h low high e = absurd (omega (arith, low, high))
all_rows a k (suc n) s f h low high e = go (cases_eq s k) (eqb (count_of a k) 0) refl (λ g m. all_rows a (k + 1) n s g h m (omega (arith, high)))
  where
    go : (s ≡ k) ⊎ (s ≡ k → ⊥) → (b : Bool) → eqb (count_of a k) 0 ≡ b
        → ((g : ℕ → Tally) → k + 1 ≤ s → g s ≡ no_tally → tallied (flat_map (vector_row a) (numbers_on (k + 1) n)) g s ≡ tally_of a s)
        → tallied (cond b [] (vector_entry a k ∷ []) ++ flat_map (vector_row a) (numbers_on (k + 1) n)) f s ≡ tally_of a s
    go (inl same) true z ih =
        before_rows a (k + 1) n s f (omega (arith, same)) ∙ e
        ∙ sym (nothing a s h (ap (count_of a) same ∙ eqb-true (count_of a k) 0 z))
    go (inl same) false z ih =
        before_rows a (k + 1) n s (λ t. cond (eqb t k) (tally_of a k) (f t)) (omega (arith, same))
        ∙ cond-true (eqb s k) (tally_of a k) (f s) (eq-eqb s k same) ∙ ap (tally_of a) (sym same)
    go (inr other) true z ih = ih f (omega (arith, low, other)) e
    go (inr other) false z ih =
        ih (λ t. cond (eqb t k) (tally_of a k) (f t)) (omega (arith, low, other))
        (cond-false (eqb s k) (tally_of a k) (f s) (false_from_ne_true (eqb s k) (λ b. other (eqb-true s k b))) ∙ e)

map_alike : (f g : ℕ → Tally) (k n : ℕ) → ((s : ℕ) → k ≤ s → s < k + n → f s ≡ g s) → map f (numbers_on k n) ≡ map g (numbers_on k n)
map_alike f g k zero e = refl
map_alike f g k (suc n) e =
    let here = e k (omega arith) (omega arith) in
    let rest = map_alike f g (k + 1) n (λ s l m. e s (omega (arith, l)) (omega (arith, m))) in
    λ i. here i ∷ rest i

pub vector_tells : (a : Replica) → IsReplica a → map (tallied (tables_of a).vector (λ s. no_tally)) (numbers_on 0 100) ≡ map (tally_of a) (numbers_on 0 100)
vector_tells a h = map_alike (tallied (tables_of a).vector (λ s. no_tally)) (tally_of a) 0 100 (λ s l m. go s m (cases_eq s 0))
  where
    none_at_zero : (c : Bool) → eqb (count_of a 0) 0 ≡ c → count_of a 0 ≡ 0
    none_at_zero true e = eqb-true (count_of a 0) 0 e
    none_at_zero false e = absurd (let low : 1 ≤ 0 = (counted_server a 0 h (λ z. true≢false (sym (eq-eqb (count_of a 0) 0 z) ∙ e))).0 in omega (arith, low))

    go : (s : ℕ) → s < 0 + 100 → (s ≡ 0) ⊎ (s ≡ 0 → ⊥) → tallied (tables_of a).vector (λ t. no_tally) s ≡ tally_of a s
    go s m (inl z) =
        before_rows a 1 99 s (λ t. no_tally) (omega (arith, z))
        ∙ sym (nothing a s h (ap (count_of a) z ∙ none_at_zero (eqb (count_of a 0) 0) refl))
    go s m (inr other) = all_rows a 1 99 s (λ t. no_tally) h (omega (arith, other)) (omega (arith, m)) refl

-- one row more of a list is noted
pub note_one : (rows : List VectorRow) (k : ℕ) (row : VectorRow) (f : ℕ → Tally) (ts : List Tally) → k < length rows → row ≡ get_or rows k row
    → ts ≡ map (tallied (take k rows) f) (numbers_on 0 100) → row.server < 100 → slice_set ts row.server (row_tally row) ≡ map (tallied (take (k + 1) rows) f) (numbers_on 0 100)
note_one rows k row f ts low at e small =
    ap (λ x. slice_set x row.server (row_tally row)) e
    ∙ set_numbered (tallied (take k rows) f) (tallied (take k rows ++ row ∷ []) f) 0 100 row.server (row_tally row) here other small
    ∙ ap (λ x. map (tallied x f) (numbers_on 0 100)) (ap (λ r. take k rows ++ r ∷ []) at ∙ sym (take_more rows k row low))
  where
    zero_first : 0 + row.server ≡ row.server
    zero_first = omega arith

    here : row_tally row ≡ tallied (take k rows ++ row ∷ []) f (0 + row.server)
    here = sym (tallied-push (take k rows) row f (0 + row.server)
        ∙ cond-true (eqb (0 + row.server) row.server) (row_tally row) (tallied (take k rows) f (0 + row.server)) (eq-eqb (0 + row.server) row.server zero_first))

    other : (j : ℕ) → j ≢ 0 + row.server → tallied (take k rows) f j ≡ tallied (take k rows ++ row ∷ []) f j
    other j ne = sym (tallied-push (take k rows) row f j
        ∙ cond-false (eqb j row.server) (row_tally row) (tallied (take k rows) f j) (false_from_ne_true (eqb j row.server) (λ b. ne (eqb-true j row.server b ∙ sym zero_first))))

pub server_small : (n : ℕ) → IsTrue (is_server n) → n < 100
server_small n h = let high : n ≤ 99 = leb-true n 99 (and_parts (leb 1 n) (leb n 99) h).1 in omega (arith, high)
