-- What tallies of servers have of the vector, row by row.
use Rattle.std.proofs.Common.{◌≡◌, refl, sym, ap, subst, ◌∙◌, ℕ, zero, suc, ◌+◌, ◌-◌, ◌<◌, eqb, List, [], ◌∷◌, length, map, get_or, drop, ◌⊎◌, inl, inr, arith, eq-eqb, eqb-true}
use Rattle.std.proofs.lemmas.Bool.{cond-true, cond-false, false_from_ne_true, cases_eq}
use Rattle.std.proofs.lemmas.List.{drop_more, get_or-set_other}
use Rattle.std.proofs.lemmas.Grind.{get_or-set_at}
use Rattle.std.specs.Prelude.{slice_set}
use Rattle.mr_model.specs.Tables.{VectorRow}
use Rattle.mr_tables.specs.declared.summary.Tally.{Tally}
use Rattle.mr_tables.specs.Summary.{no_tally, tally_at}
use Rattle.mr_tables.specs.Tallied.{row_tally}
use Rattle.mr_agree.specs.Agreeing.{vector_in}
use Rattle.mr_audit.specs.Tallies.{TellTheVector}

-- a row before the rows that are noted is noted in the stead of what its server had
pub note_first : (rows : List VectorRow) (row : VectorRow) (ts : List Tally) → row.server < length ts → TellTheVector rows ts → TellTheVector (row ∷ rows) (slice_set ts row.server (row_tally row))
note_first rows row ts small told s = go (cases_eq s row.server)
  where
    go : (s ≡ row.server) ⊎ (s ≡ row.server → ⊥) → tally_at (slice_set ts row.server (row_tally row)) s ≡ row_tally (vector_in (row ∷ rows) s)
    go (inl same) =
        get_or-set_at ts row.server s (row_tally row) no_tally same small
        ∙ sym (ap row_tally (cond-true (eqb row.server s) row (vector_in rows s) (eq-eqb row.server s (sym same))))
    go (inr other) =
        get_or-set_other ts row.server s (row_tally row) no_tally other ∙ told s
        ∙ sym (ap row_tally (cond-false (eqb row.server s) row (vector_in rows s) (false_from_ne_true (eqb row.server s) (λ e. other (sym (eqb-true row.server s e))))))

-- the same where the rows that are noted are the last of a list
pub note_before : (rows : List VectorRow) (k : ℕ) (row : VectorRow) (ts : List Tally) → k < length rows → row ≡ get_or rows (length rows - 1 - k) row
    → row.server < length ts → TellTheVector (drop (length rows - k) rows) ts → TellTheVector (drop (length rows - (k + 1)) rows) (slice_set ts row.server (row_tally row))
note_before rows k row ts low at small told =
    let i = length rows - 1 - k in
    let here : i ≡ length rows - (k + 1) = omega arith in
    let next : i + 1 ≡ length rows - k = omega (arith, low) in
    let more : drop i rows ≡ row ∷ drop (length rows - k) rows = drop_more rows i row (omega (arith, low)) ∙ (λ j. sym at j ∷ drop (next j) rows) in
    subst (λ (rs : List VectorRow). TellTheVector rs (slice_set ts row.server (row_tally row))) (sym more ∙ ap (λ n. drop n rows) here) (note_first (drop (length rows - k) rows) row ts small told)

-- where nothing is noted, nothing is told
pub none_told : (xs : List ℕ) → TellTheVector [] (map (λ k. no_tally) xs)
none_told [] s = refl
none_told (x ∷ xs) zero = refl
none_told (x ∷ xs) (suc s) = none_told xs s
