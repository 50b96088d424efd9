-- The kept rows of a replica, sorted, are those of its kept writes in their order.
use Rattle.std.proofs.Common.{◌≡◌, refl, sym, ap, ◌∙◌, subst, ℕ, ◌<◌, false, eqb, List, [], ◌∷◌, map, ◌⊎◌, inl, inr, arith, eq-eqb, ne_eqb}
use Rattle.std.proofs.lemmas.Cmp.{on_total, then_total}
use Rattle.std.specs.declared.cmp.Ordering.{Ordering}
use Rattle.std.specs.declared.cmp.Ordering.TheVariants.{Less, Equal}
use Rattle.std.specs.Ordering.{nat_cmp, bool_cmp, ordering_then}
use Rattle.std.specs.Cmp.{IsTotalOrder, nat_cmp_total, bool_cmp_total, nat_cmp_is}
use Rattle.mr_model.specs.Writes.{Write, id_of}
use Rattle.mr_model.specs.Replica.{Replica}
use Rattle.mr_model.specs.Tables.{LogRow, log_row}
use Rattle.mr_model.specs.Kept.{LogBefore, both, one, none, AreInRunOrder}
use Rattle.mr_model.specs.Changes.{IdBefore}
use Rattle.mr_model.specs.Dropped.{Has}
use Rattle.mr_model.proofs.Members.{has_all, all_has, has_map, map_has}
use Rattle.mr_part.specs.declared.kept_rows.KeptRow.{KeptRow}
use Rattle.mr_part.specs.declared.kept_rows.RunPlace.{RunPlace}
use Rattle.mr_part.specs.KeptRows.{kept_row, run_place, run_cmp}
use Rattle.mr_part.proofs.Sorting.{Rises}

pub run_order : IsTotalOrder run_cmp
run_order =
    then_total (on_total (λ (p : RunPlace). p.is_tentative) bool_cmp_total)
    (then_total (on_total (λ (p : RunPlace). p.seq) nat_cmp_total)
    (then_total (on_total (λ (p : RunPlace). p.time) nat_cmp_total) (on_total (λ (p : RunPlace). p.server) nat_cmp_total)))

-- ---- the kept writes in their order rise

pub nat_less : (m n : ℕ) → m < n → nat_cmp m n ≡ Less
nat_less m n l = sym (nat_cmp_is m n Less l)

nat_tie : (m n : ℕ) → m ≡ n → nat_cmp m n ≡ Equal
nat_tie m n e = sym (nat_cmp_is m n Equal e)

-- where a row of log stands in the order of execution
abbrev pub log_place : LogRow → RunPlace
log_place row = record { is_tentative = eqb row.seq 0; seq = row.seq; time = row.time; server = row.server }

committed_row : (row : LogRow) → 0 < row.seq → eqb row.seq 0 ≡ false
committed_row row l = ne_eqb row.seq 0 (λ e. omega (arith, l, e))

pub before_less : (r s : LogRow) → LogBefore r s → run_cmp (log_place r) (log_place s) ≡ Less
before_less r s (both p q) =
    let f = committed_row r p in
    let g = committed_row s (omega (arith, q)) in
    let l = nat_less r.seq s.seq q in
    λ i. ordering_then (bool_cmp (f i) (g i)) (ordering_then (l i) (ordering_then (nat_cmp r.time s.time) (nat_cmp r.server s.server)))
before_less r s (one p e) =
    let f = committed_row r p in
    let g = eq-eqb s.seq 0 e in
    λ i. ordering_then (bool_cmp (f i) (g i)) (ordering_then (nat_cmp r.seq s.seq) (ordering_then (nat_cmp r.time s.time) (nat_cmp r.server s.server)))
before_less r s (none d e p) = go p
  where
    behind : (o : Ordering) → ordering_then (nat_cmp r.time s.time) (nat_cmp r.server s.server) ≡ o → run_cmp (log_place r) (log_place s) ≡ o
    behind o t =
        let f = eq-eqb r.seq 0 d in
        let g = eq-eqb s.seq 0 e in
        let n = nat_tie r.seq s.seq (d ∙ sym e) in
        λ i. ordering_then (bool_cmp (f i) (g i)) (ordering_then (n i) (t i))

    go : (r.time < s.time) ⊎ ((r.time ≡ s.time) × (r.server < s.server)) → run_cmp (log_place r) (log_place s) ≡ Less
    go (inl l) = behind Less (ap (λ o. ordering_then o (nat_cmp r.server s.server)) (nat_less r.time s.time l))
    go (inr (t, l)) =
        let early = nat_tie r.time s.time t in
        let low = nat_less r.server s.server l in
        behind Less (λ i. ordering_then (early i) (low i))

pub rows_rise : (a : Replica) (ws : List Write) → AreInRunOrder (map (log_row a) ws) → Rises run_cmp run_place (map (kept_row a) ws)
rows_rise a [] s = tt
rows_rise a (w ∷ ws) s = (has_all (λ row. run_cmp (run_place (kept_row a w)) (run_place row) ≡ Less) (map (kept_row a) ws) later, rows_rise a ws s.1)
  where
    later : (row : KeptRow) → Has row (map (kept_row a) ws) → run_cmp (run_place (kept_row a w)) (run_place row) ≡ Less
    later row h =
        let (v, g, e) = map_has (kept_row a) row ws h in
        subst (λ r. run_cmp (run_place (kept_row a w)) (run_place r) ≡ Less) (sym e)
        (before_less (log_row a w) (log_row a v) (all_has (LogBefore (log_row a w)) (log_row a v) (map (log_row a) ws) s.0 (has_map (log_row a) v ws g)))

-- ---- sorted rows

-- the order of the tables
abbrev pub KeyBefore : KeptRow → KeptRow → Type 0
KeyBefore x y = IdBefore (id_of x.write) (id_of y.write)

pub never_before : (x : KeptRow) → KeyBefore x x → ⊥
never_before x (inl l) = omega (arith, l)
never_before x (inr p) = let l = p.1 in omega (arith, l)

-- ---- the parts of the log

pub kept_writes : (a : Replica) (ws : List Write) → map (λ r. r.write) (map (kept_row a) ws) ≡ ws
kept_writes a [] = refl
kept_writes a (w ∷ ws) = ap (λ vs. w ∷ vs) (kept_writes a ws)
