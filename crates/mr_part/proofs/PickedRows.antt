-- Rows that are picked from log, read and sorted, are those of the kept writes in scope.
use Rattle.std.proofs.Common.{◌≡◌, refl, sym, ap, subst, ℕ, Bool, IsTrue, List, [], ◌∷◌, map, Result, Ok}
use Rattle.std.specs.List.Sorted.{IsPermutation, IsSortedByKey}
use Rattle.mr_model.specs.Writes.{Write, id_of, is_write}
use Rattle.mr_model.specs.Replay.{Place}
use Rattle.mr_model.specs.Replica.{Replica, IsReplica}
use Rattle.mr_model.specs.Tables.{LogRow, log_row, log_row_with}
use Rattle.mr_model.specs.View.{place_of}
use Rattle.mr_model.specs.Changes.{IdBefore, RiseById}
use Rattle.mr_model.specs.Dropped.{Has}
use Rattle.mr_model.proofs.Members.{has_all, all_has, has_map, map_has, Sorted}
use Rattle.mr_model.proofs.RowsById.{known_write}
use Rattle.mr_base.specs.Answers.{OrOutOfMemory}
use Rattle.mr_base.specs.declared.refusals.Refusal.{Refusal}
use Rattle.mr_replay.specs.Places.{UndoRow}
use Rattle.mr_part.specs.declared.kept_rows.KeptRow.{KeptRow}
use Rattle.mr_part.specs.KeptRows.{kept_row_with, kept_row, run_place, run_cmp}
use Rattle.mr_part.specs.Logged.{undo_with}
use Rattle.mr_part.specs.RowTests.{log_row_of, IsWriteWithin, AreWritesWithin, ArePicked}
use Rattle.mr_part.proofs.KeptOrder.{run_order, rows_rise, KeyBefore, never_before}
use Rattle.mr_part.proofs.Sorting.{sorted_is}

-- ---- the writes that rows tell

pub rows_of_logged : (a : Replica) (ws : List Write) → map log_row_of (map (kept_row a) ws) ≡ map (log_row a) ws
rows_of_logged a [] = refl
rows_of_logged a (w ∷ ws) = ap (λ rows. log_row a w ∷ rows) (rows_of_logged a ws)

pub logged_undo : (a : Replica) (ws : List Write) → map (λ x. x.undo) (map (kept_row a) ws) ≡ map (undo_with (place_of a)) ws
logged_undo a [] = refl
logged_undo a (w ∷ ws) = ap (λ us. undo_with (place_of a) w ∷ us) (logged_undo a ws)

pub logged_within : (a : Replica) (ws : List Write) → IsReplica a → ((w : Write) → Has w ws → Has w a.known) → AreWritesWithin (map (kept_row a) ws)
logged_within a ws h known =
    has_all IsWriteWithin (map (kept_row a) ws)
    (λ x g. let (w, b, e) = map_has (kept_row a) x ws g in subst IsWriteWithin (sym e) (known_write a w h (known w b), refl))

-- the row of one of these is read as that one
pub row_read : (xs : List KeptRow) (x : KeptRow) (row : LogRow) (answer : Result KeptRow Refusal) → AreWritesWithin xs → Has x xs → row ≡ log_row_of x
    → ((w : Write) (place : Place) (seq : ℕ) → IsTrue (is_write w) → row ≡ log_row_with w place seq → OrOutOfMemory answer (Ok (kept_row_with w seq place)))
    → OrOutOfMemory answer (Ok x)
row_read xs x row answer ok has e read =
    let within = all_has IsWriteWithin x xs ok has in
    subst (λ (u : UndoRow). OrOutOfMemory answer (Ok (record { write = x.write; undo = u; seq = x.seq }))) (sym within.1) (read x.write x.undo.place x.seq within.0 e)

-- ---- sorted

keys_rise : (a : Replica) (ws : List Write) → RiseById (map id_of ws) → Sorted KeyBefore (map (kept_row a) ws)
keys_rise a [] s = tt
keys_rise a (w ∷ ws) s = (
  has_all (KeyBefore (kept_row a w)) (map (kept_row a) ws) (λ x h.
      let (v, g, e) = map_has (kept_row a) x ws h in
      subst (KeyBefore (kept_row a w)) (sym e) (all_has (IdBefore (id_of w)) (id_of v) (map id_of ws) s.0 (has_map id_of v ws g))),
  keys_rise a ws s.1,
)

-- the picked writes, sorted, stand in the order of execution
pub picked_sorted : (a : Replica) (test : LogRow → Bool) (rows : List LogRow) (ws : List Write) (p : ArePicked a test rows ws) (sorted : List KeptRow)
    → IsPermutation (map (kept_row a) p.by_key) sorted → IsSortedByKey run_place run_cmp sorted → sorted ≡ map (kept_row a) ws
picked_sorted a test rows ws p sorted moved s =
    sorted_is run_cmp run_order run_place KeyBefore never_before (map (kept_row a) p.by_key) sorted (map (kept_row a) ws)
    (keys_rise a p.by_key p.rising) moved s (rows_rise a ws p.in_order)
    (λ x h. let (w, g, e) = map_has (kept_row a) x p.by_key h in subst (λ y. Has y (map (kept_row a) ws)) (sym e) (has_map (kept_row a) w ws ((p.same w).0 g)))
    (λ x h. let (w, g, e) = map_has (kept_row a) x ws h in subst (λ y. Has y (map (kept_row a) p.by_key)) (sym e) (has_map (kept_row a) w p.by_key ((p.same w).1 g)))
