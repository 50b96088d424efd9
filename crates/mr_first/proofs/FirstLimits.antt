-- The rows that a keeper holds for a replica's first tables are within the limits, so that moving up refuses none.
use Rattle.std.proofs.Common.{◌≡◌, ◌<◌, suc, length, map, true, ◌&&◌, IsTrue, refl, sym, ap, subst, ◌∙◌, arith, leb-true, le-leb}
use Rattle.std.proofs.lemmas.Bool.{and_parts, and_from, true≢false}
use Rattle.std.specs.List.{AllByRecursion, slice_get}
use Rattle.sqlite_trees.specs.Tree.{Trees}
use Rattle.mr_model.specs.Writes.{Action, Books, Cancels, Write, length_in, title_in, is_length, is_title, is_room_name}
use Rattle.mr_model.specs.Writes.{is_server, is_count, is_time, is_first_action, is_first_write, choices_of, choices_in}
use Rattle.mr_model.specs.Replay.{Place, slot_at}
use Rattle.mr_model.specs.Replica.{Replica, IsReplica}
use Rattle.mr_model.specs.View.{place_of}
use Rattle.mr_model.specs.Tables.{cells_of, log_row, seq_of, by_id, kept, tables_of}
use Rattle.mr_model.specs.First.{choices_in_cells, FirstTables, write_row, undo_row, StandsFirst, moved}
use Rattle.mr_model.specs.Changes.{AreInKeyOrder}
use Rattle.mr_model.specs.Dropped.{Has}
use Rattle.mr_model.proofs.Members.{has_all, all_has, has_map, map_has, filter_has}
use Rattle.mr_model.proofs.Fronts.{get_below}
use Rattle.mr_model.proofs.KeyOrder.{tables_in_order}
use Rattle.mr_model.proofs.MovingUp.{moves_up}
use Rattle.mr_model.proofs.RowsById.{by_id_has}
use Rattle.mr_model.proofs.Runs.{Went, took, failed, did, missed}
use Rattle.mr_model.proofs.RoomTold.{known_went}
use Rattle.mr_tables.specs.Cells.{is_cancel_cells}
use Rattle.mr_agree.proofs.TablesAgree.{standing_tables_agree}
use Rattle.mr_rows.specs.RowLimits.{is_choices, is_commit, is_action_cells, is_place_of, is_log_row}
use Rattle.mr_rows.specs.Form.{room_form, vector_form, booking_form, error_form}
use Rattle.mr_rows.specs.TableLimits.{AreWithinLimits}
use Rattle.mr_rows.proofs.HeldRows.{table_stored, meta_stored}
use Rattle.mr_rows.proofs.LimitsKept.{limits_kept}
use Rattle.mr_first.specs.FirstCells.{is_write_row, is_first_place, is_undo_row}
use Rattle.mr_first.specs.Forms.{first_meta_form, write_form, undo_form}
use Rattle.mr_first.specs.FirstDatabase.{AreHeldFirst, first_in}
use Rattle.mr_first.specs.FirstShown.{AreFirstRows}
use Rattle.mr_first.specs.MovedUp.{CanMoveUp}
use Rattle.mr_rows.proofs.TableFacts.{room_facts, vector_facts, booking_facts, error_facts}
use Rattle.mr_first.proofs.Facts.{write_facts, undo_facts}
use Rattle.mr_first.proofs.PairLemmas.{replicas_paired}

-- ---- one write

-- a booking with at most eight alternatives has a place of the first schema
place_fits : (w : Write) (p : Place) → Went w p → is_first_write w ≡ true → is_first_place p ≡ true
place_fits w p (took m k s f at o) first =
    let low : k < suc (length m.alternatives) = get_below (choices_of m) k s (sym (ap (λ a. slice_get (choices_in a) k) f) ∙ sym (ap (slot_at w) at) ∙ o) in
    let few = leb-true (length m.alternatives) 8 (sym (ap is_first_action f) ∙ first) in
    subst (λ x. is_first_place x ≡ true) (sym at) (le-leb k 8 (omega (arith, low, few)))
place_fits w p (failed m f at) first = subst (λ x. is_first_place x ≡ true) (sym at) refl
place_fits w p (did t f at) first = absurd (true≢false (sym (sym (ap is_first_action f) ∙ first)))
place_fits w p (missed t f at) first = absurd (true≢false (sym (sym (ap is_first_action f) ∙ first)))

-- and its cells are a meeting's
meeting_fits : (a : Action) → is_first_action a ≡ true → is_action_cells (cells_of a) ≡ true
    → (is_length (length_in a) && is_choices (length_in a) (choices_in_cells (cells_of a)) && is_title (title_in a)) ≡ true
meeting_fits (Books m) first fits = fits
meeting_fits (Cancels t) first fits = absurd (true≢false (sym first))

module _ (r : Replica) (sound : IsReplica r) (w : Write) (here : Has w (kept r)) (first : is_first_write w ≡ true) where
  known : Has w r.known
  known = by_id_has r w (filter_has _ w (by_id r.known) here).0

  -- its row of the one log is within the limits
  log_fits : is_log_row (log_row r w) ≡ true
  log_fits = all_has (λ row. IsTrue (is_log_row row)) (log_row r w) (tables_of r).log (limits_kept r sound).log (has_map (log_row r) w (kept r) here)

  write_fits : is_write_row (write_row r w) ≡ true
  write_fits =
      let a = and_parts _ (is_commit (seq_of r w)) log_fits in
      let b = and_parts _ (is_place_of (is_cancel_cells (cells_of w.action)) (place_of r w)) a.0 in
      let c = and_parts _ (is_action_cells (cells_of w.action)) b.0 in
      let d = and_parts _ (is_title (title_in w.action)) (meeting_fits w.action first c.1) in
      let e = and_parts (is_length (length_in w.action)) (is_choices (length_in w.action) (choices_in_cells (cells_of w.action))) d.0 in
      and_from _ _ (and_from _ _ (and_from _ _ (and_from _ _ c.0 e.0) e.1) d.1) a.1

  undo_fits : is_undo_row (undo_row r w) ≡ true
  undo_fits =
      let a = and_parts _ (is_commit (seq_of r w)) log_fits in
      let b = and_parts _ (is_place_of (is_cancel_cells (cells_of w.action)) (place_of r w)) a.0 in
      let c = and_parts _ (is_action_cells (cells_of w.action)) b.0 in
      let d = and_parts _ (is_room_name w.room) c.0 in
      let e = and_parts (is_server w.stamp.server && is_count w.stamp.n) (is_time w.stamp.time) d.0 in
      and_from _ _ e.0 (place_fits w (place_of r w) (known_went r w sound known) first)

-- ---- both logs

module _ (t : FirstTables) (r : Replica) (stands : StandsFirst t r) where
  all_first : (w : Write) → Has w (kept r) → is_first_write w ≡ true
  all_first w here = all_has (λ v. IsTrue (is_first_write v)) w r.known stands.all_first (by_id_has r w (filter_has _ w (by_id r.known) here).0)

  writes_fit : AllByRecursion (λ row. IsTrue (is_write_row row)) t.write_log
  writes_fit =
      subst (λ (x : FirstTables). AllByRecursion (λ row. IsTrue (is_write_row row)) x.write_log) (sym stands.are)
      (has_all (λ row. IsTrue (is_write_row row)) (map (write_row r) (kept r)) (λ row g. let (w, i, e) = map_has (write_row r) row (kept r) g in
      ap is_write_row e ∙ write_fits r stands.sound w i (all_first w i)))

  undos_fit : AllByRecursion (λ row. IsTrue (is_undo_row row)) t.undo
  undos_fit =
      subst (λ (x : FirstTables). AllByRecursion (λ row. IsTrue (is_undo_row row)) x.undo) (sym stands.are)
      (has_all (λ row. IsTrue (is_undo_row row)) (map (undo_row r) (kept r)) (λ row g. let (w, i, e) = map_has (undo_row r) row (kept r) g in
      ap is_undo_row e ∙ undo_fits r stands.sound w i (all_first w i)))

-- ---- the whole

pub can_move : (trees : Trees) (r : Replica) → AreHeldFirst trees → StandsFirst (first_in trees) r → CanMoveUp trees
unfolding first_in
can_move trees r held stands =
    let t = first_in trees in
    let up = moves_up t r stands in
    let fit = subst AreWithinLimits (sym up.are) (limits_kept r stands.sound) in
    let meta = meta_stored first_meta_form (trees 0) (λ m id. refl) (λ x y. refl) (λ fits. cc) held.meta fit.meta in
    record {
      rows = record {
        meta = meta.0;
        room = table_stored room_form room_facts (trees 2) (λ x id. refl) held.room fit.room;
        vector = table_stored vector_form vector_facts (trees 4) (λ x id. refl) held.vector fit.vector;
        write_log = table_stored write_form write_facts (trees 6) (λ x id. refl) held.write_log (writes_fit t r stands);
        undo = table_stored undo_form undo_facts (trees 8) (λ x id. refl) held.undo (undos_fit t r stands);
        booking = table_stored booking_form booking_facts (trees 10) (λ x id. refl) held.booking fit.booking;
        errorlog = table_stored error_form error_facts (trees 12) (λ x id. refl) held.errorlog fit.errorlog;
      };
      one_meta = meta.1;
      paired = replicas_paired t r stands;
      agrees = standing_tables_agree (moved t) r up;
      in_order = subst AreInKeyOrder (sym up.are) (tables_in_order r stands.sound);
    }

pub first_rows_held : (trees : Trees) (a : Replica) → AreHeldFirst trees → StandsFirst (first_in trees) a → AreFirstRows trees × (length (trees 0) ≡ 1)
first_rows_held trees a held stands = let can = can_move trees a held stands in (can.rows, can.one_meta)
