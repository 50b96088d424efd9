-- The kept writes in their order are the rows of the log, sorted.
use Rattle.std.proofs.Common.{◌≡◌, sym, ap, ◌∙◌, subst, List, [], ◌∷◌, map, inl, inr}
use Rattle.std.proofs.lemmas.List.{map-append, length-map}
use Rattle.mr_model.specs.Writes.{Write}
use Rattle.mr_model.specs.Replica.{Replica, IsReplica}
use Rattle.mr_model.specs.Board.{replay_on, board_replay, board_after}
use Rattle.mr_model.specs.Tables.{LogRow, log_row, tables_of}
use Rattle.mr_model.specs.View.{place_of}
use Rattle.mr_model.specs.Dropped.{Has}
use Rattle.mr_model.specs.Kept.{dropped_in_order, kept_in_order, LogBefore, both, one, none, AreInRunOrder, KeptIsTheLog}
use Rattle.mr_model.proofs.OrderedSets.{before-true}
use Rattle.mr_model.proofs.Members.{has_map, map_has, has_all, all_has, Sorted, sorted_right}
use Rattle.mr_model.proofs.DroppedApart.{order-parts, kept_known, known_kept}
use Rattle.mr_model.proofs.ErrorsTell.{OrderBefore, order_sorted}
use Rattle.mr_model.proofs.RoomsApart.{replay_on-append}
use Rattle.mr_model.proofs.PlacesOfOrder.{order-places, length-replay_on}
use Rattle.mr_model.proofs.RowsOfKnown.{rows_of_known}
use Rattle.mr_model.proofs.Orders.{append_split}

log_before : (r : Replica) (x y : Write) → OrderBefore r x y → LogBefore (log_row r x) (log_row r y)
log_before r x y (inl p) = both p.0 p.1
log_before r x y (inr (inl p)) = one p.0 p.1
log_before r x y (inr (inr p)) = none p.0 p.1 (before-true x y p.2)

run_order : (r : Replica) (ws : List Write) → Sorted (OrderBefore r) ws → AreInRunOrder (map (log_row r) ws)
run_order r [] s = tt
run_order r (w ∷ ws) s = (
  has_all (LogBefore (log_row r w)) (map (log_row r) ws) (λ row h. let (v, g, e) = map_has (log_row r) row ws h in
      subst (LogBefore (log_row r w)) (sym e) (log_before r w v (all_has (OrderBefore r w) v ws s.0 g))),
  run_order r ws s.1,
)

-- the log, sorted, is the kept writes in their order
pub kept_is_the_log : (r : Replica) → IsReplica r → KeptIsTheLog r
kept_is_the_log r h =
    record {
      parts = order-parts r;
      in_order = run_order r (kept_in_order r) (sorted_right (OrderBefore r) (dropped_in_order r) (kept_in_order r) (subst (λ ws. Sorted (OrderBefore r) ws) (order-parts r) (order_sorted r h)));
      same_rows = λ row. (there row, back row);
      places = places.1;
    }
  where
    there : (row : LogRow) → Has row (tables_of r).log → Has row (map (log_row r) (kept_in_order r))
    there row a =
        let (w, b, d, e) = ((rows_of_known r h).log row).0 a in
        subst (λ x. Has x (map (log_row r) (kept_in_order r))) (sym e) (has_map (log_row r) w (kept_in_order r) (known_kept r w h b d))

    back : (row : LogRow) → Has row (map (log_row r) (kept_in_order r)) → Has row (tables_of r).log
    back row a =
        let (w, b, e) = map_has (log_row r) row (kept_in_order r) a in
        let k = kept_known r w h b in
        ((rows_of_known r h).log row).1 (w, k.0, k.1, e)

    places : (map (place_of r) (dropped_in_order r) ≡ replay_on [] (dropped_in_order r)) × (map (place_of r) (kept_in_order r) ≡ replay_on (board_after [] (dropped_in_order r)) (kept_in_order r))
    places =
        append_split (map (place_of r) (dropped_in_order r)) (replay_on [] (dropped_in_order r))
        (map (place_of r) (kept_in_order r)) (replay_on (board_after [] (dropped_in_order r)) (kept_in_order r))
        (length-map (dropped_in_order r) (place_of r) ∙ sym (length-replay_on [] (dropped_in_order r)))
        (sym (map-append (place_of r) (dropped_in_order r) (kept_in_order r)) ∙ ap (map (place_of r)) (sym (order-parts r))
        ∙ order-places r h ∙ ap board_replay (order-parts r) ∙ replay_on-append [] (dropped_in_order r) (kept_in_order r))
