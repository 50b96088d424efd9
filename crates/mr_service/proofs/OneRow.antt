-- A write has one row, in one table.
use Rattle.std.proofs.Common.{◌≡◌, sym, ap, ◌∙◌}
use Rattle.mr_model.specs.Replica.{Replica, IsReplica}
use Rattle.mr_model.specs.Tables.{PlaceRow, place_row, tables_of}
use Rattle.mr_model.specs.Queries.{IsRowIn, row_id}
use Rattle.mr_model.proofs.KnownById.{one_known}
use Rattle.mr_model.proofs.RowsTell.{one_row, row_in_is}

-- rows of one id are one row
pub one_place : (r : Replica) (p q : PlaceRow) → IsReplica r → IsRowIn (tables_of r) p → IsRowIn (tables_of r) q → row_id p ≡ row_id q → p ≡ q
one_place r p q h a b e =
    let (v, c, s) = row_in_is r p a in
    let (w, d, t) = row_in_is r q b in
    let same = one_known r v w h c d (sym (one_row r v h c).1 ∙ ap row_id s ∙ e ∙ sym (ap row_id t) ∙ (one_row r w h d).1) in
    sym s ∙ ap (place_row r) same ∙ t
