-- Servers, counts, times and the names of rooms in a replica's tables are within their limits.
use Rattle.std.proofs.Common.{◌≡◌, sym, ap, ◌∙◌, ◌≤◌, Bool, true, ◌&&◌, ◌⊎◌, inl, inr, arith, IsTrue}
use Rattle.std.proofs.lemmas.Bool.{and_from, and_parts, cases_eq}
use Rattle.std.specs.List.{list_all}
use Rattle.mr_model.specs.Dropped.{Has}
use Rattle.mr_model.specs.Writes.{Id, Write, id_of, is_server, is_count, is_time, is_id, is_room_name}
use Rattle.mr_model.specs.Replica.{Replica, IsReplica, count_of, last_time}
use Rattle.mr_model.specs.Tables.{VectorRow, tables_of}
use Rattle.mr_agree.specs.Agreeing.{Note, notes, do_limits_agree}
use Rattle.mr_model.proofs.ChangesKeep.{within}
use Rattle.mr_model.proofs.Members.{all_has}
use Rattle.mr_model.proofs.KnownById.{known_at}
use Rattle.mr_model.proofs.RowsById.{known_write}
use Rattle.mr_model.proofs.RowsOfKnown.{rows_of_known}
use Rattle.mr_agree.proofs.AgreeCounts.{all_true, all_five}
use Rattle.mr_agree.proofs.AgreeTimes.{noted, last_is}

-- the id and the time of a known write
stamp_limits : (r : Replica) (w : Write) → IsReplica r → Has w r.known → (is_id (id_of w) ≡ true) × (is_time w.stamp.time ≡ true)
stamp_limits r w h a = and_parts (is_server w.stamp.server && is_count w.stamp.n) (is_time w.stamp.time) ((within w (known_write r w h a)).stamp)

pub limits_agree : (r : Replica) → IsReplica r → do_limits_agree (tables_of r) ≡ true
limits_agree r h =
    all_five (is_server r.server) (is_server r.primary) (list_all counted (tables_of r).vector) (list_all noted_well (notes (tables_of r))) (list_all is_room_name r.rooms)
    servers.0 servers.1
    (all_true counted (tables_of r).vector row_limits)
    (all_true noted_well (notes (tables_of r)) note_limits)
    (all_true is_room_name r.rooms (λ name g. all_has (λ t. IsTrue (is_room_name t)) name r.rooms h.room_names g))
  where
    servers : (is_server r.server ≡ true) × (is_server r.primary ≡ true)
    servers = and_parts (is_server r.server) (is_server r.primary) h.servers

    counted : VectorRow → Bool
    counted row = is_id (record { server = row.server; n = row.count }) && is_time row.last_time

    noted_well : Note → Bool
    noted_well a = is_id a.id && is_time a.time

    note_limits : (a : Note) → Has a (notes (tables_of r)) → noted_well a ≡ true
    note_limits a g =
        let (w, is) = noted r a h g in
        let p = stamp_limits r w h is.known in
        and_from (is_id a.id) (is_time a.time) (ap is_id is.id ∙ p.0) (ap is_time is.time ∙ p.1)

    row_limits : (row : VectorRow) → Has row (tables_of r).vector → counted row ≡ true
    row_limits row g =
        let (some, e) = ((rows_of_known r h).vector row).0 g in
        let count : row.count ≡ count_of r row.server = ap (λ (v : VectorRow). v.count) e in
        let last : row.last_time ≡ last_time r row.server = ap (λ (v : VectorRow). v.last_time) e in
        let (v, k, s) = known_at r (record { server = row.server; n = row.count }) h (low (cases_eq (count_of r row.server) 0) some count) (omega (arith, count)) in
        let own : v.stamp.server ≡ row.server = ap (λ (i : Id). i.server) s in
        let n : v.stamp.n ≡ row.count = ap (λ (i : Id). i.n) s in
        let time : v.stamp.time ≡ row.last_time = last_is r v h k (n ∙ count ∙ ap (count_of r) (sym own)) ∙ ap (last_time r) own ∙ sym last in
        let p = stamp_limits r v h k in
        and_from (is_id (record { server = row.server; n = row.count })) (is_time row.last_time) (ap is_id (sym s) ∙ p.0) (ap is_time (sym time) ∙ p.1)
      where
        low : (count_of r row.server ≡ 0) ⊎ (count_of r row.server ≡ 0 → ⊥) → (count_of r row.server ≡ 0 → ⊥) → row.count ≡ count_of r row.server → 1 ≤ row.count
        low (inl z) f e = absurd (f z)
        low (inr z) f e = omega (arith, z, e)
