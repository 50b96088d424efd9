-- Which ids the rows of writes have: those of log, booking, errorlog, cancelled and cancels.
use Rattle.std.specs.Prelude.{◌≡◌, ◌<◌, Bool, false, ◌||◌}
use Rattle.std.specs.List.{list_any}
use Rattle.mr_model.specs.Writes.{Id, same_id}
use Rattle.mr_model.specs.Replica.{Replica, count_of}
use Rattle.mr_model.specs.Tables.{Tables, Stands}
use Rattle.mr_model.specs.Queries.{booking_id, error_id, cancelled_id, cancel_id, log_id}

-- a row of a table of what became of writes has this id
abbrev pub has_place_of : Id → Tables → Bool
has_place_of id t =
    (list_any (λ r. same_id (booking_id r) id) t.booking || list_any (λ r. same_id (error_id r) id) t.errorlog)
    || (list_any (λ r. same_id (cancelled_id r) id) t.cancelled || list_any (λ r. same_id (cancel_id r) id) t.cancels)

-- or one of the log
abbrev pub has_row_of_id : Id → Tables → Bool
has_row_of_id id t = list_any (λ r. same_id (log_id r) id) t.log || has_place_of id t

-- of tables that stand for a replica no row has an id that is not given out yet, as the next one of a server
abbrev pub NextIdsAreFree : Type 0
NextIdsAreFree = (t : Tables) (r : Replica) (id : Id) → Stands t r → count_of r id.server < id.n → has_row_of_id id t ≡ false
