-- Tests of the ids of two tables side by side.
use Rattle.std.specs.Prelude.{Bool, not, ◌&&◌, ◌||◌, List, map}
use Rattle.std.specs.List.{list_all}
use Rattle.mr_model.specs.Writes.{Id}
use Rattle.mr_model.specs.Replica.{is_among}
use Rattle.mr_model.specs.Tables.{Tables}
use Rattle.mr_model.specs.Queries.{booking_id, error_id, cancelled_id, cancel_id}

-- none of the first is among the others
abbrev pub are_apart : List Id → List Id → Bool
are_apart xs ys = list_all (λ x. not (is_among x ys)) xs

-- no two of the four tables have a row of one write
abbrev pub are_tables_apart : Tables → Bool
are_tables_apart t =
    (are_apart (map booking_id t.booking) (map error_id t.errorlog)
    && (are_apart (map booking_id t.booking) (map cancelled_id t.cancelled) && are_apart (map booking_id t.booking) (map cancel_id t.cancels)))
    && ((are_apart (map error_id t.errorlog) (map cancelled_id t.cancelled) && are_apart (map error_id t.errorlog) (map cancel_id t.cancels))
    && are_apart (map cancelled_id t.cancelled) (map cancel_id t.cancels))

-- a row of one of them has this id
abbrev pub is_placed : Id → Tables → Bool
is_placed id t =
    is_among id (map booking_id t.booking)
    || (is_among id (map error_id t.errorlog) || (is_among id (map cancelled_id t.cancelled) || is_among id (map cancel_id t.cancels)))
