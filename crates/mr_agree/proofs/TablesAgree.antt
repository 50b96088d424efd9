-- The rows of tables that stand for a replica agree.
use Rattle.std.proofs.Common.{◌≡◌, sym, subst, Bool, true, ◌&&◌}
use Rattle.std.proofs.lemmas.Bool.{and_from}
use Rattle.mr_model.specs.Replica.{Replica, IsReplica}
use Rattle.mr_model.specs.Tables.{Tables, tables_of, Stands}
use Rattle.mr_agree.specs.Agreeing.{does_meta_agree, do_counts_agree, do_ids_agree, do_marks_agree, do_rooms_agree, does_log_agree, is_log_whole}
use Rattle.mr_agree.specs.Agreeing.{do_times_agree, do_places_agree, do_cancels_agree, are_rows_apart, do_spans_agree, do_limits_agree, agree}
use Rattle.mr_agree.proofs.AgreeCounts.{meta_agrees, counts_agree, ids_agree, all_four}
use Rattle.mr_agree.proofs.AgreeMarks.{marks_agree, rooms_agree}
use Rattle.mr_agree.proofs.AgreeLog.{log_agrees, log_whole}
use Rattle.mr_agree.proofs.AgreeTimes.{times_agree}
use Rattle.mr_agree.proofs.AgreePlaces.{places_agree}
use Rattle.mr_agree.proofs.AgreeCancels.{cancels_agree}
use Rattle.mr_agree.proofs.AgreeBookings.{bookings_agree}
use Rattle.mr_agree.proofs.AgreeSpans.{spans_agree}
use Rattle.mr_agree.proofs.AgreeLimits.{limits_agree}

all_twelve : (a b c d e f g h i j k l : Bool) → a ≡ true → b ≡ true → c ≡ true → d ≡ true → e ≡ true → f ≡ true → g ≡ true → h ≡ true → i ≡ true → j ≡ true → k ≡ true → l ≡ true
    → (a && b && c && d && e && f && g && h && i && j && k && l) ≡ true
all_twelve a b c d e f g h i j k l p q r s t u v w x y z o =
    and_from (a && b && c && d && e && f && g && h && i && j && k) l
    (and_from (a && b && c && d && e && f && g && h && i && j) k
    (and_from (a && b && c && d && e && f && g && h && i) j
    (and_from (a && b && c && d && e && f && g && h) i
    (and_from (a && b && c && d && e && f && g) h
    (and_from (a && b && c && d && e && f) g
    (and_from (a && b && c && d && e) f
    (and_from (a && b && c && d) e (all_four a b c d p q r s) t) u) v) w) x) y) z) o

pub tables_agree : (r : Replica) → IsReplica r → agree (tables_of r) ≡ true
tables_agree r h =
    and_from _ (do_limits_agree (tables_of r))
    (all_twelve (does_meta_agree (tables_of r)) (do_counts_agree (tables_of r)) (do_ids_agree (tables_of r)) (do_marks_agree (tables_of r))
    (do_rooms_agree (tables_of r)) (does_log_agree (tables_of r)) (is_log_whole (tables_of r)) (do_times_agree (tables_of r))
    (do_places_agree (tables_of r)) (do_cancels_agree (tables_of r)) (are_rows_apart (tables_of r).booking) (do_spans_agree (tables_of r))
    (meta_agrees r h) (counts_agree r h) (ids_agree r h) (marks_agree r h) (rooms_agree r h) (log_agrees r h) (log_whole r h) (times_agree r h)
    (places_agree r h) (cancels_agree r h) (bookings_agree r h) (spans_agree r h))
    (limits_agree r h)

pub standing_tables_agree : (t : Tables) (r : Replica) → Stands t r → agree t ≡ true
standing_tables_agree t r s = subst (λ u. agree u ≡ true) (sym s.are) (tables_agree r s.sound)
