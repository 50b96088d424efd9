-- Tables that agree, and tables of which one number is turned. Computed by the definitions.
use Rattle.std.specs.Prelude.{◌≡◌, ℕ, true, false, List, [], ◌∷◌, codes, drop, refl}
use Prim.Native.String.{String}
use Rattle.std.specs.Fmt.{digits}
use Rattle.mr_model.specs.Calendar.{Date}
use Rattle.mr_model.specs.Replica.{Replica, opening}
use Rattle.mr_model.specs.Step.{AddRoom, Submit, Cancel, Commit, Truncate, Submission, SlotWords}
use Rattle.mr_model.specs.Tables.{Tables, BookingRow, tables_of}
use Rattle.mr_agree.specs.Agreeing.{do_counts_agree, is_log_whole, do_limits_agree, does_meta_agree, do_ids_agree, do_marks_agree, do_rooms_agree}
use Rattle.mr_agree.specs.Agreeing.{does_log_agree, do_times_agree, do_places_agree, do_cancels_agree, are_rows_apart, do_spans_agree, agree}
use Rattle.mr_agree.specs.Ids.{has_row_of_id}
use Rattle.mr_model.specs.Writes.{Id}
use Rattle.mr_model.proofs.Script.{Do, Lines, replica_after}

abbrev at : String → SlotWords
at time = record { day = codes "1995-12-18"; time = codes time }

abbrev booking : String → List SlotWords → String → Submission
booking start others title = record { room = codes "oak"; title = codes title; length = codes "60"; wish = at start; alternatives = others }

-- replica 2 books twice, and then learns an earlier write that is committed: its first booking moves, its second is logged
abbrev mixed : Replica
mixed =
    replica_after (opening 2 1)
    (Lines ("mr1 3 1" ∷ "W 3 1 1 oak 60 1995-12-18 13:30 0 Gamma" ∷ "E" ∷ []) ∷
    Do (Submit (record { room = codes "oak"; title = codes "Alpha"; length = codes "60"; wish = at "14:00"; alternatives = at "16:00" ∷ [] })) ∷
    Do (Submit (record { room = codes "oak"; title = codes "Beta"; length = codes "30"; wish = at "16:30"; alternatives = [] })) ∷
    Lines ("mr1 1 1" ∷ "C 1 3 1" ∷ "E" ∷ []) ∷ [])

mixed_agrees : agree (tables_of mixed) ≡ true
unfolding digits
mixed_agrees = refl

dropped_agrees : agree (tables_of (replica_after mixed (Do (Truncate 1) ∷ []))) ≡ true
unfolding digits
dropped_agrees = refl

-- a committed booking is cancelled, its slot is taken again, and a second cancel finds nothing
abbrev cancelled_once : Replica
cancelled_once =
    replica_after (opening 1 1)
    (Do (AddRoom (codes "oak")) ∷ Do (Submit (booking "09:00" [] "Alpha")) ∷ Do (Submit (booking "09:00" (at "10:00" ∷ []) "Beta")) ∷ Do (Commit 1)
    ∷ Do (Cancel (codes "oak") (codes "1-1")) ∷ Do (Submit (booking "09:00" [] "Gamma")) ∷ Do (Cancel (codes "oak") (codes "1-1")) ∷ [])

cancelled_agrees : agree (tables_of cancelled_once) ≡ true
unfolding digits
cancelled_agrees = refl

-- a dropped cancel
abbrev dropped_cancel : Replica
dropped_cancel =
    replica_after (opening 2 1)
    (Do (AddRoom (codes "oak")) ∷ Do (Submit (booking "09:00" [] "Alpha")) ∷ Do (Cancel (codes "oak") (codes "2-1"))
    ∷ Lines ("mr1 1 1" ∷ "C 1 2 1" ∷ "C 2 2 2" ∷ "E" ∷ []) ∷ Do (Truncate 2) ∷ Do (Cancel (codes "oak") (codes "2-1")) ∷ [])

dropped_cancel_agrees : agree (tables_of dropped_cancel) ≡ true
unfolding digits
dropped_cancel_agrees = refl

opening_agrees : agree (tables_of (opening 9 1)) ≡ true
unfolding digits
opening_agrees = refl

-- ---- one number turned

abbrev rows : Tables
rows = tables_of cancelled_once

-- three requests and two cancels are there, four are counted
abbrev miscounted : Tables
miscounted = record rows { vector = record { server = 1; count = 4; last_time = 5; committed = 1 } ∷ [] }

miscounted_ids : do_ids_agree miscounted ≡ false
unfolding digits
miscounted_ids = refl

no_clock : does_meta_agree (record rows { meta = record { server = 1; primary = 1; commits = 1; dropped = 0; clock = 0 } }) ≡ false
unfolding digits
no_clock = refl

many_commits : does_meta_agree (record rows { meta = record { server = 1; primary = 1; commits = 7; dropped = 0; clock = 5 } }) ≡ false
unfolding digits
many_commits = refl

dropped_at_primary : does_meta_agree (record rows { meta = record { server = 1; primary = 1; commits = 1; dropped = 1; clock = 5 } }) ≡ false
unfolding digits
dropped_at_primary = refl

two_committed : do_marks_agree (record rows { vector = record { server = 1; count = 5; last_time = 5; committed = 2 } ∷ [] }) ≡ false
unfolding digits
two_committed = refl

no_room : do_rooms_agree (record rows { room = codes "elm" ∷ [] }) ≡ false
unfolding digits
no_room = refl

no_log : does_log_agree (record rows { log = [] }) ≡ false
unfolding digits
no_log = refl

late : do_times_agree (record rows { vector = record { server = 1; count = 5; last_time = 6; committed = 1 } ∷ [] }) ≡ false
unfolding digits
late = refl

no_place : do_places_agree (record rows { booking = [] }) ≡ false
unfolding digits
no_place = refl

not_cancelled : do_cancels_agree (record rows { cancelled = [] }) ≡ false
unfolding digits
not_cancelled = refl

abbrev day : Date
day = record { year = 1995; month = 12; day = 18 }

abbrev beta : ℕ → ℕ → BookingRow
beta start stop = record { room = codes "oak"; day = day; start = start; stop = stop; server = 1; n = 2; title = codes "Beta"; committed = false }

ends_early : do_spans_agree (record rows { booking = beta 600 540 ∷ [] }) ≡ false
unfolding digits
ends_early = refl

meets : are_rows_apart (beta 600 660 ∷ beta 630 700 ∷ []) ≡ false
unfolding digits
meets = refl

none_counted : do_counts_agree (record rows { vector = record { server = 1; count = 0; last_time = 5; committed = 0 } ∷ [] }) ≡ false
unfolding digits
none_counted = refl

short_log : is_log_whole (record rows { log = [] }) ≡ false
unfolding digits
short_log = refl

no_time : do_limits_agree (record rows { vector = record { server = 1; count = 5; last_time = 0; committed = 1 } ∷ [] }) ≡ false
unfolding digits
no_time = refl

-- Beta's row stands there twice, Gamma's is lost: as many rows as are counted
one_twice : do_ids_agree (record rows { booking = beta 600 660 ∷ beta 600 660 ∷ [] }) ≡ false
unfolding digits
one_twice = refl

-- Beta is not committed
marked_early : do_marks_agree (record rows { booking = record (beta 600 660) { committed = true } ∷ [] }) ≡ false
unfolding digits
marked_early = refl

-- the log begins behind Beta, which is not committed, so that it can't be dropped
tentative_lost : does_log_agree (record rows { log = drop 2 rows.log }) ≡ false
unfolding digits
tentative_lost = refl

-- the log begins behind Alpha, which is committed, but nothing is dropped
first_lost : is_log_whole (record rows { log = drop 1 rows.log }) ≡ false
unfolding digits
first_lost = refl

-- each part is one of the whole
no_clock_at_all : agree (record rows { meta = record { server = 1; primary = 1; commits = 1; dropped = 0; clock = 0 } }) ≡ false
unfolding digits
no_clock_at_all = refl

-- ---- ids that rows have: one row each, of the log, of booking, of cancelled and of cancels, and one that none has

abbrev no_rows : Tables
no_rows = record rows { log = []; booking = []; cancelled = []; cancels = [] }

abbrev id_of_server_1 : ℕ → Id
id_of_server_1 n = record { server = 1; n = n }

taken_in_log : has_row_of_id (id_of_server_1 5) (record no_rows { log = rows.log }) ≡ true
unfolding digits
taken_in_log = refl

taken_in_booking : has_row_of_id (id_of_server_1 2) (record no_rows { booking = rows.booking }) ≡ true
unfolding digits
taken_in_booking = refl

taken_in_cancelled : has_row_of_id (id_of_server_1 1) (record no_rows { cancelled = rows.cancelled }) ≡ true
unfolding digits
taken_in_cancelled = refl

taken_in_cancels : has_row_of_id (id_of_server_1 5) (record no_rows { cancels = rows.cancels }) ≡ true
unfolding digits
taken_in_cancels = refl

taken_in_errorlog : has_row_of_id (record { server = 2; n = 2 }) (record no_rows { errorlog = (tables_of mixed).errorlog }) ≡ true
unfolding digits
taken_in_errorlog = refl

none_taken : has_row_of_id (id_of_server_1 6) rows ≡ false
unfolding digits
none_taken = refl
