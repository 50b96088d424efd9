-- The rows of tables that stand for some replicas, computed by the definitions.
use Rattle.std.specs.Prelude.{◌≡◌, true, false, List, [], ◌∷◌, codes, refl}
use Prim.Native.String.{String}
use Rattle.std.specs.Fmt.{digits}
use Rattle.mr_model.specs.Calendar.{Date}
use Rattle.mr_model.specs.Replay.{Taken, Logged, Done, Void}
use Rattle.mr_model.specs.Replica.{Replica, opening}
use Rattle.mr_model.specs.Step.{AddRoom, Submit, Cancel, Commit, Truncate, Submission, SlotWords}
use Rattle.mr_model.specs.Tables.{OfMeeting, OfCancel, Tables, tables_of}
use Rattle.mr_model.specs.First.{FirstTables, first_tables_of, moved}
use Rattle.mr_model.specs.Scopes.{counted_rows}
use Rattle.mr_model.proofs.Script.{Do, Lines, Bytes, elm_batch, q, replica_after}

-- ---- how many rows there are

rows_beside_committed : counted_rows (tables_of (replica_after (opening 9 1) (Bytes elm_batch ∷ Bytes q ∷ []))) ≡ 104
unfolding digits
rows_beside_committed = refl

-- fifty writes, committed and dropped, and two of oak: the log has the two, the bookings and errors all
rows_after_dropping : counted_rows (tables_of (replica_after (opening 9 1) (Bytes elm_batch ∷ Do (Truncate 50) ∷ Bytes q ∷ []))) ≡ 54
unfolding digits
rows_after_dropping = refl

-- ---- all rows of one replica, before and after it drops a commit

abbrev at : String → SlotWords
at time = record { day = codes "1995-12-18"; time = codes time }

-- replica 2 books twice, and then learns an earlier write that is committed: its first booking moves, and its second is logged
abbrev mixed : Replica
mixed =
    replica_after (opening 2 1)
    (Lines ("mr1 3 1" ∷ "W 3 1 1 oak 60 1995-12-18 13:30 0 Gamma" ∷ "E" ∷ []) ∷
    Do (Submit (record { room = codes "oak"; title = codes "Alpha"; length = codes "60"; wish = at "14:00"; alternatives = at "16:00" ∷ [] })) ∷
    Do (Submit (record { room = codes "oak"; title = codes "Beta"; length = codes "30"; wish = at "16:30"; alternatives = [] })) ∷
    Lines ("mr1 1 1" ∷ "C 1 3 1" ∷ "E" ∷ []) ∷ [])

abbrev day : Date
day = record { year = 1995; month = 12; day = 18 }

abbrev tables_of_mixed : Tables
tables_of_mixed =
    record {
      meta = record { server = 2; primary = 1; commits = 1; dropped = 0; clock = 3 };
      room = codes "oak" ∷ [];
      vector = record { server = 2; count = 2; last_time = 3; committed = 0 } ∷ record { server = 3; count = 1; last_time = 1; committed = 1 } ∷ [];
      log =
          record {
            server = 2;
            n = 1;
            time = 2;
            room = codes "oak";
            action = OfMeeting (record { length = 60; choices = codes "1995-12-18 14:00 1995-12-18 16:00"; title = codes "Alpha" });
            place = Taken 1;
            seq = 0;
          }
          ∷ record { server = 2; n = 2; time = 3; room = codes "oak"; action = OfMeeting (record { length = 30; choices = codes "1995-12-18 16:30"; title = codes "Beta" }); place = Logged; seq = 0 }
          ∷ record { server = 3; n = 1; time = 1; room = codes "oak"; action = OfMeeting (record { length = 60; choices = codes "1995-12-18 13:30"; title = codes "Gamma" }); place = Taken 0; seq = 1 }
          ∷ [];
      booking =
          record { room = codes "oak"; day = day; start = 960; stop = 1020; server = 2; n = 1; title = codes "Alpha"; committed = false }
          ∷ record { room = codes "oak"; day = day; start = 810; stop = 870; server = 3; n = 1; title = codes "Gamma"; committed = true } ∷ [];
      errorlog = record { room = codes "oak"; day = day; start = 990; stop = 1020; server = 2; n = 2; title = codes "Beta"; time = 3; seq = 0 } ∷ [];
      cancelled = [];
      cancels = [];
    }

mixed_rows : tables_of mixed ≡ tables_of_mixed
unfolding digits
mixed_rows = refl

-- the dropped write leaves the log; its booking, its mark and the counts stay
mixed_rows_dropped :
    tables_of (replica_after mixed (Do (Truncate 1) ∷ []))
    ≡ record tables_of_mixed {
      meta = record { server = 2; primary = 1; commits = 1; dropped = 1; clock = 3 };
      log =
          record {
            server = 2;
            n = 1;
            time = 2;
            room = codes "oak";
            action = OfMeeting (record { length = 60; choices = codes "1995-12-18 14:00 1995-12-18 16:00"; title = codes "Alpha" });
            place = Taken 1;
            seq = 0;
          }
          ∷ record { server = 2; n = 2; time = 3; room = codes "oak"; action = OfMeeting (record { length = 30; choices = codes "1995-12-18 16:30"; title = codes "Beta" }); place = Logged; seq = 0 } ∷
          [];
    }
unfolding digits
mixed_rows_dropped = refl

-- ---- the first schema

-- its tables of the same replica, which has dropped a commit: the log and the places are tables of their own, without the dropped write
abbrev first_of_mixed : FirstTables
first_of_mixed =
    record {
      meta = record { server = 2; primary = 1; commits = 1; dropped = 1; clock = 3 };
      room = tables_of_mixed.room;
      vector = tables_of_mixed.vector;
      write_log =
          record { server = 2; n = 1; time = 2; room = codes "oak"; length = 60; choices = codes "1995-12-18 14:00 1995-12-18 16:00"; title = codes "Alpha"; seq = 0 }
          ∷ record { server = 2; n = 2; time = 3; room = codes "oak"; length = 30; choices = codes "1995-12-18 16:30"; title = codes "Beta"; seq = 0 } ∷ [];
      undo = record { server = 2; n = 1; place = Taken 1 } ∷ record { server = 2; n = 2; place = Logged } ∷ [];
      booking = tables_of_mixed.booking;
      errorlog = tables_of_mixed.errorlog;
    }

first_rows : first_tables_of (replica_after mixed (Do (Truncate 1) ∷ [])) ≡ first_of_mixed
unfolding digits
first_rows = refl

-- a row of the log without a place moves up to no row
without_place : (moved (record first_of_mixed { undo = record { server = 2; n = 2; place = Logged } ∷ [] })).log ≡
    record { server = 2; n = 2; time = 3; room = codes "oak"; action = OfMeeting (record { length = 30; choices = codes "1995-12-18 16:30"; title = codes "Beta" }); place = Logged; seq = 0 } ∷ []
unfolding digits
without_place = refl

-- ---- cancels

abbrev pub booking : String → List SlotWords → String → Submission
booking start others title = record { room = codes "oak"; title = codes title; length = codes "60"; wish = at start; alternatives = others }

-- a committed booking is cancelled, its slot is taken again, and a second cancel finds nothing
abbrev cancelled_once : Replica
cancelled_once =
    replica_after (opening 1 1)
    (Do (AddRoom (codes "oak")) ∷ Do (Submit (booking "09:00" [] "Alpha")) ∷ Do (Submit (booking "09:00" (at "10:00" ∷ []) "Beta")) ∷ Do (Commit 1)
    ∷ Do (Cancel (codes "oak") (codes "1-1")) ∷ Do (Submit (booking "09:00" [] "Gamma")) ∷ Do (Cancel (codes "oak") (codes "1-1")) ∷ [])

cancelled_once_rows :
    tables_of cancelled_once
    ≡ record {
      meta = record { server = 1; primary = 1; commits = 1; dropped = 0; clock = 5 };
      room = codes "oak" ∷ [];
      vector = record { server = 1; count = 5; last_time = 5; committed = 1 } ∷ [];
      log =
          record { server = 1; n = 1; time = 1; room = codes "oak"; action = OfMeeting (record { length = 60; choices = codes "1995-12-18 09:00"; title = codes "Alpha" }); place = Taken 0; seq = 1 }
          ∷ record {
            server = 1;
            n = 2;
            time = 2;
            room = codes "oak";
            action = OfMeeting (record { length = 60; choices = codes "1995-12-18 09:00 1995-12-18 10:00"; title = codes "Beta" });
            place = Taken 1;
            seq = 0;
          }
          ∷ record { server = 1; n = 3; time = 3; room = codes "oak"; action = OfCancel (record { server = 1; n = 1 }); place = Done; seq = 0 }
          ∷ record { server = 1; n = 4; time = 4; room = codes "oak"; action = OfMeeting (record { length = 60; choices = codes "1995-12-18 09:00"; title = codes "Gamma" }); place = Taken 0; seq = 0 }
          ∷ record { server = 1; n = 5; time = 5; room = codes "oak"; action = OfCancel (record { server = 1; n = 1 }); place = Void; seq = 0 } ∷ [];
      booking =
          record { room = codes "oak"; day = day; start = 600; stop = 660; server = 1; n = 2; title = codes "Beta"; committed = false }
          ∷ record { room = codes "oak"; day = day; start = 540; stop = 600; server = 1; n = 4; title = codes "Gamma"; committed = false } ∷ [];
      errorlog = [];
      cancelled = record { room = codes "oak"; day = day; start = 540; stop = 600; server = 1; n = 1; title = codes "Alpha"; committed = true; by = record { server = 1; n = 3 } } ∷ [];
      cancels =
          record { server = 1; n = 3; room = codes "oak"; target = record { server = 1; n = 1 }; done = true; time = 3; seq = 0 }
          ∷ record { server = 1; n = 5; room = codes "oak"; target = record { server = 1; n = 1 }; done = false; time = 5; seq = 0 } ∷ [];
    }
unfolding digits
cancelled_once_rows = refl

-- a booking that a tentative cancel took back
abbrev pub cancelled_alpha : Replica
cancelled_alpha =
    replica_after (opening 1 1) (Do (AddRoom (codes "oak")) ∷ Do (Submit (booking "09:00" [] "Alpha")) ∷ Do (Cancel (codes "oak") (codes "1-1")) ∷ [])

abbrev tables_of_alpha : Tables
tables_of_alpha =
    record {
      meta = record { server = 1; primary = 1; commits = 0; dropped = 0; clock = 2 };
      room = codes "oak" ∷ [];
      vector = record { server = 1; count = 2; last_time = 2; committed = 0 } ∷ [];
      log =
          record { server = 1; n = 1; time = 1; room = codes "oak"; action = OfMeeting (record { length = 60; choices = codes "1995-12-18 09:00"; title = codes "Alpha" }); place = Taken 0; seq = 0 }
          ∷ record { server = 1; n = 2; time = 2; room = codes "oak"; action = OfCancel (record { server = 1; n = 1 }); place = Done; seq = 0 } ∷ [];
      booking = [];
      errorlog = [];
      cancelled = record { room = codes "oak"; day = day; start = 540; stop = 600; server = 1; n = 1; title = codes "Alpha"; committed = false; by = record { server = 1; n = 2 } } ∷ [];
      cancels = record { server = 1; n = 2; room = codes "oak"; target = record { server = 1; n = 1 }; done = true; time = 2; seq = 0 } ∷ [];
    }

cancelled_alpha_rows : tables_of cancelled_alpha ≡ tables_of_alpha
unfolding digits
cancelled_alpha_rows = refl

-- two rows of the log, and one of the cancelled booking; that of the cancel is not counted
rows_of_alpha : counted_rows tables_of_alpha ≡ 3
unfolding digits
rows_of_alpha = refl

-- it is committed: its row stays in cancelled, and gets the mark there
committed_alpha_rows :
    tables_of (replica_after cancelled_alpha (Do (Commit 1) ∷ []))
    ≡ record tables_of_alpha {
      meta = record { server = 1; primary = 1; commits = 1; dropped = 0; clock = 2 };
      vector = record { server = 1; count = 2; last_time = 2; committed = 1 } ∷ [];
      log =
          record { server = 1; n = 1; time = 1; room = codes "oak"; action = OfMeeting (record { length = 60; choices = codes "1995-12-18 09:00"; title = codes "Alpha" }); place = Taken 0; seq = 1 }
          ∷ record { server = 1; n = 2; time = 2; room = codes "oak"; action = OfCancel (record { server = 1; n = 1 }); place = Done; seq = 0 } ∷ [];
      cancelled = record { room = codes "oak"; day = day; start = 540; stop = 600; server = 1; n = 1; title = codes "Alpha"; committed = true; by = record { server = 1; n = 2 } } ∷ [];
    }
unfolding digits
committed_alpha_rows = refl

-- a dropped cancel keeps its row, and so does the booking that it took back
dropped_cancel_rows :
    tables_of (replica_after (opening 2 1)
    (Do (AddRoom (codes "oak")) ∷ Do (Submit (booking "09:00" [] "Alpha")) ∷ Do (Cancel (codes "oak") (codes "2-1"))
    ∷ Lines ("mr1 1 1" ∷ "C 1 2 1" ∷ "C 2 2 2" ∷ "E" ∷ []) ∷ Do (Truncate 2) ∷ Do (Cancel (codes "oak") (codes "2-1")) ∷ []))
    ≡ record {
      meta = record { server = 2; primary = 1; commits = 2; dropped = 2; clock = 3 };
      room = codes "oak" ∷ [];
      vector = record { server = 2; count = 3; last_time = 3; committed = 2 } ∷ [];
      log = record { server = 2; n = 3; time = 3; room = codes "oak"; action = OfCancel (record { server = 2; n = 1 }); place = Void; seq = 0 } ∷ [];
      booking = [];
      errorlog = [];
      cancelled = record { room = codes "oak"; day = day; start = 540; stop = 600; server = 2; n = 1; title = codes "Alpha"; committed = true; by = record { server = 2; n = 2 } } ∷ [];
      cancels =
          record { server = 2; n = 2; room = codes "oak"; target = record { server = 2; n = 1 }; done = true; time = 2; seq = 2 }
          ∷ record { server = 2; n = 3; room = codes "oak"; target = record { server = 2; n = 1 }; done = false; time = 3; seq = 0 } ∷ [];
    }
unfolding digits
dropped_cancel_rows = refl
