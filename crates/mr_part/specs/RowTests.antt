-- Which rows are in scope: tests that are made once for all rows of a table, and for which scope they are.
use Rattle.std.specs.Prelude.{◌≡◌, Bool, false, ◌||◌, List, [], ◌∷◌, map, filter, Option, Some, None, ℕ, ◌&&◌, flat_map, suc, if◌then◌else◌, ◌↔◌, IsTrue}
use Rattle.std.specs.BTreeSet.{BTreeSet}
use Rattle.mr_model.specs.Texts.{Text, within}
use Rattle.mr_model.specs.Writes.{Id, same_id, Write, id_of, is_write}
use Rattle.mr_model.specs.Replica.{Replica, IsReplica, is_among}
use Rattle.mr_model.specs.Tables.{LogRow, BookingRow, ErrorRow, CancelledRow, Tables, log_row, log_row_with}
use Rattle.mr_model.specs.Queries.{booking_id, error_id, cancelled_id, log_id}
use Rattle.mr_model.specs.Scopes.{Scope, InRoom, OfTarget, NextCommits, OfItems, is_above, next_commits, touched_rooms, with_rows, is_tentative, rooms_of_item, row_before}
use Rattle.mr_part.specs.declared.scope.bookings.BookingTest.{BookingTest}
use Rattle.mr_part.specs.declared.scope.logs.LogTest.{LogTest}
use Rattle.mr_part.specs.declared.scope.logs.LogTest.TheVariants as test
use Rattle.mr_part.specs.declared.scope.wanted.Wanted.{Wanted}
use Rattle.mr_part.specs.KeptRows.{kept_row}
use Rattle.mr_part.specs.Parts.{HasRowsButBookings, kept_in}
use Rattle.mr_part.specs.Sets.{has_id, IsSetOf}
use Rattle.mr_replay.specs.Seen.{has_room}
use Rattle.mr_model.specs.Exchange.{Item}
use Rattle.mr_part.specs.declared.scope.batch_scope.BatchScope.{BatchScope}
use Rattle.mr_part.specs.Named.{has_named, IsNamedBy}
use Rattle.mr_part.specs.Tails.{has_place, IsTail}
use Rattle.std.specs.List.{AllByRecursion}
use Rattle.mr_replay.specs.Rows.{undo_row_at}
use Rattle.mr_model.specs.Dropped.{Has}
use Rattle.mr_model.specs.Kept.{AreInRunOrder}
use Rattle.mr_model.specs.Changes.{RiseById}
use Rattle.mr_part.specs.declared.kept_rows.KeptRow.{KeptRow}

-- ---- the writes that rows of log tell, picked row by row

-- the row of log that tells a kept write
abbrev pub log_row_of : KeptRow → LogRow
log_row_of x = log_row_with x.write x.undo.place x.seq

-- within the limits, and undone by the row of its own place
abbrev pub IsWriteWithin : KeptRow → Type 0
IsWriteWithin x = IsTrue (is_write x.write) × (x.undo ≡ undo_row_at x.write x.undo.place)

abbrev pub AreWritesWithin : List KeptRow → Type 0
AreWritesWithin xs = AllByRecursion IsWriteWithin xs

-- how many of these rows a row does not stand before by its stamp, up to the first that it does
abbrev pub stamp_place : LogRow → List LogRow → ℕ
stamp_place row [] = 0
stamp_place row (x ∷ xs) = if row_before row x then 0 else suc (stamp_place row xs)

-- the rows that pass are those of kept writes, in the order of keys; in the order of execution these are the writes
pub record ArePicked (a : Replica) (test : LogRow → Bool) (rows : List LogRow) (ws : List Write) : Type 0 where
  pub by_key : List Write
  pub rows_are : filter test rows ≡ map (log_row a) by_key
  pub rising : RiseById (map id_of by_key)
  pub same : (w : Write) → Has w by_key ↔ Has w ws
  pub known : (w : Write) → Has w ws → Has w a.known
  pub in_order : AreInRunOrder (map (log_row a) ws)

-- ---- what a batch that is received needs of the rows of log

-- whether the row is named, or tentative, in the tail and of a room that is touched
abbrev pub has_log : BatchScope → LogRow → Bool
has_log batch row =
    has_named batch.named (log_id row) row.seq || ((is_tentative row && has_place batch.tail row.time row.server) && has_room batch.rooms row.room)

-- what these items need, where so many commits are known, and these rows of the log tell which rooms the new ones touch
pub record IsBatchScope (batch : BatchScope) (commits : ℕ) (items : List Item) (rows : List LogRow) : Type 0 where
  pub named_by : IsNamedBy batch.named items
  pub tail_is : IsTail batch.tail commits items
  pub rooms_are : IsSetOf batch.rooms (flat_map (rooms_of_item commits rows) items)

-- ---- rows of log

abbrev pub passes_log_test : LogTest → LogRow → Bool
passes_log_test (test.UpTo number) row = within 1 number row.seq
passes_log_test (test.Above number) row = is_above number row
passes_log_test (test.OfBatch batch) row = has_log batch.now row

-- ---- rows of bookings

-- the set has these ids
abbrev pub IsIdSetOf : BTreeSet Id → List Id → Type 0
IsIdSetOf set ids = (id : Id) → has_id set id ≡ is_among id ids

abbrev pub is_target : Option Id → Id → Bool
is_target None id = false
is_target (Some target) id = same_id id target

abbrev pub has_booking : BookingTest → BookingRow → Bool
has_booking test row = has_room test.rooms row.room || is_target test.target (booking_id row)

abbrev pub has_error : BookingTest → ErrorRow → Bool
has_error test row = is_target test.target (error_id row)

abbrev pub has_cancelled : BookingTest → CancelledRow → Bool
has_cancelled test row = has_room test.rooms row.room || (is_target test.target (cancelled_id row) || has_id test.taken (cancelled_id row))

-- the tables with these rows alone
abbrev pub tested_rows : BookingTest → Tables → Tables
tested_rows test t = with_rows t [] (filter (has_booking test) t.booking) (filter (has_error test) t.errorlog) (filter (has_cancelled test) t.cancelled)

-- the test is for the bookings of these rooms, for that of this id, and for those of these ids that a cancel took back
pub record IsBookingTest (test : BookingTest) (rooms : List Text) (target : Option Id) (taken : List Id) : Type 0 where
  pub rooms_are : IsSetOf test.rooms rooms
  pub target_is : test.target ≡ target
  pub taken_are : IsIdSetOf test.taken taken

-- ---- what a scope needs

-- the rooms whose bookings are in scope, those that a cancel took back too
abbrev pub rooms_wanted : Scope → Tables → List Text
rooms_wanted (InRoom room) t = room ∷ []
rooms_wanted (OfItems items) t = touched_rooms t items
rooms_wanted _ t = []

-- the id whose booking is in scope, whatever became of it
abbrev pub target_wanted : Scope → Option Id
target_wanted (OfTarget target) = Some target
target_wanted _ = None

-- the ids whose bookings are in scope where a cancel took them back
abbrev pub taken_wanted : Scope → Tables → List Id
taken_wanted (NextCommits k) t = map log_id (next_commits k t)
taken_wanted _ t = []

-- what a command of this scope needs of these tables: of a replica's rows in scope the kept writes are those of the replica
pub record IsWanted (wanted : Wanted) (s : Scope) (t : Tables) : Type 0 where
  pub bookings_are : IsBookingTest wanted.bookings (rooms_wanted s t) (target_wanted s) (taken_wanted s t)
  pub kept_are : (a : Replica) → IsReplica a → HasRowsButBookings t s a → wanted.kept.items ≡ map (kept_row a) (kept_in s a)
