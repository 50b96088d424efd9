-- The laws of the definitions, as statements.
use Rattle.std.specs.Prelude.{◌≡◌, ℕ, ◌+◌, ◌≤◌, ◌<◌, length, true, false, ◌↔◌, ◌⊎◌, List, [], ◌∷◌, ◌++◌, take, drop, map}
use Rattle.std.specs.Prelude.{filter, filter_map, flat_map, if◌then◌else◌, Option, Some, None, option_map, Ok, Err, IsTrue}
use Rattle.std.specs.List.{AllByRecursion}
use Rattle.mr_model.specs.Texts.{Text, lines_text, whole_lines}
use Rattle.mr_model.specs.Calendar.{Date, is_date, next_date, number_of_day}
use Rattle.mr_model.specs.Slots.{Slot, Overlap, overlaps}
use Rattle.mr_model.specs.Writes.{Id, Write, id_of, is_server, is_write, same_write}
use Rattle.mr_model.specs.Refusals.{BadLine, NoSuchRequest, NeedsVersion2, first_refusal}
use Rattle.mr_model.specs.Replay.{Place, IsReplay, Booking, StandsBefore, place_among, replay_among, replay}
use Rattle.mr_model.specs.Replica.{Replica, opening, count_of, committed_count, order_of, knows_room, IsReplica}
use Rattle.mr_model.specs.Exchange.{Second, Batch, is_batch, batch_lines, batch_text, ReadsAs, IsFirstBadLine, read_batch, lines_within, front_of}
use Rattle.mr_model.specs.Positions.{Position, position_of, is_position, position_text, read_position}
use Rattle.mr_model.specs.Replies.{Entry, Reply, OutcomeIs, BatchIs, Refused}
use Rattle.mr_model.specs.View.{View, Placed, Told, Question, of_room, view_of, placed_with, whole_places, committed_places, booked_told}
use Rattle.mr_model.specs.View.{whole_list, committed_list, place_of, entries, logging_of, told_of, outcome_reply, answer}
use Rattle.mr_model.specs.Step.{Command, Ask, Submission, submit_faults, cancel_faults, next_stamp, write_of, outcome_at}
use Rattle.mr_model.specs.Step.{cancel_write, step, IsStep, IsOfMachine, IsRun, BatchFor, batch_of, batch_reply}
use Rattle.mr_model.specs.Changes.{IsNext, WriteInserted, CommitMoved, SubmitChanges, after_commit, CommitChanges, TruncateChanges, AreInKeyOrder, HasRowsOfKnown, HaveSameRows, AreSameTables}
use Rattle.mr_model.specs.Dropped.{Has, DifferInDropped}
use Rattle.mr_model.specs.Tables.{Tables, BookingRow, ErrorRow, CancelledRow, CancelRow, PlaceRow, place_row, booking_row, error_row, cancel_row, tables_of, Stands}
use Rattle.mr_model.specs.Serving.{TakesStep, TakesRun, Answered, Serves, Reaches}
use Rattle.mr_model.specs.Kept.{KeptIsTheLog}
use Rattle.mr_model.specs.Queries.{row_entry, booking_id, error_id, cancelled_id, cancel_id, booked_outcome, logged_outcome, cancelled_outcome, cancel_outcome, IsCancelOf, TellsOutcome}
use Rattle.mr_model.specs.Queries.{row_id, row_room, IsRowFor, IsRowIn, AreInStartOrder, AreBookingsOf, AreCommittedBookingsOf, LogLine, line_logging, AreInLogOrder, AreErrorsOf}
use Rattle.mr_model.specs.First.{FirstTables, StandsFirst, HavePlaces, moved}
use Rattle.mr_model.specs.Board.{RoomBooking, after, bookings_in, place_on, booked_on, replay_on, board_replay, board_after, places_of_room}

-- two slots overlap exactly where the test says so
abbrev pub OverlapIsTested : Type 0
OverlapIsTested = (a : Slot) (m : ℕ) (b : Slot) (n : ℕ) → (overlaps a m b n ≡ true) ↔ Overlap a m b n

-- for each list of writes exactly one list of places is its replay: the one that the function gives
abbrev pub OneReplay : Type 0
OneReplay = (writes : List Write) (places : List Place) → IsReplay writes places ↔ (places ≡ replay writes)

-- the places of a front of a list are a front of its places
abbrev pub FrontsReplayToFronts : Type 0
FrontsReplayToFronts = (n : ℕ) (writes : List Write) → replay (take n writes) ≡ take n (replay writes)

-- with more writes behind them the committed ones have the places that they have by themselves
abbrev pub CommittedPlacesStandAlone : Type 0
CommittedPlacesStandAlone =
    (v : View)
    → whole_places v ≡ committed_places v ++ placed_with false v.tentative (drop (length v.committed) (replay (v.committed ++ v.tentative)))

-- the bookings after some writes are those that stand before the end of their list
abbrev pub StandingIsBooked : Type 0
StandingIsBooked = (writes : List Write) (b : Booking) → Has b (after [] writes) ↔ StandsBefore writes (replay writes) (length writes) b

-- and they are what is told of the writes as booked and not cancelled, in the same order
abbrev pub StandingIsTold : Type 0
StandingIsTold = (v : View) → flat_map booked_told (whole_list v) ≡ after [] (v.committed ++ v.tentative)

-- of the committed list too
abbrev pub StandingIsToldOfCommitted : Type 0
StandingIsToldOfCommitted = (v : View) → flat_map booked_told (committed_list v) ≡ after [] v.committed

-- the entry of a calendar shows this booking
pub record Shows (e : Entry) (b : Booking) : Type 0 where
  pub day : e.day ≡ b.slot.day
  pub start : e.start ≡ b.slot.start
  pub stop : e.stop ≡ b.slot.start + b.length
  pub id : e.id ≡ b.id

-- the calendar of these told writes shows just the bookings that stand at the end of this list
pub record ShowsStanding (ts : List Told) (writes : List Write) : Type 0 where
  pub shown : (e : Entry) → Has e (entries ts) → (b : Booking) × StandsBefore writes (replay writes) (length writes) b × Shows e b
  pub all : (b : Booking) → StandsBefore writes (replay writes) (length writes) b → (e : Entry) × Has e (entries ts) × Shows e b

-- the full calendar those at the end of the whole list, the committed one those at the end of the committed list
abbrev pub CalendarsShowStanding : Type 0
CalendarsShowStanding =
    (v : View) → ShowsStanding (whole_list v) (v.committed ++ v.tentative) × ShowsStanding (committed_list v) v.committed

-- each of them apart from all behind it
abbrev pub AreApart : List Booking → Type 0
AreApart [] = Unit {0}
AreApart (b ∷ bs) = AllByRecursion (λ c. ¬ (Overlap b.slot b.length c.slot c.length)) bs × AreApart bs

-- no two bookings that stand overlap
abbrev pub StandingAreApart : Type 0
StandingAreApart = (writes : List Write) → AreApart (after [] writes)

-- told with the cancels that are committed alone
abbrev pub of_committed : Option Placed → Option Placed
of_committed None = None
of_committed (Some c) = if c.is_committed then Some c else None

abbrev pub as_committed : Told → Told
as_committed t = record { write = t.write; is_committed = t.is_committed; place = t.place; cancelled_by = of_committed t.cancelled_by }

-- the committed list is the committed part of the whole one, told as if tentative cancels took nothing back
abbrev pub CommittedListIsAPart : Type 0
CommittedListIsAPart = (v : View) → committed_list v ≡ map as_committed (filter (λ t. t.is_committed) (whole_list v))

-- a tentative booking is cancelled by a tentative cancel, if by any
abbrev pub CancelsComeLater : Type 0
CancelsComeLater =
    (v : View) (t : Told) (c : Placed) → Has t (whole_list v) → t.is_committed ≡ false → t.cancelled_by ≡ Some c → c.is_committed ≡ false

-- what became of a write, marks aside: its place, and the cancel that took it back
pub record Fate : Type 0 where
  pub write : Write
  pub place : Place
  pub cancelled_by : Option Id

abbrev pub fate_of : Told → Fate
fate_of t = record { write = t.write; place = t.place; cancelled_by = option_map (λ c. id_of c.write) t.cancelled_by }

-- what becomes of writes follows from their order alone, whichever of them are committed
abbrev pub FatesFollowTheOrder : Type 0
FatesFollowTheOrder =
    (u v : View) → u.committed ++ u.tentative ≡ v.committed ++ v.tentative → map fate_of (whole_list u) ≡ map fate_of (whole_list v)

-- a reply about a room is the answer of the replica's view of it, unless memory or the store failed
abbrev pub RepliesAreAnswers : Type 0
RepliesAreAnswers =
    (old new : Replica) (room : Text) (question : Question) (reply : Reply)
    → IsStep old (Ask room question) reply new → (reply ≡ answer room (view_of old room) question) ⊎ IsOfMachine reply

-- replicas with the same view of a room answer alike about it, whatever else they know
abbrev pub EqualViewsAnswerAlike : Type 0
EqualViewsAnswerAlike =
    (a b : Replica) (room : Text) (question : Question)
    → view_of a room ≡ view_of b room → (step a (Ask room question)).reply ≡ (step b (Ask room question)).reply

-- what holds of every replica holds of an opening one, and of each that steps lead to
abbrev pub OpeningsAreReplicas : Type 0
OpeningsAreReplicas = (server primary : ℕ) → IsTrue (is_server server) → IsTrue (is_server primary) → IsReplica (opening server primary)

abbrev pub StepsKeepReplicas : Type 0
StepsKeepReplicas = (old new : Replica) (command : Command) (reply : Reply) → IsReplica old → IsStep old command reply new → IsReplica new

abbrev pub RunsKeepReplicas : Type 0
RunsKeepReplicas =
    (old new : Replica) (commands : List Command) (replies : List Reply)
    → IsReplica old → IsRun old commands replies new → IsReplica new

-- in a run, each reply about a room is the answer of the view at the replica that the commands before have led to
abbrev pub RunsAnswer : Type 0
RunsAnswer =
    (old new : Replica) (commands : List Command) (replies : List Reply)
    → IsRun old commands replies new → Answered old commands replies new

-- no text is that of two batches, also not of one of each version
abbrev pub OneBatchAText : Type 0
OneBatchAText = (a b : Batch) → is_batch a ≡ true → is_batch b ≡ true → batch_text a ≡ batch_text b → a ≡ b

-- a batch is read back from its text
abbrev pub BatchesReadBack : Type 0
BatchesReadBack = (b : Batch) → is_batch b ≡ true → read_batch (batch_text b) ≡ Ok b

-- reading gives a batch exactly where the bytes read as it
abbrev pub ReadingIsExact : Type 0
ReadingIsExact = (bytes : Text) (b : Batch) → (read_batch bytes ≡ Ok b) ↔ ReadsAs bytes b

-- it answers a bad line exactly where that is the first that is not of its place
abbrev pub BadLineIsFirst : Type 0
BadLineIsFirst = (bytes : Text) (i : ℕ) → (read_batch bytes ≡ Err (BadLine i)) ↔ IsFirstBadLine bytes i

-- writes are told apart by all their parts
abbrev pub SameWriteIsTested : Type 0
SameWriteIsTested = (a b : Write) → (same_write a b ≡ true) ↔ (a ≡ b)

-- 1990-01-01 is day 0, and each day has the number after that of the day before
abbrev pub DaysAreNumbered : Type 0
DaysAreNumbered =
    (number_of_day (record { year = 1990; month = 1; day = 1 }) ≡ 0)
    × ((d : Date) → is_date d ≡ true → number_of_day (next_date d) ≡ number_of_day d + 1)

-- ---- tables

-- replicas have the same tables exactly where they differ in dropped writes alone, in what no table keeps of these
abbrev pub TablesKeepAllButDropped : Type 0
TablesKeepAllButDropped = (a b : Replica) → IsReplica a → IsReplica b → (tables_of a ≡ tables_of b) ↔ DifferInDropped a b

-- replicas with the same tables reply alike to every command
abbrev pub EqualTablesEqualReplies : Type 0
EqualTablesEqualReplies =
    (a b : Replica) (command : Command) → IsReplica a → IsReplica b
    → tables_of a ≡ tables_of b → (step a command).reply ≡ (step b command).reply

-- and have the same tables after it
abbrev pub EqualTablesStayEqual : Type 0
EqualTablesStayEqual =
    (a b : Replica) (command : Command) → IsReplica a → IsReplica b
    → tables_of a ≡ tables_of b → tables_of (step a command).replica ≡ tables_of (step b command).replica

-- what one run of commands replies, another replica with the same tables may reply too, and the tables are the same at the end
abbrev pub EqualTablesEqualRuns : Type 0
EqualTablesEqualRuns =
    (a b end : Replica) (commands : List Command) (replies : List Reply) → IsReplica a → IsReplica b
    → tables_of a ≡ tables_of b → IsRun a commands replies end
    → (other : Replica) × IsRun b commands replies other × (tables_of end ≡ tables_of other)

-- ---- tables that are served

-- no command leaves the tables as they are
abbrev pub NoCommandsTakeNothing : Type 0
NoCommandsTakeNothing = (t : Tables) → TakesRun t [] [] t

-- a run of tables grows by a step at its end
abbrev pub TakenRunsGrow : Type 0
TakenRunsGrow =
    (before middle after : Tables) (commands : List Command) (replies : List Reply) (command : Command) (reply : Reply)
    → TakesRun before commands replies middle → TakesStep middle command reply after
    → TakesRun before (commands ++ command ∷ []) (replies ++ reply ∷ []) after

-- each run of tables is served, with the answers to its questions
abbrev pub TakenRunsServe : Type 0
TakenRunsServe =
    (before after : Tables) (commands : List Command) (replies : List Reply)
    → TakesRun before commands replies after → Serves before commands replies after

-- a step of one replica that the tables stand for is a step of each
abbrev pub OneStepIsEachs : Type 0
OneStepIsEachs =
    (before after : Tables) (command : Command) (reply : Reply) (a b : Replica)
    → Stands before a → IsStep a command reply b → Stands after b → TakesStep before command reply after

-- where nothing fails, the tables of one replica after the command are what is reached from each
abbrev pub OneAfterIsEachs : Type 0
OneAfterIsEachs =
    (before after : Tables) (command : Command) (a : Replica)
    → Stands before a → Stands after (step a command).replica → Reaches before command after

-- what a command reaches from the tables, with its own reply, is a step
abbrev pub ReachingIsAStep : Type 0
ReachingIsAStep =
    (before after : Tables) (command : Command) (reply : Reply)
    → ((a : Replica) → Stands before a → reply ≡ (step a command).reply) → Reaches before command after
    → TakesStep before command reply after

-- a failure of memory or of the store is a step that leaves the tables
abbrev pub FailuresAreSteps : Type 0
FailuresAreSteps = (t : Tables) (command : Command) (reply : Reply) → IsOfMachine reply → TakesStep t command reply t

-- ---- the rows of tables

-- the rows of each table of writes stand by rising id, none twice
abbrev pub TablesStandInKeyOrder : Type 0
TablesStandInKeyOrder = (r : Replica) → IsReplica r → AreInKeyOrder (tables_of r)

-- the rows of each table are those of the known writes, and vector's those of the servers that have some
abbrev pub TablesHaveRowsOfKnown : Type 0
TablesHaveRowsOfKnown = (r : Replica) → IsReplica r → HasRowsOfKnown r

-- tables in the order of their keys are the same where they have the same rows
abbrev pub SameRowsSameTables : Type 0
SameRowsSameTables = (a b : Tables) → AreInKeyOrder a → AreInKeyOrder b → HaveSameRows a b → AreSameTables a b

-- the log, sorted, is the kept writes in their order
abbrev pub LogsKeepTheOrder : Type 0
LogsKeepTheOrder = (r : Replica) → IsReplica r → KeptIsTheLog r

-- ---- the board

-- executing writes of all rooms one after the other and taking a room's part is replaying that part alone
abbrev pub RoomsReplayApart : Type 0
RoomsReplayApart = (room : Text) (writes : List Write) → places_of_room room writes (board_replay writes) ≡ replay (of_room room writes)

-- and the board then has of the room what its own writes booked
abbrev pub RoomsAreBookedApart : Type 0
RoomsAreBookedApart = (room : Text) (writes : List Write) → bookings_in room (board_after [] writes) ≡ after [] (of_room room writes)

-- from any board on
abbrev pub RoomsReplayApartOnBoards : Type 0
RoomsReplayApartOnBoards =
    (room : Text) (board : List RoomBooking) (writes : List Write)
    → (places_of_room room writes (replay_on board writes) ≡ replay_among (bookings_in room board) (of_room room writes))
    × (bookings_in room (board_after board writes) ≡ after (bookings_in room board) (of_room room writes))

-- one write more goes where the bookings that stand after the writes before it let it; these keep their places
abbrev pub OneWriteMore : Type 0
OneWriteMore = (writes : List Write) (w : Write) → replay (writes ++ w ∷ []) ≡ replay writes ++ place_among (after [] writes) w ∷ []

abbrev pub OneMoreOnTheBoard : Type 0
OneMoreOnTheBoard =
    (board : List RoomBooking) (writes : List Write) (w : Write)
    → (replay_on board (writes ++ w ∷ []) ≡ replay_on board writes ++ place_on (board_after board writes) w ∷ [])
    × (board_after board (writes ++ w ∷ []) ≡ booked_on (board_after board writes) w (place_on (board_after board writes) w))

-- writes that are executed behind others find these others' board
abbrev pub MoreOnTheBoard : Type 0
MoreOnTheBoard =
    (board : List RoomBooking) (before more : List Write)
    → (replay_on board (before ++ more) ≡ replay_on board before ++ replay_on (board_after board before) more)
    × (board_after board (before ++ more) ≡ board_after (board_after board before) more)

-- with the last writes undone the others keep their places
abbrev pub FrontsOnTheBoard : Type 0
FrontsOnTheBoard = (n : ℕ) (board : List RoomBooking) (writes : List Write) → replay_on board (take n writes) ≡ take n (replay_on board writes)

-- ---- positions and batches of a replica

-- a position is read exactly of its own text, in its version
abbrev pub PositionsAreReadExactly : Type 0
PositionsAreReadExactly =
    (bytes : Text) (p : Position) → (read_position bytes ≡ Some p) ↔ ((is_position p ≡ true) × (bytes ≡ position_text p))

-- a replica's position is within the limits, of the second version, and read back
abbrev pub OwnPositionIsReadBack : Type 0
OwnPositionIsReadBack =
    (r : Replica) → IsReplica r
    → (is_position (position_of r) ≡ true) × ((position_of r).version ≡ Second)
    × (read_position (position_text (position_of r)) ≡ Some (position_of r))

-- so a replica that is asked by another's position text replies as to that position: with its batch, or with a refusal
abbrev pub PositionTextsAsk : Type 0
PositionTextsAsk =
    (r asker : Replica) (max_lines : ℕ) → IsReplica asker
    → (step r (BatchFor (position_text (position_of asker)) max_lines)).reply ≡ batch_reply r (position_of asker) max_lines

-- a batch is made in the version of the position that asks for it
abbrev pub BatchesAnswerTheirVersion : Type 0
BatchesAnswerTheirVersion =
    (r : Replica) (p : Position) (max_lines : ℕ) (b : Batch) → batch_reply r p max_lines ≡ BatchIs b
    → (b ≡ batch_of r p max_lines) × (b.version ≡ p.version)

-- a position of the second version is never answered that the first is too small
abbrev pub SecondIsEnough : Type 0
SecondIsEnough =
    (r : Replica) (p : Position) (max_lines : ℕ) → p.version ≡ Second → ¬ (batch_reply r p max_lines ≡ Refused NeedsVersion2)

-- each batch that a replica gives, for any position, is within the limits of its version, and read back
abbrev pub OwnBatchIsReadBack : Type 0
OwnBatchIsReadBack =
    (r : Replica) (p : Position) (max_lines : ℕ) (b : Batch) → IsReplica r → batch_reply r p max_lines ≡ BatchIs b
    → (is_batch b ≡ true) × (read_batch (batch_text b) ≡ Ok b)

-- ---- fronts of a batch's text

-- the first n bytes read as the lines that are whole in them
abbrev pub FrontsReadAsWholeLines : Type 0
FrontsReadAsWholeLines =
    (n : ℕ) (b : Batch) → is_batch b ≡ true
    → (whole_lines (take n (batch_text b)) ≡ take (lines_within n (batch_lines b)) (batch_lines b))
    × (read_batch (take n (batch_text b)) ≡ Ok (front_of (lines_within n (batch_lines b)) b))

-- the first lines of a batch are those of a batch with a front of its items
abbrev pub FrontsAreBatches : Type 0
FrontsAreBatches =
    (n : ℕ) (b : Batch) → is_batch b ≡ true
    → (is_batch (front_of n b) ≡ true) × (batch_lines (front_of n b) ≡ take n (batch_lines b))
    × ((k : ℕ) × ((front_of n b).items ≡ take k b.items))

-- these lines fit into n bytes, and one more does not
abbrev pub WholeLinesFit : Type 0
WholeLinesFit =
    (n : ℕ) (ls : List Text)
    → (length (lines_text (take (lines_within n ls) ls)) ≤ n)
    × (lines_within n ls < length ls → n < length (lines_text (take (lines_within n ls + 1) ls)))

-- ---- answers read off the rows

-- each known write has one row: a booking in booking, errorlog or cancelled, a cancel in cancels. It bears the write's id and room
abbrev pub EachWriteHasOneRow : Type 0
EachWriteHasOneRow =
    (r : Replica) (w : Write) → IsReplica r → Has w r.known
    → IsRowFor w.action (place_row r w) × (row_id (place_row r w) ≡ id_of w) × (row_room (place_row r w) ≡ w.room)

-- the rows of these tables are those of the known writes, dropped ones too
abbrev pub RowsAreOfKnown : Type 0
RowsAreOfKnown = (r : Replica) (p : PlaceRow) → IsReplica r → IsRowIn (tables_of r) p ↔ ((w : Write) × Has w r.known × (place_row r w ≡ p))

-- the full calendar of a room: its booking rows, by day and start
abbrev pub CalendarsAreBookingRows : Type 0
CalendarsAreBookingRows =
    (r : Replica) (room : Text) (rows : List BookingRow) → IsReplica r → AreInStartOrder rows → AreBookingsOf r room rows
    → entries (whole_list (view_of r room)) ≡ map row_entry rows

-- the committed one: those of them that have the mark, and the marked ones that a tentative cancel took back
abbrev pub CommittedCalendarsAreMarkedRows : Type 0
CommittedCalendarsAreMarkedRows =
    (r : Replica) (room : Text) (rows : List BookingRow) → IsReplica r → AreInStartOrder rows → AreCommittedBookingsOf r room rows
    → entries (committed_list (view_of r room)) ≡ map row_entry rows

-- the error log of a room: its error rows and its void cancels, in their order
abbrev pub ErrorLogsAreErrorRows : Type 0
ErrorLogsAreErrorRows =
    (r : Replica) (room : Text) (ls : List LogLine) → IsReplica r → AreInLogOrder ls → AreErrorsOf r room ls
    → filter_map logging_of (whole_list (view_of r room)) ≡ map line_logging ls

-- an outcome: the row of the id, if one of this room has it
abbrev pub OutcomesOfBookedAreRows : Type 0
OutcomesOfBookedAreRows =
    (r : Replica) (room : Text) (row : BookingRow) → IsReplica r → Has row (tables_of r).booking → row.room ≡ room
    → outcome_reply (told_of (booking_id row) (whole_list (view_of r room))) ≡ OutcomeIs (booked_outcome row)

abbrev pub OutcomesOfLoggedAreRows : Type 0
OutcomesOfLoggedAreRows =
    (r : Replica) (room : Text) (row : ErrorRow) → IsReplica r → Has row (tables_of r).errorlog → row.room ≡ room
    → outcome_reply (told_of (error_id row) (whole_list (view_of r room))) ≡ OutcomeIs (logged_outcome row)

-- that of a cancelled booking: with the row of its cancel, which there is
abbrev pub OutcomesOfCancelledAreRows : Type 0
OutcomesOfCancelledAreRows =
    (r : Replica) (room : Text) (row : CancelledRow) → IsReplica r → Has row (tables_of r).cancelled → row.room ≡ room
    → ((c : CancelRow) × IsCancelOf (tables_of r) row c)
    × ((c : CancelRow) → Has c (tables_of r).cancels → cancel_id c ≡ row.by
    → outcome_reply (told_of (cancelled_id row) (whole_list (view_of r room))) ≡ OutcomeIs (cancelled_outcome row c))

abbrev pub OutcomesOfCancelsAreRows : Type 0
OutcomesOfCancelsAreRows =
    (r : Replica) (room : Text) (row : CancelRow) → IsReplica r → Has row (tables_of r).cancels → row.room ≡ room
    → outcome_reply (told_of (cancel_id row) (whole_list (view_of r room))) ≡ OutcomeIs (cancel_outcome row)

abbrev pub NoRowNoSuchRequest : Type 0
NoRowNoSuchRequest =
    (r : Replica) (room : Text) (id : Id) → IsReplica r
    → ((row : BookingRow) → Has row (tables_of r).booking → row.room ≡ room → ¬ (booking_id row ≡ id))
    → ((row : ErrorRow) → Has row (tables_of r).errorlog → row.room ≡ room → ¬ (error_id row ≡ id))
    → ((row : CancelledRow) → Has row (tables_of r).cancelled → row.room ≡ room → ¬ (cancelled_id row ≡ id))
    → ((row : CancelRow) → Has row (tables_of r).cancels → row.room ≡ room → ¬ (cancel_id row ≡ id))
    → outcome_reply (told_of id (whole_list (view_of r room))) ≡ Refused NoSuchRequest

-- what the row of a write tells is its outcome, and the reply to its submission or to the cancel
abbrev pub OutcomesAreRows : Type 0
OutcomesAreRows =
    (r : Replica) (w : Write) → IsReplica r → Has w r.known → TellsOutcome (tables_of r) (place_row r w) (outcome_at r w)

abbrev pub RepliesToSubmissionsAreRows : Type 0
RepliesToSubmissionsAreRows =
    (r : Replica) (w : Write) → IsReplica r → Has w r.known
    → ((row : BookingRow) → booking_row r w ≡ Some row → outcome_at r w ≡ OutcomeIs (booked_outcome row))
    × ((row : ErrorRow) → error_row r w ≡ Some row → outcome_at r w ≡ OutcomeIs (logged_outcome row))
    × ((row : CancelRow) → cancel_row r w ≡ Some row → outcome_at r w ≡ OutcomeIs (cancel_outcome row))

-- ---- moving up

-- where first tables stand for a replica, what they move to stands for it
abbrev pub MovedTablesStand : Type 0
MovedTablesStand = (t : FirstTables) (r : Replica) → StandsFirst t r → Stands (moved t) r

-- and the log has a row for each row of write_log
abbrev pub FirstTablesHavePlaces : Type 0
FirstTablesHavePlaces = (t : FirstTables) (r : Replica) → StandsFirst t r → HavePlaces t.write_log t.undo

-- ---- what commands change of the order, the places and the fates

-- the places of a replica's writes are those that its order has on the board
abbrev pub PlacesAreTheBoards : Type 0
PlacesAreTheBoards = (r : Replica) → IsReplica r → map (place_of r) (order_of r) ≡ board_replay (order_of r)

-- a submission or a cancel that nothing refuses makes the next write of the replica, of a room that it knows
abbrev pub AcceptedSubmissionsAreNext : Type 0
AcceptedSubmissionsAreNext =
    (r : Replica) (s : Submission) → IsReplica r → first_refusal (submit_faults r s) ≡ None
    → IsTrue (is_write (write_of r s)) × ((write_of r s).stamp ≡ next_stamp r) × (knows_room r s.room ≡ true)

abbrev pub AcceptedCancelsAreNext : Type 0
AcceptedCancelsAreNext =
    (r : Replica) (room id : Text) → IsReplica r → first_refusal (cancel_faults r room id) ≡ None
    → IsTrue (is_write (cancel_write r room id)) × ((cancel_write r room id).stamp ≡ next_stamp r) × (knows_room r room ≡ true)

-- the next write of a replica, of either kind, becomes the last of its order, and moves no other
abbrev pub SubmissionsComeLast : Type 0
SubmissionsComeLast =
    (r : Replica) (w : Write) → IsReplica r → IsTrue (is_write w) → w.stamp ≡ next_stamp r → knows_room r w.room ≡ true → SubmitChanges r w

-- the next write of a server comes among the tentative ones by its stamp
abbrev pub WritesAreInserted : Type 0
WritesAreInserted = (r : Replica) (w : Write) → IsReplica r → IsNext r w → WriteInserted r w

-- the next commit takes its write from the tentative ones to the end of the committed
abbrev pub CommitsMoveOne : Type 0
CommitsMoveOne =
    (r : Replica) (id : Id) → IsReplica r → id.n ≡ committed_count r id.server + 1 → id.n ≤ count_of r id.server → CommitMoved r id

-- a commit of the first tentative writes moves none
abbrev pub CommitsMoveNothing : Type 0
CommitsMoveNothing = (r : Replica) (k : ℕ) → IsReplica r → CommitChanges r k

-- and what was cancelled by a cancel stays cancelled by it, whichever of the two are committed
abbrev pub CommitsChangeNoFate : Type 0
CommitsChangeNoFate =
    (r : Replica) (k : ℕ) (room : Text) → IsReplica r
    → map fate_of (whole_list (view_of (after_commit r k) room)) ≡ map fate_of (whole_list (view_of r room))

-- a truncation takes rows of the log away, and nothing else
abbrev pub TruncationsTakeRows : Type 0
TruncationsTakeRows = (r : Replica) (n : ℕ) → IsReplica r → TruncateChanges r n
