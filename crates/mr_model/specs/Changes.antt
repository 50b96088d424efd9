-- What commands change of the order, the places and the rows.
use Rattle.std.specs.Prelude.{◌≡◌, ℕ, ◌+◌, ◌<◌, max, true, false, ◌||◌, ◌↔◌, ◌⊎◌, List, [], ◌∷◌, ◌++◌, length, take, map, Some, None, slice_get, Bool, IsTrue}
use Rattle.std.specs.List.{AllByRecursion}
use Rattle.mr_model.specs.Texts.{within}
use Rattle.mr_model.specs.Writes.{Id, Write, id_of, is_write, stamp_before}
use Rattle.mr_model.specs.Replica.{Replica, writes_of, committed_count, committed, tentative, order_of, is_committed, is_dropped, is_among, count_of, last_time, add_write, add_commit}
use Rattle.mr_model.specs.Board.{place_on, replay_on, board_after}
use Rattle.mr_model.specs.Tables.{VectorRow, LogRow, BookingRow, ErrorRow, CancelledRow, CancelRow, Tables, seq_of, log_row, taken_back, booking_row, error_row, cancelled_row, cancel_row, tables_of}
use Rattle.mr_model.specs.View.{cancels_it, place_of, canceller_of}
use Rattle.mr_model.specs.Queries.{booking_id}
use Rattle.mr_model.specs.Dropped.{Has}

-- ---- keys

-- by server, then by count
abbrev pub IdBefore : Id → Id → Type 0
IdBefore a b = (a.server < b.server) ⊎ ((a.server ≡ b.server) × (a.n < b.n))

-- each before all that follow it
abbrev pub RiseById : List Id → Type 0
RiseById [] = Unit {0}
RiseById (id ∷ ids) = AllByRecursion (IdBefore id) ids × RiseById ids

-- the rows of each table of writes stand by rising id, so that none is there twice
pub record AreInKeyOrder (t : Tables) : Type 0 where
  pub log : RiseById (map (λ row. record { server = row.server; n = row.n }) t.log)
  pub booking : RiseById (map (λ row. record { server = row.server; n = row.n }) t.booking)
  pub errorlog : RiseById (map (λ row. record { server = row.server; n = row.n }) t.errorlog)
  pub cancelled : RiseById (map (λ row. record { server = row.server; n = row.n }) t.cancelled)
  pub cancels : RiseById (map (λ row. record { server = row.server; n = row.n }) t.cancels)

-- the rows of each table are those of the known writes, and of the servers that have some
pub record HasRowsOfKnown (r : Replica) : Type 0 where
  pub vector : (row : VectorRow) → Has row (tables_of r).vector
      ↔ (¬ (count_of r row.server ≡ 0) × (row ≡ record { server = row.server; count = count_of r row.server; last_time = last_time r row.server; committed = committed_count r row.server }))
  pub log : (row : LogRow) → Has row (tables_of r).log ↔ ((w : Write) × Has w r.known × (is_dropped r (id_of w) ≡ false) × (row ≡ log_row r w))
  pub booking : (row : BookingRow) → Has row (tables_of r).booking ↔ ((w : Write) × Has w r.known × (booking_row r w ≡ Some row))
  pub errorlog : (row : ErrorRow) → Has row (tables_of r).errorlog ↔ ((w : Write) × Has w r.known × (error_row r w ≡ Some row))
  pub cancelled : (row : CancelledRow) → Has row (tables_of r).cancelled ↔ ((w : Write) × Has w r.known × (cancelled_row r w ≡ Some row))
  pub cancels : (row : CancelRow) → Has row (tables_of r).cancels ↔ ((w : Write) × Has w r.known × (cancel_row r w ≡ Some row))

-- two lists of rows with the same rows
abbrev pub SameRows : {R : Type 0} → List R → List R → Type 0
SameRows {R} xs ys = (row : R) → Has row xs ↔ Has row ys

pub record HaveSameRows (a b : Tables) : Type 0 where
  pub log : SameRows a.log b.log
  pub booking : SameRows a.booking b.booking
  pub errorlog : SameRows a.errorlog b.errorlog
  pub cancelled : SameRows a.cancelled b.cancelled
  pub cancels : SameRows a.cancels b.cancels

pub record AreSameTables (a b : Tables) : Type 0 where
  pub log : a.log ≡ b.log
  pub booking : a.booking ≡ b.booking
  pub errorlog : a.errorlog ≡ b.errorlog
  pub cancelled : a.cancelled ≡ b.cancelled
  pub cancels : a.cancels ≡ b.cancels

-- ---- the next write of a server

-- its number follows on what is known, and its time is above its server's last
pub record IsNext (r : Replica) (w : Write) : Type 0 where
  pub is_write : IsTrue (is_write w)
  pub number : w.stamp.n ≡ count_of r w.stamp.server + 1
  pub late : last_time r w.stamp.server < w.stamp.time

-- it comes among the tentative writes by its stamp: those before it stay, and it and those behind are executed on their board
pub record WriteInserted (r : Replica) (w : Write) : Type 0 where
  pub before : List Write
  pub behind : List Write
  pub was : tentative r ≡ before ++ behind
  pub tentative_is : tentative (add_write r w) ≡ before ++ w ∷ behind
  pub committed_is : committed (add_write r w) ≡ committed r
  pub all_before : AllByRecursion (λ v. IsTrue (stamp_before v w)) before
  pub all_behind : AllByRecursion (λ v. IsTrue (stamp_before w v)) behind
  pub places_before : map (place_of (add_write r w)) (committed r ++ before) ≡ map (place_of r) (committed r ++ before)
  pub places_behind : map (place_of (add_write r w)) (w ∷ behind) ≡ replay_on (board_after [] (committed r ++ before)) (w ∷ behind)

-- ---- the next commit

-- its write leaves the tentative ones for the end of the committed: these stay, and it and all tentative ones are executed on their board
pub record CommitMoved (r : Replica) (id : Id) : Type 0 where
  pub moved : Write
  pub before : List Write
  pub behind : List Write
  pub is_moved : id_of moved ≡ id
  pub was : tentative r ≡ before ++ moved ∷ behind
  pub tentative_is : tentative (add_commit r id) ≡ before ++ behind
  pub committed_is : committed (add_commit r id) ≡ committed r ++ moved ∷ []
  pub places_before : map (place_of (add_commit r id)) (committed r) ≡ map (place_of r) (committed r)
  pub places_behind : map (place_of (add_commit r id)) (moved ∷ (before ++ behind)) ≡ replay_on (board_after [] (committed r)) (moved ∷ (before ++ behind))

-- ---- a write of the replica's own, a submission or a cancel

abbrev pub new_vector_row : Replica → Write → VectorRow
new_vector_row r w = record { server = w.stamp.server; count = w.stamp.n; last_time = w.stamp.time; committed = committed_count r w.stamp.server }

-- at its place in the new order it takes the booking with this id back
abbrev pub takes_back : Replica → Write → Id → Bool
takes_back r w id = cancels_it id w.action (place_of (add_write r w) w)

-- The write becomes the last of the order; no other moves. A cancel that is Done takes its target's row from booking to cancelled,
-- with its mark. The clock and the server's row of vector go on; no other row that was there changes.
pub record SubmitChanges (r : Replica) (w : Write) : Type 0 where
  pub order : order_of (add_write r w) ≡ order_of r ++ w ∷ []
  pub place : place_of (add_write r w) w ≡ place_on (board_after [] (order_of r)) w
  pub tentative : is_committed (add_write r w) (id_of w) ≡ false
  pub number : seq_of (add_write r w) w ≡ 0
  pub standing : canceller_of (add_write r w) w ≡ None
  pub places : (v : Write) → Has v r.known → place_of (add_write r w) v ≡ place_of r v
  pub others : (v : Write) → Has v r.known → takes_back r w (id_of v) ≡ false → canceller_of (add_write r w) v ≡ canceller_of r v
  pub meta : (tables_of (add_write r w)).meta ≡ record (tables_of r).meta { clock = w.stamp.time }
  pub room : (tables_of (add_write r w)).room ≡ (tables_of r).room
  pub vector : (row : VectorRow) → Has row (tables_of (add_write r w)).vector ↔ ((row ≡ new_vector_row r w) ⊎ (Has row (tables_of r).vector × ¬ (row.server ≡ w.stamp.server)))
  pub log : (row : LogRow) → Has row (tables_of (add_write r w)).log ↔ ((row ≡ log_row (add_write r w) w) ⊎ Has row (tables_of r).log)
  pub booking : (row : BookingRow) → Has row (tables_of (add_write r w)).booking
      ↔ ((booking_row (add_write r w) w ≡ Some row) ⊎ (Has row (tables_of r).booking × (takes_back r w (booking_id row) ≡ false)))
  pub errorlog : (row : ErrorRow) → Has row (tables_of (add_write r w)).errorlog ↔ ((error_row (add_write r w) w ≡ Some row) ⊎ Has row (tables_of r).errorlog)
  pub cancelled : (row : CancelledRow) → Has row (tables_of (add_write r w)).cancelled
      ↔ (((b : BookingRow) × Has b (tables_of r).booking × (takes_back r w (booking_id b) ≡ true) × (row ≡ taken_back (id_of w) b)) ⊎ Has row (tables_of r).cancelled)
  pub cancels : (row : CancelRow) → Has row (tables_of (add_write r w)).cancels ↔ ((cancel_row (add_write r w) w ≡ Some row) ⊎ Has row (tables_of r).cancels)

-- ---- a commit

abbrev pub first_tentative : Replica → ℕ → List Write
first_tentative r k = take k (tentative r)

-- the replica after a commit of the first k
abbrev pub after_commit : Replica → ℕ → Replica
after_commit r k = record r { commits = r.commits ++ map id_of (first_tentative r k) }

-- no write moves, and what is cancelled stays cancelled by the same cancel; the first k get the mark and the next numbers
pub record CommitChanges (r : Replica) (k : ℕ) : Type 0 where
  pub order : order_of (after_commit r k) ≡ order_of r
  pub commit_order : committed (after_commit r k) ≡ committed r ++ first_tentative r k
  pub places : (v : Write) → Has v r.known → place_of (after_commit r k) v ≡ place_of r v
  pub cancellers : (v : Write) → Has v r.known → canceller_of (after_commit r k) v ≡ canceller_of r v
  pub marks : (v : Write) → is_committed (after_commit r k) (id_of v) ≡ (is_committed r (id_of v) || is_among (id_of v) (map id_of (first_tentative r k)))
  pub old_numbers : (v : Write) → Has v (committed r) → seq_of (after_commit r k) v ≡ seq_of r v
  pub new_numbers : (i : ℕ) (v : Write) → slice_get (first_tentative r k) i ≡ Some v → seq_of (after_commit r k) v ≡ length r.commits + 1 + i
  pub other_numbers : (v : Write) → is_committed (after_commit r k) (id_of v) ≡ false → seq_of (after_commit r k) v ≡ 0
  pub meta : (tables_of (after_commit r k)).meta ≡ record (tables_of r).meta { commits = length r.commits + length (first_tentative r k) }
  pub room : (tables_of (after_commit r k)).room ≡ (tables_of r).room
  pub committed_counts : (server : ℕ) → committed_count (after_commit r k) server ≡ committed_count r server + length (writes_of server (first_tentative r k))

-- ---- a truncation

abbrev pub after_truncate : Replica → ℕ → Replica
after_truncate r n = record r { dropped = max r.dropped n }

-- rows of the log leave, and the number of dropped commits grows; nothing else changes
pub record TruncateChanges (r : Replica) (n : ℕ) : Type 0 where
  pub dropped : (v : Write) → is_dropped (after_truncate r n) (id_of v) ≡ within 1 (max r.dropped n) (seq_of r v)
  pub meta : (tables_of (after_truncate r n)).meta ≡ record (tables_of r).meta { dropped = max r.dropped n }
  pub room : (tables_of (after_truncate r n)).room ≡ (tables_of r).room
  pub vector : (tables_of (after_truncate r n)).vector ≡ (tables_of r).vector
  pub booking : (tables_of (after_truncate r n)).booking ≡ (tables_of r).booking
  pub errorlog : (tables_of (after_truncate r n)).errorlog ≡ (tables_of r).errorlog
  pub cancelled : (tables_of (after_truncate r n)).cancelled ≡ (tables_of r).cancelled
  pub cancels : (tables_of (after_truncate r n)).cancels ≡ (tables_of r).cancels
  pub log : (row : LogRow) → Has row (tables_of (after_truncate r n)).log ↔ (Has row (tables_of r).log × (within 1 (max r.dropped n) row.seq ≡ false))
