-- Rows of a table by a second key: the keys under which they stand, and the rows between two of them.
use Rattle.std.specs.Prelude.{◌≡◌, ℕ, Bool, true, List, [], find, Option, Some, None, IsTrue, if◌then◌else◌, refl}
use Rattle.std.specs.BTreeMap.Range.{range_contains}
use Rattle.std.specs.BTreeSet.{BTreeSet, contains}
use Rattle.std.specs.Coded.{Coded, code_by, coded×, coded_list, coded_ℕ}
use Rattle.std.specs.Map.{values_of}
use Rattle.std.specs.Cmp.Lexicographic.{slice_cmp}
use Rattle.std.specs.Ordering.{on, nat_cmp, then_cmp, is_lt, is_eq}
use Rattle.std.specs.declared.cmp.Ordering.{Ordering}
use Rattle.std.specs.declared.ops.Bound.TheVariants.{Included}
use Rattle.mr_model.specs.Calendar.{Date}
use Rattle.mr_model.specs.Dropped.{Has}
use Rattle.mr_model.specs.Queries.{booking_id, log_id}
use Rattle.mr_model.specs.Scopes.{is_tentative}
use Rattle.mr_model.specs.Tables.{LogRow, BookingRow}
use Rattle.mr_model.specs.Texts.{Text}
use Rattle.mr_model.specs.Writes.{Id, same_id}
use Rattle.mr_base.specs.Ids.{id_cmp}
use Rattle.mr_part.specs.declared.tail.Tail.{Tail}
use Rattle.mr_part.specs.declared.tail.Tail.TheVariants.{Everything, From, Nothing}
use Rattle.mr_replay.specs.Index.{padded}
use Rattle.mr_tables.specs.Change.{id_before}
use Rattle.mr_tables.specs.TableOrders.{InOrder}
use Rattle.mr_replica.specs.declared.row_key.RowKey.{RowKey}
use Rattle.mr_replica.specs.Keyed.{if_passes, IsKeyed}

abbrev pub row_key_cmp : RowKey → RowKey → Ordering
row_key_cmp = then_cmp (on (λ k. k.edge) nat_cmp) (then_cmp (on (λ k. k.room) (slice_cmp nat_cmp)) (then_cmp (on (λ k. k.room_edge) nat_cmp) (then_cmp (on (λ k. k.number) nat_cmp) (then_cmp (on (λ k. k.month) nat_cmp)
    (then_cmp (on (λ k. k.day) nat_cmp) (then_cmp (on (λ k. k.day_edge) nat_cmp) (then_cmp (on (λ k. k.start) nat_cmp) (on (λ k. k.id) id_cmp))))))))

abbrev pub key_before : RowKey → RowKey → Bool
key_before a b = is_lt (row_key_cmp a b)

-- ---- keys

abbrev pub key_at : ℕ → Text → ℕ → Date → ℕ → ℕ → Id → RowKey
key_at edge room room_edge date day_edge start i =
    record {
      edge = edge;
      room = padded room;
      room_edge = room_edge;
      number = date.year;
      month = date.month;
      day = date.day;
      day_edge = day_edge;
      start = start;
      id = i;
    }

-- a number in the place of the year, or a stamp in that of a month
abbrev pub numbered : ℕ → Date
numbered number = record { year = number; month = 0; day = 0 }

abbrev pub stamp_date : ℕ → ℕ → Date
stamp_date time server = record { year = time; month = server; day = 0 }

-- the id in the ends of ranges
abbrev pub no_id : Id
no_id = record { server = 1; n = 1 }

-- a key of no row
abbrev pub blank : List ℕ → RowKey
blank bytes =
    record {
      edge = 1;
      room = bytes;
      room_edge = 1;
      number = 0;
      month = 0;
      day = 0;
      day_edge = 1;
      start = 0;
      id = no_id;
    }

-- of a row that is found by its room
abbrev pub room_key : Text → Id → RowKey
room_key room i = key_at 1 room 1 (numbered 0) 1 0 i

abbrev pub booking_key : BookingRow → RowKey
booking_key row = key_at 1 row.room 1 row.day 1 row.start (booking_id row)

-- in front of the rows of a room and day or of all days where the edge is 0, and behind them where it is 2
abbrev pub row_end_key : ℕ → Text → Option Date → RowKey
row_end_key edge room None = key_at 1 room edge (numbered 0) 1 0 no_id
row_end_key edge room (Some day) = key_at 1 room 1 day edge 0 no_id

-- committed rows of the log stand by their numbers, with no room in their keys, and behind them the tentative ones by room and stamp
abbrev pub log_key : LogRow → RowKey
log_key row =
    let late = is_tentative row in
    key_at (if late then 3 else 1) (if late then row.room else []) 1 (if late then stamp_date row.time row.server else numbered row.seq) 1 0 (log_id row)

-- in front of all rows of the log, of the tentative ones, and behind all, where the edge is 0, 2, and 4
abbrev pub log_end : ℕ → RowKey
log_end edge = key_at edge [] 1 (numbered 0) 1 0 no_id

-- in front of the committed rows of this number where the edge is 0, and behind them where it is 2
abbrev pub number_end : ℕ → ℕ → RowKey
number_end edge number = row_end_key edge [] (Some (numbered number))

-- in front of the tentative rows of the room with this stamp where the edge is 0
abbrev pub stamp_end : ℕ → Text → ℕ → ℕ → RowKey
stamp_end edge room time server = key_at 3 room 1 (stamp_date time server) edge 0 no_id

-- in front of the tentative rows of the room that are in the tail of a batch; behind all of them where none is
abbrev pub tail_end : Text → Tail → RowKey
tail_end room Everything = key_at 3 room 0 (numbered 0) 1 0 no_id
tail_end room (From time server) = stamp_end 0 room time server
tail_end room Nothing = key_at 3 room 2 (numbered 0) 1 0 no_id

-- ---- rows by their keys

abbrev pub has_row_key : BTreeSet RowKey → RowKey → Bool
has_row_key keys key = contains row_key_cmp keys key

-- what a table is seen as
pub record IndexView (R : Type 0) : Type 0 where
  pub rows : List R
  pub keys : BTreeSet RowKey

abbrev pub key_code : Coded RowKey
key_code = code_by (ℕ × (List ℕ × (ℕ × (ℕ × (ℕ × (ℕ × (ℕ × (ℕ × (ℕ × ℕ)))))))))
    (coded× coded_ℕ (coded× (coded_list coded_ℕ) (coded× coded_ℕ (coded× coded_ℕ (coded× coded_ℕ (coded× coded_ℕ (coded× coded_ℕ (coded× coded_ℕ (coded× coded_ℕ coded_ℕ)))))))))
    (λ k. (k.edge, (k.room, (k.room_edge, (k.number, (k.month, (k.day, (k.day_edge, (k.start, (k.id.server, k.id.n))))))))))
    (λ p. record { edge = p.0; room = (p.1).0; room_edge = ((p.1).1).0; number = (((p.1).1).1).0; month = ((((p.1).1).1).1).0; day = (((((p.1).1).1).1).1).0; day_edge = ((((((p.1).1).1).1).1).1).0; start = (((((((p.1).1).1).1).1).1).1).0; id = record { server = ((((((((p.1).1).1).1).1).1).1).1).0; n = ((((((((p.1).1).1).1).1).1).1).1).1 } })
    (λ _. refl)

abbrev pub index_code : {R : Type 0} → Coded R → Coded (IndexView R)
index_code {R} r = code_by (List R × List RowKey) (coded× (coded_list r) (coded_list key_code)) (λ v. (v.rows, v.keys.keys)) (λ p. record { rows = p.0; keys = record { keys = p.1 } }) (λ _. refl)

-- the key of the row is among these
abbrev pub IsRowNoted : {R : Type 0} → (R → RowKey) → BTreeSet RowKey → R → Type 0
IsRowNoted key keys row = IsTrue (has_row_key keys (key row))

-- the rows are in the order of their ids, and the key of each is among these
pub record AreRowsIndexed {R : Type 0} (id : R → Id) (key : R → RowKey) (rows : List R) (keys : BTreeSet RowKey) : Type 0 where
  pub order : InOrder id_before id rows
  pub noted : (row : R) → Has row rows → IsTrue (has_row_key keys (key row))

-- the rows stand under their ids, and the key of each is among these
pub record IsTable {R : Type 0} (id : R → Id) (key : R → RowKey) (entries : List (Id × R)) (keys : BTreeSet RowKey) : Type 0 where
  pub keyed : IsKeyed id entries
  pub index : AreRowsIndexed id key (values_of entries) keys

-- these are the rows that pass, each at least once
abbrev pub AreThose : {R : Type 0} → (R → Bool) → List R → List R → Type 0
AreThose {R} q all rows = ((row : R) → Has row rows → Has row all × (q row ≡ true)) × ((row : R) → Has row all → q row ≡ true → Has row rows)

-- the row of this key
abbrev pub row_of_key : {R : Type 0} → (R → Id) → (R → RowKey) → List R → RowKey → Option R
row_of_key id key rows k = if_passes (λ r. is_eq (row_key_cmp (key r) k)) (find (λ r. same_id (id r) k.id) rows)

abbrev pub is_between : RowKey → RowKey → RowKey → Bool
is_between first last = range_contains row_key_cmp (Included first) (Included last)

-- these are the rows whose keys are between the two, in the order of their keys
pub record AreBetween {R : Type 0} (key : R → RowKey) (first last : RowKey) (all rows : List R) : Type 0 where
  pub own : (row : R) → Has row rows → Has row all × (is_between first last (key row) ≡ true)
  pub each : (row : R) → Has row all → is_between first last (key row) ≡ true → Has row rows
  pub rise : InOrder key_before key rows
