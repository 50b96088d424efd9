-- A change of tables: for each of them the keys of the rows that are taken away, and the rows that are put.
use Rattle.std.specs.Prelude.{Bool, not, ◌&&◌, ◌||◌, if◌then◌else◌, ◌==◌, nat_lt, List, [], ◌∷◌, filter}
use Rattle.mr_model.specs.Texts.{Text}
use Rattle.mr_model.specs.Writes.{Id}
use Rattle.mr_model.specs.Replica.{is_among, text_before}
use Rattle.mr_model.specs.Tables.{MetaRow, VectorRow, LogRow, BookingRow, ErrorRow, CancelledRow, CancelRow, Tables}
use Rattle.mr_model.specs.Queries.{booking_id, error_id, cancelled_id, cancel_id, log_id}

-- ---- one table, its rows in the order of their keys

-- a row at the place of its key, where it replaces the row that has this key
abbrev pub put : {R K : Type 0} → (K → K → Bool) → (R → K) → R → List R → List R
put before key x [] = x ∷ []
put before key x (y ∷ ys) =
    if before (key x) (key y) then x ∷ y ∷ ys else (if before (key y) (key x) then y ∷ put before key x ys else x ∷ ys)

-- these rows one after the other
abbrev pub put_all : {R K : Type 0} → (K → K → Bool) → (R → K) → List R → List R → List R
put_all before key [] rows = rows
put_all before key (x ∷ xs) rows = put_all before key xs (put before key x rows)

-- the rows whose ids are not among these
abbrev pub rows_without : {R : Type 0} → (R → Id) → List Id → List R → List R
rows_without key gone rows = filter (λ row. not (is_among (key row) gone)) rows

-- ---- keys

-- by server, then by count
abbrev pub id_before : Id → Id → Bool
id_before a b = nat_lt a.server b.server || (a.server == b.server && nat_lt a.n b.n)

-- ---- all tables

-- rooms, rows of the vector and those of cancels are put alone
pub record ChangeView : Type 0 where
  pub meta : MetaRow
  pub room : List Text
  pub vector : List VectorRow
  pub dropped : List Id
  pub log : List LogRow
  pub unbooked : List Id
  pub booking : List BookingRow
  pub unlogged : List Id
  pub errorlog : List ErrorRow
  pub uncancelled : List Id
  pub cancelled : List CancelledRow
  pub cancels : List CancelRow

-- the tables after a change: rows are taken away first, then rows are put
abbrev pub changed : ChangeView → Tables → Tables
changed c t =
    record {
      meta = c.meta;
      room = put_all text_before (λ name. name) c.room t.room;
      vector = put_all nat_lt (λ row. row.server) c.vector t.vector;
      log = put_all id_before log_id c.log (rows_without log_id c.dropped t.log);
      booking = put_all id_before booking_id c.booking (rows_without booking_id c.unbooked t.booking);
      errorlog = put_all id_before error_id c.errorlog (rows_without error_id c.unlogged t.errorlog);
      cancelled = put_all id_before cancelled_id c.cancelled (rows_without cancelled_id c.uncancelled t.cancelled);
      cancels = put_all id_before cancel_id c.cancels t.cancels;
    }
