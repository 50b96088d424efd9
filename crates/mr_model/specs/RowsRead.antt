-- Reading more rows than are in scope.
use Rattle.std.specs.Prelude.{◌≡◌, Bool, true, filter}
use Rattle.mr_model.specs.Tables.{LogRow, BookingRow, ErrorRow, CancelledRow, Tables}
use Rattle.mr_model.specs.Dropped.{Has}
use Rattle.mr_model.specs.Scopes.{Scope, with_rows, in_scope}

-- of each table the rows that pass a test, and none of cancels
abbrev pub rows_read : (LogRow → Bool) → (BookingRow → Bool) → (ErrorRow → Bool) → (CancelledRow → Bool) → Tables → Tables
rows_read p b e c t = with_rows t (filter p t.log) (filter b t.booking) (filter e t.errorlog) (filter c t.cancelled)

-- all rows in scope pass
pub record Reads (s : Scope) (t : Tables) (p : LogRow → Bool) (b : BookingRow → Bool) (e : ErrorRow → Bool) (c : CancelledRow → Bool) : Type 0 where
  pub logs : (row : LogRow) → Has row (in_scope s t).log → p row ≡ true
  pub booking : (row : BookingRow) → Has row (in_scope s t).booking → b row ≡ true
  pub errorlog : (row : ErrorRow) → Has row (in_scope s t).errorlog → e row ≡ true
  pub cancelled : (row : CancelledRow) → Has row (in_scope s t).cancelled → c row ≡ true

-- what is in scope of the rows that were read is what is in scope of all
abbrev pub ReadRowsSuffice : Type 0
ReadRowsSuffice =
    (s : Scope) (t : Tables) (p : LogRow → Bool) (b : BookingRow → Bool) (e : ErrorRow → Bool) (c : CancelledRow → Bool)
    → Reads s t p b e c → in_scope s (rows_read p b e c t) ≡ in_scope s t
