use Rattle.std.proofs.Common.{◌≡◌, ◌∙◌, ◌&&◌, ap, sym, subst, Bool, List, bytes_eq, IsTrue}
use Rattle.std.specs.List.{list_all, list_any}
use Rattle.mr_model.specs.Texts.{Text}
use Rattle.mr_model.specs.Replica.{text_before}
use Rattle.mr_model.specs.Tables.{Tables, BookingRow, ErrorRow, CancelledRow, CancelRow, LogRow}
use Rattle.mr_tables.specs.Rise.{Rise}
use Rattle.mr_audit.proofs.rooms.are_rooms_known.Goals as goal

-- what is said of equal rooms and equal rows
known : {R : Type 0} (sorted : Bool) (room : R → Text) (r : Bool) (rooms names : List Text) (rows all : List R)
    → ((IsTrue sorted → Rise text_before (λ (name : Text). name) rooms) → r ≡ list_all (λ row. list_any (bytes_eq (room row)) rooms) rows) → rooms ≡ names
    → rows ≡ all → (IsTrue sorted → Rise text_before (λ (name : Text). name) names) → r ≡ list_all (λ row. list_any (bytes_eq (room row)) names) all
known sorted room r rooms names rows all h same_rooms same_rows rise =
    h (λ yes. subst (λ (ns : List Text). Rise text_before (λ (name : Text). name) ns) (sym same_rooms) (rise yes))
    ∙ (λ i. list_all (λ row. list_any (bytes_eq (room row)) (same_rooms i)) (same_rows i))

pub returns : goal.returns
returns c = λ rise.
    let t = c.args.tables.now in
    let rooms = ap (λ (x : Tables). x.room) c.tables.view_is in
    let bookings = known c.args.is_sorted (λ (row : BookingRow). row.room) c.are_bookings_known-bookings.result c.deref.result.now t.room c.deref-2.result.now t.booking
    c.are_bookings_known-bookings.ensures (c.deref.ensures.value ∙ rooms) (c.deref-2.ensures.value ∙ ap (λ (x : Tables). x.booking) c.tables.view_is) rise in
    let errors = known c.args.is_sorted (λ (row : ErrorRow). row.room) c.are_errors_known-errors.result c.deref-3.result.now t.room c.deref-4.result.now t.errorlog
    c.are_errors_known-errors.ensures (c.deref-3.ensures.value ∙ rooms) (c.deref-4.ensures.value ∙ ap (λ (x : Tables). x.errorlog) c.tables.view_is) rise in
    let cancelled = known c.args.is_sorted (λ (row : CancelledRow). row.room) c.are_cancelled_known-cancelled.result c.deref-5.result.now t.room c.deref-6.result.now t.cancelled
    c.are_cancelled_known-cancelled.ensures (c.deref-5.ensures.value ∙ rooms) (c.deref-6.ensures.value ∙ ap (λ (x : Tables). x.cancelled) c.tables.view_is) rise in
    let cancels = known c.args.is_sorted (λ (row : CancelRow). row.room) c.are_cancels_known-cancels.result c.deref-7.result.now t.room c.deref-8.result.now t.cancels
    c.are_cancels_known-cancels.ensures (c.deref-7.ensures.value ∙ rooms) (c.deref-8.ensures.value ∙ ap (λ (x : Tables). x.cancels) c.tables.view_is) rise in
    let logs = known c.args.is_sorted (λ (row : LogRow). row.room) c.are_logs_known-logs.result c.deref-9.result.now t.room c.deref-10.result.now t.log c.are_logs_known-logs.ensures
    (c.deref-9.ensures.value ∙ rooms) (c.deref-10.ensures.value ∙ ap (λ (x : Tables). x.log) c.tables.view_is) rise in
    λ i. bookings i && (errors i && (cancelled i && (cancels i && logs i)))
