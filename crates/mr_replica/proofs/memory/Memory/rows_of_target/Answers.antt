use Rattle.std.proofs.Common.{[], ap, ◌∙◌}
use Rattle.std.specs.Prelude.{filter}
use Rattle.mr_model.specs.Queries.{booking_id, error_id, cancelled_id}
use Rattle.mr_model.specs.Scopes.{OfTarget, in_scope, with_rows}
use Rattle.mr_model.specs.Tables.{BookingRow, ErrorRow, CancelledRow, Tables}
use Rattle.mr_model.specs.Writes.{same_id}
use Rattle.mr_replica.proofs.ScopeRows.{target_scope}
use Rattle.mr_replica.proofs.memory.Memory.rows_of_target.Goals as goal

pub returns : goal.returns
returns c =
    let t = c.args.self.now in
    let target = c.args.target in
    let booking = c.in_ok-tables-inside.field-0.items in
    let errorlog = c.in_ok-tables-inside-2.field-0.items in
    let cancelled = c.in_ok-tables-inside-3.field-0.items in
    let bare = c.tables.view_is ∙ c.in_ok-tables.ensures in
    (λ i. in_scope (OfTarget target) (with_rows (bare i) [] booking errorlog cancelled))
    ∙ target_scope t target booking errorlog cancelled
    (c.in_ok-tables-inside.ensures.those ∙ ap (λ (u : Tables). filter (λ (r : BookingRow). same_id (booking_id r) target) u.booking) c.self.view_is)
    (c.in_ok-tables-inside-2.ensures.those ∙ ap (λ (u : Tables). filter (λ (r : ErrorRow). same_id (error_id r) target) u.errorlog) c.self.view_is)
    (c.in_ok-tables-inside-3.ensures.those ∙ ap (λ (u : Tables). filter (λ (r : CancelledRow). same_id (cancelled_id r) target) u.cancelled) c.self.view_is)
