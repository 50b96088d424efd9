use Rattle.std.proofs.Common.{◌≡◌, true, false, map, sym, ap, subst, ◌∙◌}
use Rattle.std.specs.List.{filter, list_any}
use Rattle.std.specs.Prelude.{IfOk}
use Rattle.std.proofs.lemmas.Bool.{true≢false}
use Rattle.mr_base.specs.Batches.{item_of}
use Rattle.mr_model.specs.Queries.{log_id}
use Rattle.mr_model.specs.Scopes.{is_new_commit}
use Rattle.mr_model.proofs.Members.{sorted_filter}
use Rattle.mr_tables.specs.Change.{id_before, put_all}
use Rattle.mr_tables.specs.TableOrders.{InOrder}
use Rattle.mr_replica.specs.Needed.{is_late_row}
use Rattle.mr_replica.specs.RowKeys.{is_between, log_key}
use Rattle.mr_replica.proofs.LateRows.{late_all, late_written, no_commit, some_commit}
use Rattle.mr_replica.proofs.NamedRows.{puts_first}
use Rattle.mr_replica.proofs.indexed.Indexed+LogRow.late.Goals as goal

pub returns-then-is_empty : goal.returns-then-is_empty
returns-then-is_empty c =
    let known = c.args.known in
    let items = map item_of c.args.items.now in
    let all = c.args.self.now.rows in
    let touched = c.in-Ok.touched in
    let rows = c.in_ok-late_in.field-0.items in
    let none : list_any (is_new_commit known) items ≡ false = no_commit known items touched.committed.keys c.in-Ok.ensures.touched.committed (c.is_empty.ensures.0 c.if-is_empty.true) in
    c.in_ok-put_each.ensures
    ∙ ap (put_all id_before log_id rows) c.new-late.ensures
    ∙ puts_first log_id (is_late_row known items) all rows c.late_in.ensures.order
    (late_written known items touched.rooms c.tail_of.result all rows none c.tail_of.ensures c.in-Ok.ensures.touched.rooms c.in_ok-late_in.ensures.those)

pub of-requires : goal.of-requires
of-requires c =
    let all = c.args.self.now.rows in
    subst (InOrder id_before log_id) (sym c.in_ok-ranged.ensures)
    (sorted_filter (λ a b. id_before (log_id a) (log_id b) ≡ true) (λ r. is_between c.log_end.result c.log_end-2.result (log_key r)) all
    (subst (λ v. InOrder id_before log_id v.rows) c.self.view_is c.self.invariant.index.order))

pub returns : goal.returns
returns c =
    let known = c.args.known in
    let items = map item_of c.args.items.now in
    let all = c.args.self.now.rows in
    let touched = c.in-Ok.touched in
    let some : list_any (is_new_commit known) items ≡ true =
    some_commit known items touched.committed.keys c.in-Ok.ensures.touched.committed (λ none. true≢false (sym (c.is_empty.ensures.1 none) ∙ c.if-is_empty.false)) in
    subst (λ rs. IfOk c.of.result (λ late. late.rows ≡ rs))
    (c.in_ok-ranged.ensures ∙ (λ t. filter (λ r. is_between (c.log_end.ensures t) (c.log_end-2.ensures t) (log_key r)) all) ∙ (λ t. filter (λ r. late_all known items some r t) all))
    c.of.ensures
