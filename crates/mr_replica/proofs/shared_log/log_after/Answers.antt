use Rattle.std.proofs.Common.{◌≡◌, ◌∙◌, [], true, sym, ap, subst, rules}
use Rattle.std.specs.Prelude.{IfSome}
use Rattle.mr_model.specs.Queries.{log_id}
use Rattle.mr_tables.specs.Change.{ChangeView, id_before, put_all, rows_without}
use Rattle.mr_replica.specs.SharedLog.{IsSharedLog}
use Rattle.mr_replica.proofs.SharedLogs.{without_none}
use Rattle.mr_replica.proofs.shared_log.log_after.Goals as goal

pub returns-in-Ok : goal.returns-in-Ok
returns-in-Ok c = λ old.
    let table = c.args.table.now.rows in
    let change = c.args.change.now in
    let yes : c.drops_none.result ≡ true = search rules in
    let same : rows_without log_id change.dropped table ≡ table = ap (λ gone. rows_without log_id gone table) (c.drops_none.ensures yes) ∙ without_none table in
    let news : c.deref.result.now ≡ change.log = c.deref.ensures.value ∙ ap (λ (v : ChangeView). v.log) c.change.view_is in
    let rows : IsSharedLog table c.in-Ok.rows.items = search (rules, old) in
    subst (λ t. IfSome c.shared_with.result (λ log. IsSharedLog (put_all id_before log_id change.log t) log.value.items)) (sym same)
    (subst (λ xs. IfSome c.shared_with.result (λ log. IsSharedLog (put_all id_before log_id xs table) log.value.items)) news (c.shared_with.ensures rows))
