use Rattle.std.proofs.Common.{◌≡◌, ◌∙◌, ◌+◌, ◌||◌, true, false, take, ap, sym, subst}
use Rattle.std.proofs.lemmas.List.{take_all}
use Rattle.mr_model.specs.Dropped.{Has}
use Rattle.mr_model.specs.Queries.{log_id}
use Rattle.mr_model.specs.Tables.{LogRow}
use Rattle.mr_model.specs.Writes.{Id, same_id}
use Rattle.mr_part.specs.KeptRows.{kept_row_with}
use Rattle.mr_part.specs.Sets.{has_id}
use Rattle.mr_part.proofs.Sets.{id_more}
use Rattle.mr_tables.specs.Change.{id_before, put, put_all}
use Rattle.mr_tables.specs.TableOrders.{InOrder, id_order}
use Rattle.mr_tables.proofs.LogRows.{answered}
use Rattle.mr_tables.proofs.Putting.{put_all_in_order, put_has}
use Rattle.mr_replica.specs.SharedLog.{IsSharedLog, IsTold}
use Rattle.mr_replica.proofs.SharedLogs.{known_more, new_one, put_more, take_more}
use Rattle.mr_replica.proofs.shared_log.put_each.Goals as goal

pub loop-log-preserved : goal.loop-log-preserved
loop-log-preserved c =
    let k = c.loop-log.log-index in
    let news = c.args.news.now in
    let table = c.args.table.now.rows in
    let log = c.log-item.result in
    let row = c.in_ok-row.row in
    let was = has_id c.loop-log.put in
    let so_far = put_all id_before log_id (take k news) table in
    let is : IsTold log row = record { told = c.in_ok-row.ensures.told; only = λ w place seq within e. answered row (kept_row_with w seq place) (c.in_ok-row.ensures.read w place seq within e) } in
    let next : put_all id_before log_id (take (k + 1) news) table ≡ put id_before log_id log so_far =
    ap (λ xs. put_all id_before log_id xs table) (take_more news k log c.loop-log-test.true c.log-item.is) ∙ put_more (take k news) log table in
    let order : InOrder id_before log_id so_far = put_all_in_order id_before log_id id_order (take k news) table c.is_new-is_new.ensures.order in
    let new : c.is_new-is_new.result ≡ true → (one : LogRow) → Has one so_far → log_id one ≡ log_id log → ⊥ =
    λ yes. new_one table so_far log was c.loop-log.invariant.1
    (subst (λ (i : Id). ((one : LogRow) → Has one table → log_id one ≡ i → ⊥) × (was i ≡ false)) c.id-id.ensures (c.is_new-is_new.ensures.absent yes, c.is_new-is_new.ensures.unput yes)) in
    let more : (i : Id) → has_id c.insert.new.self i ≡ (same_id (log_id log) i || was i) =
    λ i. subst (λ (j : Id). has_id c.insert.new.self i ≡ (same_id j i || was i)) c.id-id.ensures (id_more c.loop-log.put c.insert.new.self c.id-id.result i c.in_ok-insert.ensures.updates) in (
      λ shared. subst (λ t. IsSharedLog t c.put_one.new.rows.items) (sym next) (c.in_ok-put_one.ensures so_far log order (c.loop-log.invariant.0 shared) is new),
      λ one h. known_more table so_far log one was (has_id c.insert.new.self) more c.loop-log.invariant.1 (put_has id_before log_id id_order one log so_far order (subst (Has one) next h)),
    )

pub returns : goal.returns
returns c = λ shared.
    subst (λ xs. IsSharedLog (put_all id_before log_id xs c.args.table.now.rows) c.loop-log.rows.items)
    (take_all c.loop-log.log-index c.args.news.now c.loop-log-test.false) (c.loop-log.invariant.0 shared)
