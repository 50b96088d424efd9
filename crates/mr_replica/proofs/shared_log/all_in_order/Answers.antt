use Rattle.std.proofs.Common.{◌≡◌, subst, rules, true}
use Rattle.mr_replica.specs.SharedLog.{AreKeptInRunOrder, AreTold}
use Rattle.mr_replica.proofs.SharedLogs.{told_moved}
use Rattle.mr_replica.proofs.shared_log.all_in_order.Goals as goal

pub returns : goal.returns
returns c =
    let yes : c.are_in_run_order.result ≡ true = search rules in
    let sorted = c.sort_rows.new.rows.items in
    let all : c.deref.result.now ≡ c.args.table.now.rows = search rules in
    let tested : c.deref-2.result.now ≡ sorted = search rules in
    record {
      told = subst (λ logs. AreTold logs sorted) all (told_moved c.deref.result.now c.in_ok-rows.rows.items sorted c.sort_rows.ensures.moved c.in_ok-rows.ensures);
      order = subst AreKeptInRunOrder tested (c.are_in_run_order.ensures yes);
    }
