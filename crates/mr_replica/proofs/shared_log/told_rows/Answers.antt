use Rattle.std.proofs.Common.{◌≡◌, ◌++◌, ◌∷◌, [], take, sym, subst, rules}
use Rattle.std.proofs.lemmas.List.{take_all}
use Rattle.mr_model.specs.Dropped.{Has}
use Rattle.mr_part.specs.KeptRows.{kept_row_with}
use Rattle.mr_tables.proofs.LogRows.{answered}
use Rattle.mr_replica.specs.SharedLog.{AreTold, IsTold}
use Rattle.mr_replica.proofs.SharedLogs.{take_more, told_more}
use Rattle.mr_replica.proofs.shared_log.told_rows.Goals as goal

pub loop-log-init : goal.loop-log-init
loop-log-init c =
    let none : c.new-rows.result.items ≡ [] = search rules in
    record { each = λ row h. absurd h; own = λ x h. absurd (subst (Has x) none h) }

pub loop-log-preserved : goal.loop-log-preserved
loop-log-preserved c =
    let k = c.loop-log.log-index in
    let logs = c.args.logs.now in
    let log = c.log-item.result in
    let row = c.in_ok-row.row in
    let is : IsTold log row = record { told = c.in_ok-row.ensures.told; only = λ w place seq within e. answered row (kept_row_with w seq place) (c.in_ok-row.ensures.read w place seq within e) } in
    subst (λ ls. AreTold ls c.push.new.self.items) (sym (take_more logs k log c.loop-log-test.true c.log-item.is))
    (subst (AreTold (take k logs ++ log ∷ [])) (sym c.in_ok-push.ensures.items) (told_more (take k logs) c.loop-log.rows.items log row c.loop-log.invariant is))

pub returns : goal.returns
returns c = subst (λ ls. AreTold ls c.loop-log.rows.items) (take_all c.loop-log.log-index c.args.logs.now c.loop-log-test.false) c.loop-log.invariant
