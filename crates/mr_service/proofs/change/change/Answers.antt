use Rattle.std.proofs.Common.{subst}
use Rattle.std.proofs.lemmas.Result.{err_from_is_err_and}
use Rattle.mr_service.specs.Asked.{reply_of}
use Rattle.mr_service.specs.Turns.{TurnsBy}
use Rattle.mr_service.proofs.KeeperChanges.{refused_call, change_made, change_failed}
use Rattle.mr_service.proofs.change.change.Goals as goal

pub returns-in_err-reply : goal.returns-in_err-reply
returns-in_err-reply g c = λ command f scope part does is_open from turned.
    let p = err_from_is_err_and c.from_residual.result c.from_residual.ensures.1 in
    rw (p.1, p.2) (refused_call g.K.Keeper c.args.keeper.now scope part c.in_err-reply.field-0.0 command f does is_open from
    (subst (λ r. TurnsBy scope f part r) c.in_err-reply.was turned))

pub returns-in_err-apply : goal.returns-in_err-apply
returns-in_err-apply g c = λ command f scope part does is_open from turned.
    let p = err_from_is_err_and c.from_residual-in_err-apply.result c.from_residual-in_err-apply.ensures.1 in
    rw p.1 (change_failed g.K.Keeper c.args.keeper.now c.apply.new.self scope part (reply_of c.in_ok-reply.reply) c.in_ok-reply.change c.in_err-apply.field-0.0 p.0 command f p.2 does from
    (subst (λ r. TurnsBy scope f part r) c.in_ok-reply.was turned) c.in_err-apply.ensures.atomic)

pub returns : goal.returns
returns g c = λ command f scope part does is_open from turned.
    change_made g.K.Keeper c.args.keeper.now c.apply.new.self _ scope part (reply_of c.in_ok-reply.reply) c.in_ok-reply.change command f does from
    (subst (λ r. TurnsBy scope f part r) c.in_ok-reply.was turned) c.in_ok-apply.ensures.atomic
