use Rattle.std.proofs.Common.{◌∙◌, ap, subst, None, Some, Err}
use Rattle.std.proofs.lemmas.Result.{err_from_is_err_and}
use Rattle.mr_model.specs.Texts.{Text}
use Rattle.mr_net.specs.SentRequests.{PushesOver}
use Rattle.mr_net.proofs.RoundLaws.{push_sent, push_unmade, push_unsent}
use Rattle.mr_net.proofs.exchanging.Remote.push.Goals as goal

-- no request is made
pub returns-in_err-ending : goal.returns-in_err-ending
returns-in_err-ending g c =
    let p = err_from_is_err_and c.from_residual-in_err-ending.result c.from_residual-in_err-ending.ensures.1 in
    push_unmade g.K.Keeper c.args.self.now.service c.push_ask.new.service c.in_ok-position.position c.as_str-host.result.now (Some c.new-request.result.items)
    (Some c.push_ask.new.writer.items) c.in_err-ending.field-0.0 c.from_residual-in_err-ending.result c.in_err-ending.ensures.exchanged c.in_err-ending.ensures.once
    c.in_err-ending.ensures.fault
    (p.1 ∙ ap Err p.2)

-- there is no connection
pub returns-in_err-stream : goal.returns-in_err-stream
returns-in_err-stream g c =
    let p = err_from_is_err_and c.from_residual-in_err-stream.result c.from_residual-in_err-stream.ensures.1 in
    push_unsent g.K.Keeper c.args.self.now.service c.push_ask.new.service c.in_ok-position.position c.as_str-host.result.now c.new-request.result.items
    c.push_ask.new.writer.items c.in_ok-ending.ending c.from_residual-in_err-stream.result c.new-request.ensures.items c.in_ok-ending.ensures.exchanged
    c.in_ok-ending.ensures.once
    (p.1 ∙ ap Err p.2 ∙ ap Err c.in_err-stream.ensures)

pub returns : goal.returns
returns g c =
    let Q : Text → Type 0 = λ made. PushesOver made c.in_ok-ending.ending None None None c.push_over.result in
    push_sent g.K.Keeper c.args.self.now.service c.push_ask.new.service c.in_ok-position.position c.as_str-host.result.now c.new-request.result.items
    c.push_ask.new.writer.items None None None c.in_ok-ending.ending c.push_over.result c.new-request.ensures.items c.in_ok-ending.ensures.exchanged
    c.in_ok-ending.ensures.once
    (subst Q c.as_slice.ensures.value c.push_over.ensures)
