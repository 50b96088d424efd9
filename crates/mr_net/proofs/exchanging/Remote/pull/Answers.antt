use Rattle.std.proofs.Common.{◌∙◌, ap, subst, None, Some, Err}
use Rattle.std.proofs.lemmas.Result.{err_from_is_err_and}
use Rattle.mr_model.specs.Texts.{Text}
use Rattle.mr_net.specs.SentRequests.{PullsOver}
use Rattle.mr_net.proofs.RoundLaws.{pull_sent, pull_unmade, pull_unsent}
use Rattle.mr_net.proofs.exchanging.Remote.pull.Goals as goal

-- no request is made
pub returns-in_err-pull_ask : goal.returns-in_err-pull_ask
returns-in_err-pull_ask g c =
    let p = err_from_is_err_and c.from_residual.result c.from_residual.ensures.1 in
    pull_unmade g.K.Keeper c.args.self.now.service c.pull_ask.new.service c.as_str-host.result.now (Some c.new-request.result.items) (Some c.pull_ask.new.writer.items)
    c.in_err-pull_ask.field-0.0 c.from_residual.result c.in_err-pull_ask.ensures.exchanged c.in_err-pull_ask.ensures.once
    c.in_err-pull_ask.ensures.fault (p.1 ∙ ap Err p.2)

-- there is no connection
pub returns-in_err-stream : goal.returns-in_err-stream
returns-in_err-stream g c =
    let p = err_from_is_err_and c.from_residual-in_err-stream.result c.from_residual-in_err-stream.ensures.1 in
    pull_unsent g.K.Keeper c.args.self.now.service c.pull_ask.new.service c.as_str-host.result.now (Some c.new-request.result.items) (Some c.pull_ask.new.writer.items)
    c.from_residual-in_err-stream.result c.in_ok-pull_ask.ensures.exchanged c.in_ok-pull_ask.ensures.once (p.1 ∙ ap Err p.2 ∙ ap Err c.in_err-stream.ensures)

pub returns : goal.returns
returns g c =
    let Q : Text → Type 0 = λ made. PullsOver g.K.Keeper c.pull_ask.new.service c.pull_over.new.service made None None None c.pull_over.result in
    pull_sent g.K.Keeper c.args.self.now.service c.pull_ask.new.service c.pull_over.new.service c.as_str-host.result.now c.new-request.result.items
    c.pull_ask.new.writer.items None None None c.pull_over.result c.new-request.ensures.items c.in_ok-pull_ask.ensures.exchanged
    c.in_ok-pull_ask.ensures.once
    (subst Q c.as_slice.ensures.value c.pull_over.ensures)
