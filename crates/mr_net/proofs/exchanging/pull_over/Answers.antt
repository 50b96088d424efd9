use Rattle.std.proofs.Common.{◌∙◌, inl, inr, refl, ap, Err}
use Rattle.std.proofs.lemmas.Result.{err_from_is_err_and}
use Rattle.mr_net.proofs.exchanging.pull_over.Goals as goal

pub returns-in_err-send : goal.returns-in_err-send
returns-in_err-send g c =
    let p = err_from_is_err_and c.from_residual.result c.from_residual.ensures.1 in
    let (n, few, sent) = c.in_err-send.ensures.front in
    inl ((p.1 ∙ ap Err p.2 ∙ ap Err c.in_err-send.ensures.fault, n, few, sent), refl {a = c.args.service.now})

pub returns : goal.returns
returns g c =
    let (called, took, comes, once) = c.take_pull.ensures in
    inr (c.in_ok-send.ensures.ok, called, took, comes, once)
