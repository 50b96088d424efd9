use Rattle.std.proofs.Common.{◌∙◌, Result, Err, ap, sym, subst, ok_or}
use Rattle.std.proofs.lemmas.Result.{err_from_is_err_and}
use Rattle.serde_json.specs.View.{view}
use Rattle.mr_model.specs.Http.{bad_request}
use Rattle.mr_web.specs.declared.cancellations.CancelWords.{CancelWords}
use Rattle.mr_web.specs.Cancellations.{cancellation_in, cancellation_of}
use Rattle.mr_web.specs.JsonBodies.{json_of}
use Rattle.mr_web.specs.Views.{cancellation_view, GivesView}
use Rattle.mr_web.specs.declared.rejections.Stop.{Stop}
use Rattle.mr_web.proofs.JsonBodies.{made_of, none_of}
use Rattle.mr_web.proofs.cancellations.cancellation.Goals as goal

pub returns : goal.returns
returns c =
    made_of cancellation_view cancellation_in (json_of c.args.body.now) (view c.in_ok-value.value) c.cancellation_in.result c.in_ok-value.ensures c.cancellation_in.ensures

pub returns-in_err-value : goal.returns-in_err-value
returns-in_err-value c =
    let told = err_from_is_err_and c.from_residual.result c.from_residual.ensures.1 in
    let S : Result CancelWords Stop → Type 0 = λ r. GivesView cancellation_view r (ok_or (cancellation_of c.args.body.now) bad_request) in
    subst S (sym (told.1 ∙ ap Err told.2)) (none_of cancellation_view cancellation_in (json_of c.args.body.now) c.in_err-value.field-0.0 c.in_err-value.ensures)
