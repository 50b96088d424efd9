use Rattle.std.proofs.Common.{◌∙◌, Result, Err, ap, sym, subst, ok_or}
use Rattle.std.proofs.lemmas.Result.{err_from_is_err_and}
use Rattle.serde_json.specs.View.{view}
use Rattle.mr_model.specs.Http.{bad_request}
use Rattle.mr_service.specs.declared.commands.Submission.{Submission}
use Rattle.mr_service.specs.Asked.{submission_of as submission_view}
use Rattle.mr_web.specs.Submissions.{submission_in, submission_in_body}
use Rattle.mr_web.specs.JsonBodies.{json_of}
use Rattle.mr_web.specs.Views.{GivesView}
use Rattle.mr_web.specs.declared.rejections.Stop.{Stop}
use Rattle.mr_web.proofs.JsonBodies.{made_of, none_of}
use Rattle.mr_web.proofs.submissions.submission.Goals as goal

pub returns : goal.returns
returns c =
    made_of submission_view submission_in (json_of c.args.body.now) (view c.in_ok-value.value) c.submission_in.result c.in_ok-value.ensures c.submission_in.ensures

pub returns-in_err-value : goal.returns-in_err-value
returns-in_err-value c =
    let told = err_from_is_err_and c.from_residual.result c.from_residual.ensures.1 in
    let S : Result Submission Stop → Type 0 = λ r. GivesView submission_view r (ok_or (submission_in_body c.args.body.now) bad_request) in
    subst S (sym (told.1 ∙ ap Err told.2)) (none_of submission_view submission_in (json_of c.args.body.now) c.in_err-value.field-0.0 c.in_err-value.ensures)
