use Rattle.std.proofs.Common.{sym, subst, IsTrue}
use Rattle.std.proofs.lemmas.Result.{IfOk-weaker}
use Rattle.mr_model.specs.Writes.{Id, is_id}
use Rattle.mr_web.specs.Plain.{IsPlain}
use Rattle.mr_web.proofs.PlainTexts.{plain_id}
use Rattle.mr_web.proofs.json_texts.id_text.Goals as goal

pub returns-clause-plain : goal.returns-clause-plain
returns-clause-plain c =
    let valid : IsTrue (is_id c.args.id) = subst (λ (v : Id). IsTrue (is_id v)) c.id.view_is c.id.invariant in
    IfOk-weaker c.format.result _ _ (λ s h. subst IsPlain (sym h) (plain_id c.args.id valid)) c.format.ensures.ok
