use Rattle.std.proofs.Common.{◌∙◌, [], ◌∷◌, codes}
use Rattle.std.proofs.lemmas.Result.{IfOk-weaker}
use Rattle.mr_model.specs.Http as model
use Rattle.mr_web.proofs.json_texts.cancel_json.Goals as goal

pub returns : goal.returns
returns c =
    let id = c.as_str.ensures.value ∙ c.in_ok-id.ensures.text in
    let mark = c.mark_text-mark.ensures.text in
    let target = c.as_str-2.ensures.value ∙ c.in_ok-target.ensures.text in
    IfOk-weaker c.cancel_text.result _ _ (λ s h. h ∙ (λ i. model.object (
    model.member (codes "id") (model.quoted (id i)) ∷ model.member (codes "mark") (model.quoted (mark i))
    ∷ model.member (codes "state") (model.quoted c.args.state.now) ∷ model.member (codes "target") (model.quoted (target i)) ∷ []))) c.cancel_text.ensures
