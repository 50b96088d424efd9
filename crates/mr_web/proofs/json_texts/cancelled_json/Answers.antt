use Rattle.std.proofs.Common.{◌∙◌, [], ◌∷◌, codes}
use Rattle.std.proofs.lemmas.Result.{IfOk-weaker}
use Rattle.mr_model.specs.Http as model
use Rattle.mr_web.proofs.json_texts.cancelled_json.Goals as goal

pub returns : goal.returns
returns c =
    let by = c.as_str.ensures.value ∙ c.in_ok-by.ensures.text in
    let by_mark = c.mark_text-by_mark.ensures.text in
    let id = c.as_str-2.ensures.value ∙ c.in_ok-id.ensures.text in
    let mark = c.mark_text-mark.ensures.text in
    IfOk-weaker c.cancelled_text.result _ _ (λ s h. h ∙ (λ i. model.object (
    model.member (codes "by") (model.quoted (by i)) ∷ model.member (codes "bymark") (model.quoted (by_mark i))
    ∷ model.member (codes "id") (model.quoted (id i)) ∷ model.member (codes "mark") (model.quoted (mark i))
    ∷ model.member (codes "state") (model.quoted (codes "cancelled")) ∷ []))) c.cancelled_text.ensures
