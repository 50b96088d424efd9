use Rattle.std.proofs.Common.{◌∙◌, [], ◌∷◌, codes}
use Rattle.std.proofs.lemmas.Result.{IfOk-weaker}
use Rattle.mr_model.specs.Http as model
use Rattle.mr_web.proofs.json_texts.booked_json.Goals as goal

pub returns : goal.returns
returns c =
    let day = c.as_str.ensures.value ∙ c.in_ok-day.ensures.text in
    let id = c.as_str-2.ensures.value ∙ c.in_ok-id.ensures.text in
    let mark = c.mark_text-mark.ensures.text in
    let start = c.as_str-3.ensures.value ∙ c.in_ok-start.ensures.text in
    let stop = c.as_str-4.ensures.value ∙ c.in_ok-stop.ensures.text in
    IfOk-weaker c.booked_text.result _ _ (λ s h. h ∙ (λ i. model.object (
    model.member (codes "day") (model.quoted (day i)) ∷ model.member (codes "id") (model.quoted (id i))
    ∷ model.member (codes "mark") (model.quoted (mark i)) ∷ model.member (codes "start") (model.quoted (start i))
    ∷ model.member (codes "state") (model.quoted (codes "booked")) ∷ model.member (codes "stop") (model.quoted (stop i)) ∷ []))) c.booked_text.ensures
