use Rattle.std.proofs.Common.{◌∙◌, ap}
use Rattle.std.proofs.lemmas.Result.{IfOk-weaker}
use Rattle.serde_json.specs.Written.{compact_text, has_float}
use Rattle.mr_web.proofs.JsonTexts.{booked_text}
use Rattle.mr_web.proofs.json_texts.booked_text.Goals as goal

pub returns : goal.returns
returns c =
    let value = c.in_ok-value.ensures in
    IfOk-weaker c.to_string.result _ _ (λ s h. h (ap has_float value) ∙ ap compact_text value ∙ booked_text c.args.day.now c.args.id.now c.args.mark.now
    c.args.start.now c.args.stop.now c.requires.day c.requires.id c.requires.mark c.requires.start c.requires.stop) c.to_string.ensures.text
