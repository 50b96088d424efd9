use Rattle.std.proofs.Common.{◌∙◌, ap}
use Rattle.std.proofs.lemmas.Result.{IfOk-weaker}
use Rattle.serde_json.specs.Written.{compact_text, has_float}
use Rattle.mr_web.proofs.JsonTexts.{cancelled_text}
use Rattle.mr_web.proofs.json_texts.cancelled_text.Goals as goal

pub returns : goal.returns
returns c =
    let value = c.in_ok-value.ensures in
    IfOk-weaker c.to_string.result _ _ (λ s h. h (ap has_float value) ∙ ap compact_text value
    ∙ cancelled_text c.args.by.now c.args.by_mark.now c.args.id.now c.args.mark.now c.requires.by c.requires.by_mark c.requires.id c.requires.mark) c.to_string.ensures.text
