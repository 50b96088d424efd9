use Rattle.std.proofs.Common.{◌∙◌, ap}
use Rattle.std.proofs.lemmas.Result.{IfOk-weaker}
use Rattle.serde_json.specs.Written.{compact_text, has_float}
use Rattle.mr_web.proofs.JsonTexts.{cancel_text}
use Rattle.mr_web.proofs.json_texts.cancel_text.Goals as goal

pub returns : goal.returns
returns c =
    let value = c.in_ok-value.ensures in
    IfOk-weaker c.to_string.result _ _ (λ s h. h (ap has_float value) ∙ ap compact_text value
    ∙ cancel_text c.args.id.now c.args.mark.now c.args.state.now c.args.target.now c.requires.id c.requires.mark c.requires.state c.requires.target) c.to_string.ensures.text
