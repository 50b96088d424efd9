use Rattle.std.proofs.Common.{Bor, ◌≡◌, ap, map, subst, lit<, ◌∙◌, IfOk, None, Some}
use Rattle.std.proofs.lemmas.Iterator.{YieldsList-from_take}
use Rattle.std.proofs.lemmas.Iterator.Consumers.{YieldsList-at, map_from_collect}
use Rattle.std.proofs.lemmas.Iterator.Splits.{YieldsList-from_str_split}
use Rattle.std.specs.Prelude.{MatchOption}
use Rattle.std.specs.List.{slice_split}
use Rattle.mr_model.specs.Texts.{Text, is_space}
use Rattle.mr_service.specs.Stepping.{step_of}
use Rattle.mr_tasks.specs.LineSteps.{row_step}
use Rattle.mr_tasks.proofs.ScriptLines.{five_words}
use Rattle.mr_tasks.proofs.lines.other_step.Goals as goal

pub returns : goal.returns
returns c =
    let pieces = YieldsList-from_str_split 32 c.args.line.now (lit< tt) c.split.ensures.text c.split.ensures.has_more c.split.ensures.pattern in
    let words = rw c.in_ok-words.was at (map_from_collect _ c.collect.ensures.ran (YieldsList-from_take 5 (YieldsList-at c.take.ensures.source pieces) c.take.ensures.count)) in
    subst (λ o. IfOk c.row.result (λ found. MatchOption found (o ≡ None) (λ step. o ≡ Some (step_of step))))
    (ap (λ ws. row_step (map (λ (w : Bor Text). w.now) ws)) c.as_slice.ensures.value ∙ ap row_step words ∙ five_words (slice_split is_space c.args.line.now)) c.row.ensures
