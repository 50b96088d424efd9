use Rattle.std.proofs.Common.{◌∙◌, ap, ◌||◌, List, map, is_none}
use Rattle.std.specs.List.{list_any}
use Rattle.mr_service.specs.declared.commands.SlotWords.{SlotWords}
use Rattle.mr_service.specs.Asked.{words_of, submission_of}
use Rattle.mr_service.specs.SubmittedWords.{latest_from, lacks_time}
use Rattle.mr_service.proofs.WordsRead.{starts_read}
use Rattle.mr_service.proofs.words.latest_start.Goals as goal

pub returns-clause-times : goal.returns-clause-times
returns-clause-times c =
    let others = (submission_of c.args.words.now).alternatives in
    ap is_none (c.latest_from.ensures ∙ ap (λ (ws : List SlotWords). latest_from c.in_ok-wish.wish (map words_of ws)) c.as_slice.ensures.value)
    ∙ starts_read c.in_ok-wish.wish others
    ∙ ap (λ o. is_none o || list_any lacks_time others) c.in_ok-wish.ensures
