use Rattle.std.proofs.Common.{◌∙◌, ap, sym, ◌||◌, List}
use Rattle.std.specs.List.{list_any}
use Rattle.mr_service.specs.declared.commands.SlotWords.{SlotWords}
use Rattle.mr_service.specs.Asked.{words_of, submission_of}
use Rattle.mr_service.specs.SubmittedWords.{lacks_day}
use Rattle.mr_service.proofs.WordsRead.{any-map}
use Rattle.mr_service.proofs.words.lacks_some_day.Goals as goal

pub returns-else-lacks_day : goal.returns-else-lacks_day
returns-else-lacks_day c =
    c.lack_day.ensures ∙ ap (λ (ws : List SlotWords). list_any (λ w. lacks_day (words_of w)) ws) c.as_slice.ensures.value
    ∙ any-map lacks_day words_of c.args.words.now.alternatives.items
    ∙ ap (λ b. b || list_any lacks_day (submission_of c.args.words.now).alternatives) (sym c.if-lacks_day.false ∙ c.lacks_day.ensures)
