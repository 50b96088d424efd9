use Rattle.std.proofs.Common.{◌∙◌, [], ◌∷◌, ◌++◌, ap, sym, option_map}
use Rattle.std.proofs.lemmas.List.{map-append}
use Rattle.mr_service.specs.Asked.{words_of}
use Rattle.mr_web.specs.Views.{slots_view}
use Rattle.mr_web.proofs.submissions.add_slot.Goals as goal

pub returns : goal.returns
returns c =
    let old = c.args.slots.now.items in
    let words = c.in_ok-words.words in
    let items = ap slots_view c.in_ok-push.ensures.items ∙ map-append words_of old (words ∷ []) in
    (_, ap (λ o. option_map (λ s. s ∷ []) o) (sym c.in-Some.ensures), items ∙ ap (λ s. slots_view old ++ s ∷ []) c.in_ok-words.ensures)
