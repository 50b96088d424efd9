use Rattle.std.proofs.Common.{rules}
use Rattle.std.proofs.lemmas.List.Sorted.{answers_always}
use Rattle.mr_model.specs.Texts.{Text}
use Rattle.mr_model.specs.Replica.{text_before}
use Rattle.mr_tables.proofs.Rising.{rise_from}
use Rattle.mr_audit.proofs.rooms.are_rooms_rising.Goals as goal

pub returns : goal.returns
returns c = rise_from text_before (λ (name : Text). name) c.args.rooms.now c.is_sorted_by.result (c.is_sorted_by.ensures.cases text_before (answers_always _ _ _ (λ f a r f' k. search rules)))
