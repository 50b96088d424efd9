use Rattle.std.proofs.Common.{◌≡◌, ◌++◌, List, drop}
use Rattle.serde_json.specs.View.{items_view}
use Rattle.mr_model.specs.Step.{SlotWords}
use Rattle.mr_web.specs.Submissions.{slots_of}
use Rattle.mr_web.specs.Views.{slots_view}
use Rattle.mr_web.proofs.SlotLists.{behind}
use Rattle.mr_web.proofs.submissions.add_slots.Given as goal

-- the slots of the values so far were added
abbrev pub invariant-loop-value : goal.invariant-loop-value
invariant-loop-value l =
    (done : List SlotWords) × (slots_view l.slots.items ≡ slots_view l.fn.slots.items ++ done)
    × (slots_of (items_view l.values) ≡ behind done (slots_of (items_view (drop l.value-index l.values))))
