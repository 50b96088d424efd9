use Rattle.std.proofs.Common.{rules}
use Rattle.std.proofs.lemmas.Slice.Eq.{slice_eq-Decides}
use Rattle.mr_base.proofs.EqualSlots.{same_test}
use Rattle.mr_base.proofs.meetings.are_same_slots.Goals as goal

pub returns : goal.returns
returns c = same_test _ _ _ (slice_eq-Decides (λ a b. search rules) c.args.a.now c.args.b.now c.eq.result c.eq.ensures)
