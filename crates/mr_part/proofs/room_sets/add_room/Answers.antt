use Rattle.std.proofs.Common.{Ok, true, subst}
use Rattle.std.specs.BTreeSet.{Updates}
use Rattle.std.specs.Cmp.Lexicographic.{slice_cmp}
use Rattle.std.specs.Ordering.{nat_cmp}
use Rattle.mr_model.specs.Texts.{Text}
use Rattle.mr_base.specs.Answers.{OrOutOfMemory}
use Rattle.mr_tables.proofs.LogRows.{answered}
use Rattle.mr_part.proofs.Sets.{room_more}
use Rattle.mr_part.proofs.room_sets.add_room.Goals as goal

pub returns-in_ok-insert-clause-rooms : goal.returns-in_ok-insert-clause-rooms
returns-in_ok-insert-clause-rooms c = λ name.
    let room = c.args.room.now in
    let copied = answered c.in_ok-copy.field-0 room (subst (λ r. OrOutOfMemory r (Ok room)) c.in_ok-copy.was c.copy.ensures) in
    room_more c.args.set.now c.insert.new.self room name (subst (λ (t : Text). Updates (slice_cmp nat_cmp) c.args.set.now c.insert.new.self t true) copied c.in_ok-insert.ensures.updates)
