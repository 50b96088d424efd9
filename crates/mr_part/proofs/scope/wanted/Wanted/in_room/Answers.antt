use Rattle.std.proofs.Common.{subst, List, [], ◌∷◌}
use Rattle.mr_model.specs.Texts.{Text}
use Rattle.mr_part.specs.Sets.{IsSetOf}
use Rattle.mr_part.proofs.scope.wanted.Wanted.in_room.Goals as goal

pub returns-clause-wanted : goal.returns-clause-wanted
returns-clause-wanted c = λ t.
    let set = subst (λ (names : List Text). IsSetOf c.in_ok-rooms.rooms names) c.from_ref.ensures.value c.in_ok-rooms.ensures.set in
    record {
      bookings_are = c.in_rooms.ensures (c.args.room.now ∷ []) set;
      kept_are = λ a h e. c.new.ensures.items;
    }
