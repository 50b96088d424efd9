use Rattle.std.proofs.Common.{◌≡◌, ◌∙◌, ◌&&◌, ◌||◌, ◌∷◌, ◌+◌, Bool, true, false, not, ap, refl, sym, drop}
use Rattle.std.proofs.lemmas.List.{drop_more, at_drop_all}
use Rattle.std.specs.List.{list_any}
use Rattle.std.specs.Prelude.{bytes_eq}
use Rattle.mr_replay.specs.Seen.{has_room}
use Rattle.mr_part.proofs.Sets.{room_less, set_of_keys}
use Rattle.mr_part.proofs.room_sets.unknown_rooms.Goals as goal

pub loop-room-preserved : goal.loop-room-preserved
loop-room-preserved c = λ name.
    let known = c.args.known.now in
    let room = c.room-item.result in
    let k = c.loop-room.room-index in
    let rest = list_any (bytes_eq name) (drop (k + 1) known) in
    let had = has_room c.loop-room.left name in
    let here = drop_more known k room c.loop-room-test.true ∙ ap (λ x. x ∷ drop (k + 1) known) (sym c.room-item.is) in
    ap (λ b. not rest && b) (room_less c.loop-room.left c.remove.new.self room name c.remove.ensures.updates) ∙ go (bytes_eq name room) rest had
    ∙ ap (λ left. not (list_any (bytes_eq name) left) && had) (sym here) ∙ c.loop-room.invariant name
  where
    go : (a b c : Bool) → (not b && (not a && c)) ≡ (not (a || b) && c)
    go true true c = refl
    go true false c = refl
    go false b c = refl

pub returns-clause-unknown : goal.returns-clause-unknown
returns-clause-unknown c = λ name.
    let left = c.loop-room.left in
    ap (list_any (bytes_eq name)) c.in_ok-unknown.ensures.names ∙ sym (set_of_keys left name)
    ∙ ap (λ b. not b && has_room left name) (sym (at_drop_all (list_any (bytes_eq name)) c.args.known.now c.loop-room.room-index c.loop-room-test.false))
    ∙ c.loop-room.invariant name
