use Rattle.std.proofs.Common.{◌∙◌, [], ap, sym, refl}
use Rattle.std.specs.BTreeSet.{BTreeSet}
use Rattle.mr_model.specs.Replay.{place_among}
use Rattle.mr_model.specs.Writes.{Id, Write}
use Rattle.mr_replay.specs.Rows.{place_by_rows, bookings_of}
use Rattle.mr_replay.specs.Seen.{has_room, seen_in}
use Rattle.mr_replay.proofs.Hiding.{shown-empty}
use Rattle.mr_replay.proofs.SeenRows.{bookings-seen, bookings-unseen}
use Rattle.mr_replay.proofs.seen.merge_in_rooms.Goals as goal

pub returns-then-contains : goal.returns-then-contains
returns-then-contains c =
    let w = c.args.write.now in
    let rooms = c.args.rooms.now in
    let b = c.args.board.now in
    let there = sym (ap (λ (v : Write). has_room rooms v.room) c.write.view_is) ∙ sym c.contains.ensures ∙ c.if-contains.true in
    let nothing : BTreeSet Id = record { keys = [] } in
    c.merge.ensures ∙ sym (ap (λ bs. place_among bs w)
    (sym (ap (bookings_of w.room) (shown-empty nothing (seen_in rooms b) refl)) ∙ bookings-seen rooms nothing w.room b there ∙ ap (bookings_of w.room) (shown-empty nothing b refl)))

pub returns : goal.returns
returns c =
    let w = c.args.write.now in
    let rooms = c.args.rooms.now in
    let b = c.args.board.now in
    let out = sym (ap (λ (v : Write). has_room rooms v.room) c.write.view_is) ∙ sym c.contains.ensures ∙ c.if-contains.false in
    let nothing : BTreeSet Id = record { keys = [] } in
    c.merge-3.ensures ∙ ap (λ x. place_by_rows x w) c.new.ensures.value
    ∙ sym (ap (λ bs. place_among bs w) (sym (ap (bookings_of w.room) (shown-empty nothing (seen_in rooms b) refl)) ∙ bookings-unseen rooms nothing w.room b out))
