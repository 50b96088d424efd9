use Rattle.std.proofs.Common.{◌≡◌, ◌∙◌, false, sym, ap}
use Rattle.std.specs.Prelude.{bytes_eq}
use Rattle.std.specs.List.{list_any}
use Rattle.mr_model.specs.Replica.{knows_room}
use Rattle.mr_part.specs.Parts.{PartView}
use Rattle.mr_part.proofs.PartCalls.{part_room}
use Rattle.mr_part.proofs.part.Part.add_room.Goals as goal

pub returns-clause-step : goal.returns-clause-step
returns-clause-step c = λ a sound part.
    let t = c.args.room.now in
    let i = c.self.inside in
    let p : PartView = record { summary = i.summary; rooms = i.rooms.items; kept = i.kept; board = i.board } in
    let e = c.self.view_is ∙ part in
    let rooms = c.deref.ensures.value ∙ ap (λ (v : PartView). v.rooms) e in
    let unknown : knows_room a t ≡ false = sym (λ i. list_any (bytes_eq t) (rooms i)) ∙ sym c.is_known.ensures ∙ c.if-is_known.false in
    part_room a t p c.room_change.result sound e c.as_str.ensures.is_name unknown c.room_change.ensures.change c.room_change.ensures.only
