use Rattle.std.proofs.Common.{◌≡◌, ◌∙◌, ◌&&◌, true, ap, sym}
use Rattle.std.specs.Str.{bytes_eq}
use Rattle.std.specs.List.{list_any}
use Rattle.mr_model.specs.Writes.{Stamp, Write}
use Rattle.mr_model.specs.Scopes.{is_late}
use Rattle.mr_part.proofs.batch.movable.may_move.Goals as goal

pub returns-then-contains : goal.returns-then-contains
returns-then-contains c = λ touched items commits moving.
    let v = c.args.write.now in
    let known : list_any (bytes_eq v.room) touched ≡ true = ap (λ (w : Write). list_any (bytes_eq w.room) touched) (sym c.write.view_is)
    ∙ sym (moving.rooms_are c.write.inside.room) ∙ sym c.contains.ensures ∙ c.if-contains.true in
    let late = c.has_place.ensures ∙ moving.tail_is c.stamp.inside.time c.stamp.inside.server ∙ ap (λ (s : Stamp). is_late commits items s.time s.server) c.stamp.view_is
    ∙ ap (λ (w : Write). is_late commits items w.stamp.time w.stamp.server) c.write.view_is in
    late ∙ (λ t. sym known t && is_late commits items v.stamp.time v.stamp.server)
