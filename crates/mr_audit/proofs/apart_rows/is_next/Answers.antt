use Rattle.std.proofs.Common.{◌∙◌, ap, nat_le, sym}
use Rattle.std.specs.declared.cmp.Ordering.{Ordering}
use Rattle.mr_audit.specs.Apart.{or_alike}
use Rattle.mr_audit.proofs.apart_rows.is_next.Goals as goal

pub returns-in-Less : goal.returns-in-Less
returns-in-Less c =
    let is_over = nat_le c.args.one.now.stop c.args.next.now.start in
    ap (λ (o : Ordering). or_alike o is_over) (sym c.in-Less.is ∙ c.compare_places.ensures)

pub returns-in-Equal : goal.returns-in-Equal
returns-in-Equal c =
    let is_over = nat_le c.args.one.now.stop c.args.next.now.start in
    (λ i. nat_le (c.one.view_is i).stop (c.next.view_is i).start)
    ∙ ap (λ (o : Ordering). or_alike o is_over) (sym c.in-Equal.is ∙ c.compare_places.ensures)

pub returns-in-Greater : goal.returns-in-Greater
returns-in-Greater c =
    let is_over = nat_le c.args.one.now.stop c.args.next.now.start in
    ap (λ (o : Ordering). or_alike o is_over) (sym c.in-Greater.is ∙ c.compare_places.ensures)
