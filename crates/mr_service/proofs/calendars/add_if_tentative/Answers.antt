use Rattle.std.proofs.Common.{◌≡◌, ◌∙◌, ◌&&◌, ◌||◌, Bool, true, false, refl, ap, sym, subst, eq-eqb}
use Rattle.std.specs.BTreeSet.{Updates}
use Rattle.mr_model.specs.Queries.{cancel_id}
use Rattle.mr_model.specs.Tables.{CancelRow}
use Rattle.mr_model.specs.Writes.{Id, same_id}
use Rattle.mr_base.specs.Ids.{id_cmp}
use Rattle.mr_part.specs.Sets.{has_id}
use Rattle.mr_part.proofs.Sets.{id_more}
use Rattle.mr_service.proofs.calendars.add_if_tentative.Goals as goal

and_true : (b c : Bool) → c ≡ true → b ≡ (b && c)
and_true true c e = sym e
and_true false c e = refl

pub returns-in_ok-insert-clause-ids : goal.returns-in_ok-insert-clause-ids
returns-in_ok-insert-clause-ids c = λ id.
    let row : CancelRow = c.args.row.now in
    let old = c.args.ids.now in
    let new = c.insert.new.self in
    let zero : row.seq ≡ 0 = sym (ap (λ (r : CancelRow). r.seq) c.row.view_is) ∙ c.if-row-eq0.true in
    let own = c.id.ensures in
    let updates = subst (λ (i : Id). Updates id_cmp old new i true) own c.in_ok-insert.ensures.updates in
    id_more old new (cancel_id row) id updates
    ∙ ap (λ b. b || has_id old id) (and_true (same_id (cancel_id row) id) _ (eq-eqb row.seq 0 zero))
