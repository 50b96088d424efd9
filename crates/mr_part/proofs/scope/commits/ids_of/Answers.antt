use Rattle.std.proofs.Common.{◌≡◌, ◌||◌, ◌∙◌, ◌∷◌, ◌+◌, ap, sym, subst, drop, map, List, Bool, true}
use Rattle.std.proofs.Math.Bool.{or-false}
use Rattle.std.proofs.lemmas.List.{drop_more, at_drop_all}
use Rattle.std.specs.BTreeSet.{Updates}
use Rattle.mr_model.specs.Writes.{Id, same_id}
use Rattle.mr_model.specs.Queries.{log_id}
use Rattle.mr_model.specs.Replica.{is_among}
use Rattle.mr_model.specs.Tables.{LogRow}
use Rattle.mr_model.proofs.CommittedPlaces.{same_id_comm}
use Rattle.mr_base.specs.Ids.{id_cmp}
use Rattle.mr_part.specs.Sets.{has_id}
use Rattle.mr_part.proofs.Sets.{added_more, id_more}
use Rattle.mr_part.proofs.scope.commits.ids_of.Goals as goal

abbrev among : Id → List LogRow → Bool
among id rows = is_among id (map log_id rows)

pub loop-row-preserved : goal.loop-row-preserved
loop-row-preserved c = λ id.
    let rows = c.args.rows.now in
    let row = c.row-item.result in
    let k = c.loop-row.row-index in
    let rest = map (λ r. r.now) (drop (k + 1) rows) in
    let old = c.loop-row.ids in
    let new = c.insert.new.self in
    let here = ap (map (λ r. r.now)) (drop_more rows k row c.loop-row-test.true ∙ ap (λ x. x ∷ drop (k + 1) rows) (sym c.row-item.is)) in
    added_more (has_id new id) (has_id old id) (same_id id (log_id row.now)) (among id rest) (among id (map (λ r. r.now) rows))
    (id_more old new (log_id row.now) id (subst (λ (i : Id). Updates id_cmp old new i true) c.id.ensures c.in_ok-insert.ensures.updates)
    ∙ ap (λ b. b || has_id old id) (same_id_comm (log_id row.now) id))
    (subst (λ left. (has_id old id || among id left) ≡ among id (map (λ r. r.now) rows)) here (c.loop-row.invariant id))

pub returns-clause-ids : goal.returns-clause-ids
returns-clause-ids c = λ id.
    let rows = c.args.rows.now in
    let had = c.loop-row.ids in
    sym (or-false (has_id had id))
    ∙ subst (λ left. (has_id had id || among id left) ≡ among id (map (λ r. r.now) rows)) (at_drop_all (map (λ r. r.now)) rows c.loop-row.row-index c.loop-row-test.false) (c.loop-row.invariant id)
