use Rattle.std.proofs.Common.{◌≡◌, ◌∷◌, [], sym, ap, ◌∙◌, rules}
use Rattle.std.specs.Option.{option_copied, option_to_list}
use Rattle.mr_replica.proofs.RowsById.{picked_one}
use Rattle.mr_replica.proofs.indexed.Indexed.with_id.Goals as goal
use Rattle.mr_replica.proofs.indexed.Indexed.with_id.Goals.{in-Some+in_ok-copied+in_ok-push, in_default}

pub returns-clause-those : goal.returns-clause-those
returns-clause-those g c =
    elim c.match-get.branch [
      | in-Some+in_ok-copied+in_ok-push w ↦
          let made : c.match-get.rows.items ≡ w.in-Some.row.now ∷ [] = search rules in
          made ∙ ap option_to_list w.in-Some.ensures.row ∙ sym (picked_one g.R.IdRow.id c.args.id c.args.self.now.rows c.get.ensures.order)
      | in_default w ↦
          let made : c.match-get.rows.items ≡ [] = search rules in
          made ∙ ap option_to_list (sym (ap option_copied w.in_default.is) ∙ c.get.ensures.row) ∙ sym (picked_one g.R.IdRow.id c.args.id c.args.self.now.rows c.get.ensures.order)
    ]
