use Rattle.std.proofs.Common.{◌≡◌, refl, ap, List, [], ◌∷◌, length, rules, arith}
use Rattle.std.proofs.lemmas.Fn.{filter_same}
use Rattle.mr_model.specs.Writes.{Id}
use Rattle.mr_tables.specs.Change.{rows_without}
use Rattle.mr_tables.proofs.table_row.take_away.Goals as goal

-- without any keys all rows stay
without_none : {R : Type 0} (key : R → Id) (gone : List Id) (rows : List R) → length gone ≡ 0 → rows ≡ rows_without key gone rows
without_none key [] [] none = refl
without_none key [] (row ∷ rows) none = ap (λ others. row ∷ others) (without_none key [] rows none)
without_none key (id ∷ ids) rows none = absurd (omega (arith, none))

pub returns-then-is_empty-clause-items : goal.returns-then-is_empty-clause-items
returns-then-is_empty-clause-items g c =
    let none : length c.args.gone.now ≡ 0 = grind arith in
    without_none g.R.IdRow.id c.args.gone.now c.args.rows.now.items none

pub returns-clause-items : goal.returns-clause-items
returns-clause-items g c = filter_same _ _ _ (λ x b f' k. search rules) _ _ c.retain.ensures.filtered
