use Rattle.std.proofs.Common.{rules}
use Rattle.std.proofs.lemmas.List.Sorted.{answers_always}
use Rattle.mr_tables.proofs.Rising.{rise_from}
use Rattle.mr_audit.specs.Turns.{comes_before}
use Rattle.mr_audit.proofs.turns.is_chain.Goals as goal

pub returns : goal.returns
returns g c =
    let note = g.R.NoteRow.note in
    rise_from comes_before note c.args.rows.now c.is_sorted_by.result (c.is_sorted_by.ensures.cases (λ x y. comes_before (note x) (note y)) (answers_always _ _ _ (λ f a r f' k. search rules)))
