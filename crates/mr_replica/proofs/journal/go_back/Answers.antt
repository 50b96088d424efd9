use Rattle.std.proofs.Common.{◌≡◌, length, reverse, sym, subst, arith}
use Rattle.mr_replica.specs.Journal.{AreSteps}
use Rattle.mr_replica.specs.RowKeys.{IsRowNoted}
use Rattle.mr_replica.proofs.Journals.{last_step, steps_more, steps_none}
use Rattle.mr_replica.proofs.journal.go_back.Goals as goal

pub loop-id-preserved : goal.loop-id-preserved
loop-id-preserved g c = λ before h.
    let id = g.R.IdRow.id in
    let key = g.R.KeyedRow.second_key in
    let noted = IsRowNoted key c.loop-id.table.keys in
    let next = IsRowNoted key c.step_back.new.table.keys in
    let rows = c.loop-id.table.rows in
    let left = c.pop.new.self.items in
    let (mid, one, older) = last_step id noted left _ before rows (subst (λ items. AreSteps id noted (reverse items) before rows) c.in-Some.ensures.items (c.loop-id.invariant before h)) in
    subst (AreSteps id next (reverse left) before) (sym (c.step_back.ensures.rows mid one))
    (steps_more id noted next (λ r n. c.step_back.ensures.keys (key r) n) (reverse left) before mid older)

pub returns : goal.returns
returns g c = λ before h.
    let none : length c.loop-id.left.items ≡ 0 = omega (arith, c.in_default.ensures.cases.0) in
    steps_none g.R.IdRow.id (IsRowNoted g.R.KeyedRow.second_key c.loop-id.table.keys) c.loop-id.left.items before c.loop-id.table.rows none (c.loop-id.invariant before h)
