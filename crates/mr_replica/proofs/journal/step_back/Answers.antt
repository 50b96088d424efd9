use Rattle.std.proofs.Common.{subst}
use Rattle.mr_replica.specs.Journal.{IsRowStep}
use Rattle.mr_replica.specs.RowKeys.{IsRowNoted}
use Rattle.mr_replica.proofs.Journals.{put_again, taken_back}
use Rattle.mr_replica.proofs.journal.step_back.Goals as goal

pub returns-in-Some-clause-rows : goal.returns-in-Some-clause-rows
returns-in-Some-clause-rows g c = λ before step.
    let id = g.R.IdRow.id in
    let noted = IsRowNoted g.R.KeyedRow.second_key c.args.table.now.keys in
    put_again id noted c.args.id c.in-Some.row before c.args.table.now.rows c.put.new.self.rows c.put.result
    (subst (λ old. IsRowStep id noted (c.args.id, old) before c.args.table.now.rows) c.in-Some.is step) c.put.ensures.put c.put.ensures.absent

pub returns-in-None-clause-rows : goal.returns-in-None-clause-rows
returns-in-None-clause-rows g c = λ before step.
    let id = g.R.IdRow.id in
    let noted = IsRowNoted g.R.KeyedRow.second_key c.args.table.now.keys in
    taken_back id noted c.args.id before c.args.table.now.rows c.take.new.self.rows
    (subst (λ old. IsRowStep id noted (c.args.id, old) before c.args.table.now.rows) c.in-None.is step) c.take.ensures.rows
