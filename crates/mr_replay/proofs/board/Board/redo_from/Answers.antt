use Rattle.std.proofs.Common.{◌≡◌, subst, arith}
use Rattle.std.proofs.lemmas.Grind.{common_steps}
use Rattle.mr_replay.specs.Rows.{executed_all}
use Rattle.mr_replay.proofs.Holding.{Holds-executed_all}
use Rattle.mr_replay.proofs.Redoing.{IsRedone, IsRedone-more, drop_first}
use Rattle.mr_replay.proofs.board.Board.redo_from.Goals as goal

pub loop-write-preserved : goal.loop-write-preserved
loop-write-preserved c =
    let before = subst (λ left. IsRedone c.args.self.now c.args.writes.now left c.loop-write.self c.loop-write.rows.items)
    (drop_first c.args.writes.now c.loop-write.write-index c.write-item.result c.loop-write-test.true c.write-item.is) c.loop-write.invariant in
    rw (c.in-Ok.ensures.rows, c.in-Ok.ensures.board) (IsRedone-more _ _ _ _ _ _ before)

pub returns-clause-holds : goal.returns-clause-holds
returns-clause-holds c = λ ws distinct holds.
    let done : c.loop-write.self ≡ executed_all c.args.self.now c.args.writes.now = grind (arith, common_steps) in
    rw done (Holds-executed_all ws c.args.writes.now c.args.self.now distinct holds)
