use Rattle.std.proofs.Common.{◌≡◌, subst, sym, rules}
use Rattle.std.specs.Prelude.{IfSome}
use Rattle.mr_tables.specs.Boards.{board_of}
use Rattle.mr_replica.specs.SharedLog.{IsSharedLog}
use Rattle.mr_replica.specs.Writes.{WrittenRows}
use Rattle.mr_replica.proofs.ScopeRows.{carried}
use Rattle.mr_replica.proofs.memory.Memory.apply.Goals as goal

pub invariant_of-self-4 : goal.invariant_of-self-4
invariant_of-self-4 c = (
  c.board_after.ensures c.args.self.now
      (carried _ c.take-board.result c.self.inside.board c.take-board.ensures.value (subst (λ t. IfSome c.self.inside.board (λ b. b.value ≡ board_of t)) c.self.view_is c.self.invariant.0))
      (search rules) c.have_one_row_each.ensures,
  subst (λ (rows : WrittenRows). IfSome c.log_after-log.result (λ log. IsSharedLog rows.log log.value.items)) (sym c.in_ok-apply.ensures.changed)
      (c.log_after-log.ensures (carried _ c.take-log.result c.self.inside.log c.take-log.ensures.value c.self.invariant.1)),
)
