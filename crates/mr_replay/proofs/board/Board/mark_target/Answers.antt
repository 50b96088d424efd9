use Rattle.std.proofs.Common.{sym, subst}
use Rattle.mr_replay.specs.Rows.{Rows}
use Rattle.mr_replay.specs.Index.{IsIndexed}
use Rattle.mr_replay.proofs.Indexed.{IsIndexed-marked}
use Rattle.mr_replay.proofs.board.Board.mark_target.Goals as goal

pub invariant_of-self : goal.invariant_of-self
invariant_of-self c = subst (λ (r : Rows). IsIndexed r c.self.inside.index) (sym c.mark_row.ensures) (IsIndexed-marked _ _ c.self.inside.rows.entries c.self.inside.index c.self.invariant)
