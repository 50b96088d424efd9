use Rattle.std.proofs.Common.{[]}
use Rattle.mr_web_tests.proofs.uses.board.board_of.Goals as goal

pub returns : goal.returns
returns c = λ distinct. c.in_ok-redo_from.ensures.holds [] distinct c.new-board.ensures.holds
