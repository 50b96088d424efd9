use Rattle.mr_replay.proofs.Holding.{undone-executed}
use Rattle.mr_replay.proofs.board.Board.execute_next.Goals as goal

pub returns-in-Err-clause-board_err : goal.returns-in-Err-clause-board_err
returns-in-Err-clause-board_err c = λ new.
    rw (c.undo.ensures.board, c.in-Err.ensures.value_returned, c.in_ok-row.ensures.row, c.in_ok-row.ensures.board) (undone-executed c.args.self.now c.args.write.now new)
