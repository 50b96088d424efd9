use Rattle.mr_web_tests.proofs.uses.board.tried.Goals as goal

pub returns-clause-same : goal.returns-clause-same
returns-clause-same c = λ new.
    rw (c.undo.ensures.board, c.in_ok-row.ensures.row, c.in_ok-row.ensures.board) (c.board_law.ensures.exact c.args.board.now c.args.write.now new)
