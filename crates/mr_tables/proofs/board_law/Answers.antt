use Rattle.mr_tables.proofs.BoardLimits.{rows_within}
use Rattle.mr_tables.proofs.BoardsTold.{board_told}
use Rattle.mr_tables.proofs.board_law.Goals as goal

pub returns-clause-within : goal.returns-clause-within
returns-clause-within c = rows_within

pub returns-clause-told : goal.returns-clause-told
returns-clause-told c = board_told
