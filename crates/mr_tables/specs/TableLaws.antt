-- Laws of boards and tables, as statements.
use Rattle.mr_model.specs.Replica.{Replica, IsReplica, order_of}
use Rattle.mr_model.specs.Tables.{tables_of}
use Rattle.mr_replay.specs.Holds.{Holds}
use Rattle.mr_tables.specs.Boards.{board_of, AreWithin}

-- the rows of a replica's tables are within the limits of boards
abbrev pub RowsAreWithin : Type 0
RowsAreWithin = (a : Replica) → IsReplica a → AreWithin (tables_of a)

-- the board that they tell is the one that holds the replica's writes in the order of their execution, room by room
abbrev pub RowsTellTheBoard : Type 0
RowsTellTheBoard = (a : Replica) → IsReplica a → Holds (order_of a) (board_of (tables_of a))
