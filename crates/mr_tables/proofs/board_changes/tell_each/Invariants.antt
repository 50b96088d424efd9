use Rattle.std.proofs.Common.{◌≡◌, map, drop}
use Rattle.mr_tables.specs.BoardChanges.{told_anew}
use Rattle.mr_tables.proofs.board_changes.tell_each.Given as goal

-- what is left to be told leads to the same board
abbrev pub invariant-loop-one : goal.invariant-loop-one
invariant-loop-one g l =
    told_anew (g.T.BoardTables.tables l.tables) (map g.N.NamesId.named (drop l.one-index l.named)) l.board
    ≡ told_anew (g.T.BoardTables.tables l.tables) (map g.N.NamesId.named l.named) l.fn.board
