use Rattle.mr_replay.specs.Rows.{undone_all}
use Rattle.mr_replay.specs.Holds.{undo_rows_after}
use Rattle.mr_replay.specs.declared.rows.Standing.TheVariants.{Booked}
use Rattle.mr_replay.specs.declared.rows.Trace.TheVariants.{OfBooking}
use Rattle.mr_replay.proofs.Holding.{undone-executed, undo_reverse, cancel_marks, Holds-executed_all, Holds-undone_all, AreNew-distinct}
use Rattle.mr_replay.proofs.OneBoard.{one_board}
use Rattle.mr_replay.proofs.board_law.Goals as goal

pub returns-clause-one : goal.returns-clause-one
returns-clause-one c = one_board

pub returns-clause-executed : goal.returns-clause-executed
returns-clause-executed c = Holds-executed_all

pub returns-clause-undone : goal.returns-clause-undone
returns-clause-undone c = Holds-undone_all

pub returns-clause-replaced : goal.returns-clause-replaced
returns-clause-replaced c ws vs others b distinct again holds =
    Holds-executed_all ws others (undone_all b (undo_rows_after ws vs)) again (Holds-undone_all ws vs b distinct holds)

pub returns-clause-exact : goal.returns-clause-exact
returns-clause-exact c = undone-executed

pub returns-clause-reverse : goal.returns-clause-reverse
returns-clause-reverse c = undo_reverse

pub returns-clause-cancels : goal.returns-clause-cancels
returns-clause-cancels c b w target room title slot length new is done e =
    cancel_marks b w target (record { room = room; trace = OfBooking slot length title Booked }) new is done e

pub returns-clause-new : goal.returns-clause-new
returns-clause-new c = AreNew-distinct
