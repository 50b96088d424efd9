use Rattle.std.proofs.Common.{[]}
use Rattle.mr_model.proofs.RoomsApart.{rooms_apart, board_apart}
use Rattle.mr_model.proofs.PlacesOfOrder.{order-places}
use Rattle.mr_model.proofs.rooms.board_law.Goals as goal

pub returns-clause-apart : goal.returns-clause-apart
returns-clause-apart c room ws = rooms_apart room [] ws

pub returns-clause-booked : goal.returns-clause-booked
returns-clause-booked c room ws = board_apart room [] ws

pub returns-clause-boards : goal.returns-clause-boards
returns-clause-boards c room board ws = (rooms_apart room board ws, board_apart room board ws)

pub returns-clause-places : goal.returns-clause-places
returns-clause-places c = order-places
