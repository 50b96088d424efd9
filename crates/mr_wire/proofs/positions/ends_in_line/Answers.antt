use Rattle.std.proofs.Common.{lit<}
use Rattle.mr_wire.proofs.positions.ends_in_line.Goals as goal

pub returns : goal.returns
returns c = c.ends_with.ensures.byte (lit< tt) (lit< tt) (λ w o h. h)
