use Rattle.std.proofs.Common.{map, inl}
use Rattle.mr_base.specs.Batches.{item_of, ending_seen}
use Rattle.mr_wire.proofs.LoopLaws.{ends_there, line_behind}
use Rattle.mr_wire.proofs.batches.end_body.Goals as goal

pub returns-in-None : goal.returns-in-None
returns-in-None c = ends_there (map item_of c.args.items.items) (ending_seen c.args.ending) c.args.number c.args.behind.now c.in-None.ensures.value

pub returns-in-Some : goal.returns-in-Some
returns-in-Some c = inl (line_behind (map item_of c.args.items.items) (ending_seen c.args.ending) c.args.number c.args.behind.now _ c.in-Some.ensures.value)
