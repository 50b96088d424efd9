use Rattle.mr_part.proofs.KeptWrites.{filled_more}
use Rattle.mr_part.proofs.batch.kept_writes.kept_writes.Goals as goal

pub loop-row-preserved-in_ok-insert : goal.loop-row-preserved-in_ok-insert
loop-row-preserved-in_ok-insert c =
    filled_more c.args.rows.items c.loop-row.kept c.insert.new.self c.loop-row.left.items c.pop.new.self.items c.in-Some.row _ c.loop-row.invariant c.in-Some.ensures.items
    c.id.ensures c.in_ok-insert.ensures.updates

pub loop-row-preserved-in_ok-insert-2 : goal.loop-row-preserved-in_ok-insert-2
loop-row-preserved-in_ok-insert-2 c =
    filled_more c.args.rows.items c.loop-row.kept c.insert.new.self c.loop-row.left.items c.pop.new.self.items c.in-Some.row _ c.loop-row.invariant c.in-Some.ensures.items
    c.id.ensures c.in_ok-insert.ensures.updates

pub loop-row-preserved : goal.loop-row-preserved
loop-row-preserved c =
    filled_more c.args.rows.items c.loop-row.kept c.insert.new.self c.loop-row.left.items c.pop.new.self.items c.in-Some.row _ c.loop-row.invariant c.in-Some.ensures.items
    c.id.ensures c.in_ok-insert.ensures.updates
