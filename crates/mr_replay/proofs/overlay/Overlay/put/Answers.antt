use Rattle.mr_replay.proofs.Hiding.{hides_more}
use Rattle.mr_replay.proofs.Overlaid.{same_set, can-after, seen-after}
use Rattle.mr_replay.proofs.overlay.Overlay.put.Goals as goal

pub invariant_of-self : goal.invariant_of-self
invariant_of-self c = same_set c.self.inside.base c.self.inside.own c.self.inside.hidden c.insert.new.self c.in_err-insert.ensures.err c.self.invariant

pub invariant_of-self-2 : goal.invariant_of-self-2
invariant_of-self-2 c =
    let o = c.self.inside in
    can-after c.put.result o.base o.own c.put.new.self o.hidden c.insert.new.self c.args.id c.args.row c.self.invariant
    (hides_more c.args.id o.hidden c.insert.new.self c.in_ok-insert.ensures.updates.0) c.put.ensures.ok c.put.ensures.err

pub returns-clause-ok : goal.returns-clause-ok
returns-clause-ok c =
    let o = c.self.inside in
    seen-after c.put.result o.base o.own c.put.new.self c.args.self.now o.hidden c.insert.new.self c.args.id c.args.row c.self.invariant
    (hides_more c.args.id o.hidden c.insert.new.self c.in_ok-insert.ensures.updates.0) c.self.view_is c.put.ensures.ok
