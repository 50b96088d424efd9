use Rattle.mr_replica.proofs.memory.Memory.make_log.Goals as goal

pub invariant_of-self : goal.invariant_of-self
invariant_of-self c = (c.self.invariant.0, c.shared_log.ensures)
