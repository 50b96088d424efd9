use Rattle.std.proofs.Common.{subst}
use Rattle.mr_tables.specs.BoardChanges.{HaveOneRowEach}
use Rattle.mr_replica.proofs.memory.Memory.have_one_row_each.Goals as goal

pub returns : goal.returns
returns c =
    subst HaveOneRowEach c.self.view_is (record {
      booking = c.is_by_id.ensures;
      errorlog = c.is_by_id-2.ensures;
      cancelled = c.is_by_id-3.ensures;
      cancels = c.is_by_id-4.ensures;
    })
