use Rattle.std.proofs.Common.{◌≡◌, true, subst}
use Rattle.mr_model.specs.Writes.{Write, same_write}
use Rattle.mr_model.proofs.WriteTest.{same_write-true, same_write_refl}
use Rattle.mr_base.proofs.writes.Write.is_same.Goals as goal

pub returns-clause-meaning : goal.returns-clause-meaning
returns-clause-meaning c =
    rw c.have_same_parts.ensures (same_write-true _ _, λ e. subst (λ (x : Write). same_write c.args.self.now x ≡ true) e (same_write_refl c.args.self.now))
