use Rattle.std.proofs.Common.{sym, subst}
use Rattle.mr_model.specs.Tables.{Stands}
use Rattle.mr_replica.proofs.Taken.{never_unmade}
use Rattle.mr_replica.proofs.desk.Desk.part.Goals as goal

pub returns-clause-part : goal.returns-clause-part
returns-clause-part c = λ a h. c.part_for.ensures.loaded a (subst (λ t. Stands t a) (sym c.self.view_is) h)

pub returns-clause-only : goal.returns-clause-only
returns-clause-only c = λ a h. c.part_for.ensures.only a (subst (λ t. Stands t a) (sym c.self.view_is) h)

pub returns-clause-own : goal.returns-clause-own
returns-clause-own c = λ a h. never_unmade c.part_for.result (c.part_for.ensures.only a (subst (λ t. Stands t a) (sym c.self.view_is) h))
