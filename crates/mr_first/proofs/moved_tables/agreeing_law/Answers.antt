use Rattle.std.proofs.Common.{sym, subst}
use Rattle.mr_model.specs.Changes.{AreInKeyOrder}
use Rattle.mr_model.proofs.KeyOrder.{tables_in_order}
use Rattle.mr_model.proofs.MovingUp.{moves_up}
use Rattle.mr_agree.proofs.TablesAgree.{standing_tables_agree}
use Rattle.mr_first.proofs.moved_tables.agreeing_law.Goals as goal

pub returns : goal.returns
returns c = record { agree = λ t r stands. let up = moves_up t r stands in (standing_tables_agree _ r up, subst AreInKeyOrder (sym up.are) (tables_in_order r up.sound)) }
