use Rattle.std.proofs.Common.{◌≡◌, sym, subst, IfOk}
use Rattle.std.specs.String.{string_bytes}
use Rattle.mr_net.specs.Printed.{way_line}
use Rattle.mr_net.proofs.printing.way_text.Goals as goal

pub returns-in-Pull : goal.returns-in-Pull
returns-in-Pull c = subst (λ way. IfOk c.pulled_text.result (λ text. string_bytes text ≡ way_line way c.args.taken)) (sym c.in-Pull.is) c.pulled_text.ensures

pub returns-in-Push : goal.returns-in-Push
returns-in-Push c = subst (λ way. IfOk c.pushed_text.result (λ text. string_bytes text ≡ way_line way c.args.taken)) (sym c.in-Push.is) c.pushed_text.ensures
