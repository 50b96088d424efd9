use Rattle.std.proofs.Common.{sym, ap, ◌∙◌}
use Rattle.mr_peer.specs.Took.{read_took}
use Rattle.mr_peer.proofs.TookTexts.{took_is, no_text}
use Rattle.mr_peer.proofs.took.took_in.Goals as goal

pub returns-in_default : goal.returns-in_default
returns-in_default c = sym (no_text c.args.bytes.now c.in_default.ensures.cases.0)

pub returns : goal.returns
returns c = c.took_on.ensures ∙ took_is c.in-Ok.text.now ∙ ap read_took c.in-Ok.ensures.cases.0
