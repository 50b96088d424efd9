use Rattle.std.proofs.Common.{◌≡◌, subst, List, ℕ}
use Rattle.std.specs.Prelude.{IfOk}
use Rattle.std.specs.String.{string_bytes}
use Rattle.mr_peer.proofs.RequestTexts.{bare_is}
use Rattle.mr_peer.proofs.requests.bare_text.Goals as goal

pub returns : goal.returns
returns c = subst (λ (t : List ℕ). IfOk c.bare_pieces.result (λ text. string_bytes text ≡ t)) (bare_is c.args.line.now c.args.host.now) c.bare_pieces.ensures
