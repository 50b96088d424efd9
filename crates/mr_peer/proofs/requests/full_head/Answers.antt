use Rattle.std.proofs.Common.{◌≡◌, subst, List, ℕ}
use Rattle.std.specs.Prelude.{IfOk}
use Rattle.std.specs.String.{string_bytes}
use Rattle.mr_peer.proofs.RequestTexts.{full_is}
use Rattle.mr_peer.proofs.requests.full_head.Goals as goal

pub returns : goal.returns
returns c =
    subst (λ (t : List ℕ). IfOk c.full_pieces.result (λ text. string_bytes text ≡ t)) (full_is c.args.line.now c.args.host.now c.args.size) c.full_pieces.ensures
