use Rattle.std.proofs.Common.{sym, subst, Err}
use Rattle.std.specs.Prelude.{ok_or}
use Rattle.mr_model.specs.Positions.{Position, read_position}
use Rattle.mr_http.specs.declared.faults.WebFault.{WebFault}
use Rattle.mr_http.specs.declared.faults.WebFault.TheVariants.{BadReply}
use Rattle.mr_peer.specs.PeerTaking.{Says}
use Rattle.mr_peer.proofs.ReplyLemmas.{position_unread}
use Rattle.mr_peer.proofs.positions.position_in.Goals as goal

pub returns-in-Err : goal.returns-in-Err
returns-in-Err c =
    let read = read_position c.args.body.now in
    subst (λ (f : WebFault). Says {X = Position} (ok_or read BadReply) (Err f)) (sym c.unread.ensures)
    (position_unread read c.in-Err.refusal c.in-Err.ensures.exact)
