use Rattle.std.proofs.Common.{ℕ, List, sym, subst}
use Rattle.mr_http.specs.Faults.{web_fault}
use Rattle.mr_http.specs.Inputs.{OfInput}
use Rattle.mr_http.proofs.ReadPieces.{once_read}
use Rattle.mr_peer.specs.ReplyRead.{ReadsOneReply}
use Rattle.mr_peer.proofs.ReadBytes.{lost_read}
use Rattle.mr_peer.specs.PeerReplies.{IsReplied, told_took}
use Rattle.mr_peer.specs.Seen.{reply_seen}
use Rattle.mr_peer.specs.PeerTaking.{IsReplyFault}
use Rattle.mr_peer.proofs.FaultLemmas.{handed_on, read_faults, says_faults, took_faults}
use Rattle.mr_peer.proofs.ReplyLemmas.{says_told}
use Rattle.mr_peer.proofs.pushes.take_took.Goals as goal

pub returns-clause-tells : goal.returns-clause-tells
returns-clause-tells g c =
    let known = g.R.Read.remaining c.args.reader.now in
    let replied = c.in_ok-replied.replied in
    let P : List ℕ → Type 0 = λ bytes. OfInput known (λ input. IsReplied input (reply_seen bytes replied)) in
    says_told told_took known (reply_seen c.as_slice.result.now replied) c.took_of.result
    (subst P (sym c.as_slice.ensures.value) c.in_ok-replied.ensures.replied) c.took_of.ensures

pub returns-in_err-replied-clause-fault : goal.returns-in_err-replied-clause-fault
returns-in_err-replied-clause-fault g c =
    let e = c.in_err-replied.field-0.0 in
    handed_on IsReplyFault (web_fault e) c.from_residual.result (read_faults e) c.from_residual.ensures.1

pub returns-clause-fault : goal.returns-clause-fault
returns-clause-fault g c =
    let reply = reply_seen c.as_slice.result.now c.in_ok-replied.replied in
    says_faults (told_took reply) c.took_of.result (took_faults reply) c.took_of.ensures

pub returns-in_err-replied-clause-reads : goal.returns-in_err-replied-clause-reads
returns-in_err-replied-clause-reads g c =
    lost_read _ (ReadsOneReply (g.R.Read.remaining c.args.reader.now) (g.R.Read.remaining c.read_reply.new.reader)) c.in_err-replied.field-0.0
    c.from_residual.result c.from_residual.ensures.1

pub returns-clause-reads : goal.returns-clause-reads
returns-clause-reads g c =
    once_read (ReadsOneReply (g.R.Read.remaining c.args.reader.now) (g.R.Read.remaining c.read_reply.new.reader)) c.took_of.result
    c.in_ok-replied.ensures.reads
