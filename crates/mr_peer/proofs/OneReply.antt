-- A reply is read in one way only.
use Rattle.std.proofs.Common.{◌∙◌, inl, inr, sym, ap}
use Rattle.httparse.proofs.GrammarLemmas.{response_unique}
use Rattle.mr_peer.specs.PeerReplies.{reply_behind}
use Rattle.mr_peer.specs.ReplyLaw.{HasOneReply}

pub one_reply : HasOneReply
one_reply input one other (inl a) (inl b) = a.1 ∙ sym b.1
one_reply input one other (inl a) (inr b) = absurd (a.0 b.0 b.1 b.2)
one_reply input one other (inr a) (inl b) = absurd (b.0 a.0 a.1 a.2)
one_reply input one other (inr a) (inr b) =
    let same = response_unique input a.0 b.0 a.1 b.1 a.2.reads b.2.reads in
    a.3 ∙ ap (λ h. reply_behind h a.1) same.0 ∙ ap (reply_behind b.0) same.1 ∙ sym b.3
