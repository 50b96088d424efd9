-- Replies are read in one way only.
use Rattle.std.specs.Prelude.{◌≡◌, Option}
use Rattle.mr_model.specs.Texts.{Text}
use Rattle.mr_peer.specs.PeerReplies.{PeerReply, IsReplied}

-- an input is one reply, or none
abbrev pub HasOneReply : Type 0
HasOneReply = (input : Text) (one other : Option PeerReply) → IsReplied input one → IsReplied input other → one ≡ other
