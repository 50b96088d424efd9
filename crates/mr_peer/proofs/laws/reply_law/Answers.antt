use Rattle.mr_peer.proofs.OneReply.{one_reply}
use Rattle.mr_peer.proofs.laws.reply_law.Goals as goal

pub returns : goal.returns
returns c = one_reply
