use Rattle.mr_peer.proofs.BatchLengths.{batch_short, given_short, sent_short, told_short}
use Rattle.mr_peer.proofs.laws.batch_size_law.Goals as goal

pub returns-clause-lines : goal.returns-clause-lines
returns-clause-lines c = batch_short

pub returns-clause-given : goal.returns-clause-given
returns-clause-given c = λ a position b sound is. let short = given_short a position b sound is in (short, λ host named. sent_short host b named short, told_short b short)
