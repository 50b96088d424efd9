use Rattle.mr_first.proofs.PairLemmas.{replicas_paired}
use Rattle.mr_first.proofs.pairs.pairing_law.Goals as goal

pub returns : goal.returns
returns c = record { paired = replicas_paired }
