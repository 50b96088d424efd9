use Rattle.mr_net.proofs.exchanging.exchange.Goals as goal

pub returns-in-Err-Bad-clause-asked : goal.returns-in-Err-Bad-clause-asked
returns-in-Err-Bad-clause-asked g c = λ host port peer. absurd (c.in-Err-Bad.ensures c.in-Err-Bad.field-0-is host port peer.0)
