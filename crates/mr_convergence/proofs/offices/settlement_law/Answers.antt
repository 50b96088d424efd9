use Rattle.mr_convergence.proofs.Settling.{settles, settled_alike, settled_stay}
use Rattle.mr_convergence.proofs.offices.settlement_law.Goals as goal

pub returns-clause-settled : goal.returns-clause-settled
returns-clause-settled c old one two new t r h x e = settles old one two new h x t r e

pub returns-clause-alike : goal.returns-clause-alike
returns-clause-alike c old one two new s t a b h x ea eb = settled_alike old one two new h x s t a b ea eb

pub returns-clause-stay : goal.returns-clause-stay
returns-clause-stay c old one two new later s a b h x run ea eb = settled_stay old one two new h x later s a b run ea eb
