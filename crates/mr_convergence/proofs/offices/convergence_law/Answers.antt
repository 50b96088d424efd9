use Rattle.mr_convergence.proofs.Converging.{handed_kept, knows_all, stays, converge, reaches_trans}
use Rattle.mr_convergence.proofs.offices.convergence_law.Goals as goal

pub returns-clause-handed : goal.returns-clause-handed
returns-clause-handed c old new steps replies s t h way = (handed_kept h way).1

pub returns-clause-all : goal.returns-clause-all
returns-clause-all c = knows_all

pub returns-clause-alike : goal.returns-clause-alike
returns-clause-alike c = converge

pub returns-clause-exchanges : goal.returns-clause-exchanges
returns-clause-exchanges c old new s t a b h x way ea eb = converge old new s t a b h x (λ u v there a e. (handed_kept h (way u v (a, e) there)).1 a e) ea eb

pub returns-clause-hub : goal.returns-clause-hub
returns-clause-hub c old middle new hub to from s t there = reaches_trans old middle new s hub t (to s) (from t there)

pub returns-clause-stays : goal.returns-clause-stays
returns-clause-stays c = stays
