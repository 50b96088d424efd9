-- What the laws of convergence say of two moments of a run.
use Rattle.mr_model.specs.World.{World}
use Rattle.mr_model.specs.Honest.{IsHonest}
use Rattle.mr_convergence.specs.Convergence.{Converges}
use Rattle.mr_convergence.proofs.Converging.{handed_kept, converge}
use Rattle.mr_convergence.proofs.Settling.{settles, settled_alike, settled_stay}
use Rattle.mr_convergence.proofs.Meeting.{made_with_primary}

pub moments_converge : (first last : World) → IsHonest first → Converges first last
moments_converge first last h =
    record {
      handed = λ steps replies s t way. (handed_kept {new = last} {ss = steps} {rs = replies} h way).1;
      alike = λ s t a b c each ea eb. converge first last s t a b h c each ea eb;
      settled = λ one two t r x e. settles first one two last h x t r e;
      settled_alike = λ one two s t a b x ea eb. settled_alike first one two last h x s t a b ea eb;
      stay = λ one two middle s a b x c ea eb. settled_stay first one two middle h x last s a b c ea eb;
      made = λ s t max_lines reply a b st ea eb own. made_with_primary first last s t max_lines reply a b h st ea eb own;
    }
