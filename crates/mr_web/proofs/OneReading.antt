-- A request is read in one way only.
use Rattle.std.proofs.Common.{◌∙◌, Some, None, refl, sym, ap}
use Rattle.httparse.proofs.GrammarLemmas.{request_unique}
use Rattle.mr_model.specs.Http.{asked as asked_of}
use Rattle.mr_web.specs.RequestAsks.{head_of, readings}
use Rattle.mr_web.specs.RequestLaw.{HasOneHead, AsksOneThing}

pub one_head : HasOneHead
one_head input None None a b = refl
one_head input None (Some k) a b = absurd (a b.0 b.1 b.2)
one_head input (Some h) None a b = absurd (b a.0 a.1 a.2)
one_head input (Some h) (Some k) a b =
    let same = request_unique input a.0 b.0 a.1 b.1 a.2.reads b.2.reads in
    ap Some (a.3 ∙ ap (λ x. head_of x a.1) same.0 ∙ ap (head_of b.0) same.1 ∙ sym b.3)

pub one_thing : AsksOneThing
one_thing input one other a b = a.2 ∙ ap (λ h. asked_of (readings h) input) (one_head input a.0 b.0 a.1 b.1) ∙ sym b.2
