use Rattle.std.proofs.Common.{◌≡◌, ◌⊎◌, Result, Ok, Err, ap, sym, ◌∙◌, subst, inl, inr}
use Rattle.mr_base.specs.declared.refusals.Refusal.{Refusal}
use Rattle.mr_base.specs.declared.refusals.Refusal.TheVariants.{OutOfMemory}
use Rattle.mr_model.specs.Positions.{Position, position_of}
use Rattle.mr_model.specs.Replies.{PositionIs}
use Rattle.mr_part.specs.Answering.{reply_with}
use Rattle.mr_tables.specs.Summary.{IsWithin}
use Rattle.mr_part.specs.Parts.{PartView}
use Rattle.mr_part.proofs.part.Part.position.Goals as goal

-- a position is the reply of this one
replied : (r : Result Position Refusal) (p : Position) → (r ≡ Ok p) ⊎ (r ≡ Err OutOfMemory) → (reply_with PositionIs r ≡ PositionIs p) ⊎ (r ≡ Err OutOfMemory)
replied r p (inl e) = inl (ap (reply_with PositionIs) e)
replied r p (inr e) = inr e

pub returns-clause-step : goal.returns-clause-step
returns-clause-step c = λ a sound part.
    replied c.position.result (position_of a) (c.position.ensures.own a sound (ap (λ (v : PartView). v.summary) (c.self.view_is ∙ part)))

pub returns-clause-own : goal.returns-clause-own
returns-clause-own c = λ limits. c.position.ensures.store (subst (λ (v : PartView). IsWithin v.summary) (sym c.self.view_is) limits)
