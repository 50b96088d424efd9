-- A refusal for a length or a number of alternatives is the same, whatever is to be made.
use Rattle.std.proofs.Common.{◌≡◌, ℕ, Bool, true, false, List, ◌∷◌, length, Ok, Err}
use Rattle.std.specs.Prelude.{if◌then◌else◌, not, nat_lt}
use Rattle.mr_model.specs.Slots.{Slot}
use Rattle.mr_model.specs.Writes.{greatest_alternatives}
use Rattle.mr_model.specs.Requests.{is_length_for}
use Rattle.mr_base.specs.Limits.{limited}
use Rattle.mr_base.specs.declared.refusals.Refusal.{Refusal}
use Rattle.mr_base.specs.declared.refusals.Refusal.TheVariants.{BadLength, TooManyAlternatives}

pub same_refusal : {T U : Type 0} (minutes : ℕ) (wish : Slot) (others : List Slot) (x : T) (y : U) (e : Refusal) → limited minutes wish others x ≡ Err e → limited minutes wish others y ≡ Err e
same_refusal {T} {U} minutes wish others x y e h = by_cases (not (is_length_for minutes (wish ∷ others))) (nat_lt greatest_alternatives (length others)) h
  where
    by_cases : (p q : Bool) → (if p then Err BadLength else (if q then Err TooManyAlternatives else Ok x)) ≡ Err e
        → (if p then Err BadLength else (if q then Err TooManyAlternatives else Ok y)) ≡ Err e
    by_cases true q f = cc
    by_cases false true f = cc
    by_cases false false f = cc
