-- What a truncation answers.
use Rattle.std.proofs.Common.{◌≡◌, ℕ, ◌≤◌, ◌==◌, nat_lt, max, false, [], ◌∷◌, length, ◌∙◌, arith}
use Rattle.mr_model.specs.Refusals.{PrimaryKeepsAll, BeyondCommitted, first_refusal}
use Rattle.mr_model.specs.Replies.{DroppedIs}
use Rattle.mr_model.specs.Replica.{Replica}
use Rattle.mr_model.specs.Step.{truncate, step_unless}

-- the step, where nothing refuses it
pub truncate_done : (a : Replica) (n : ℕ) → (a.server == a.primary) ≡ false → nat_lt (length a.commits) n ≡ false
    → truncate a n ≡ record { reply = DroppedIs (max a.dropped n); replica = record a { dropped = max a.dropped n } }
truncate_done a n own within = λ i. step_unless a (first_refusal ((own i, PrimaryKeepsAll) ∷ (within i, BeyondCommitted) ∷ []))
    (record { reply = DroppedIs (max a.dropped n); replica = record a { dropped = max a.dropped n } })

-- where so many commits are dropped already, nothing changes
pub truncate_none : (a : Replica) (n : ℕ) → (a.server == a.primary) ≡ false → nat_lt (length a.commits) n ≡ false → n ≤ a.dropped → truncate a n ≡ record { reply = DroppedIs a.dropped; replica = a }
truncate_none a n own within low =
    let same : max a.dropped n ≡ a.dropped = omega arith in
    truncate_done a n own within ∙ (λ i. record { reply = DroppedIs (same i); replica = record a { dropped = same i } })
