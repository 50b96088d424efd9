-- The rounds of a way of an exchange.
use Rattle.std.specs.Prelude.{◌≡◌, ◌⊎◌, ℕ, ◌+◌, ◌<◌, Bool, true, false, ◌&&◌, ◌||◌, nat_lt, List, [], ◌∷◌, ◌++◌, length, min, All, Result, Ok, Err}
use Rattle.std.specs.List.{sum_by}
use Rattle.mr_base.specs.declared.batches.Ending.{Ending}
use Rattle.mr_base.specs.declared.batches.Ending.TheVariants.{Complete, More, Cut}
use Rattle.mr_http.specs.declared.faults.WebFault.{WebFault}
use Rattle.mr_net.specs.declared.ways.Round.{Round}
use Rattle.mr_net.specs.declared.ways.Taken.{Taken}

-- the batch had more lines than a round takes
abbrev pub is_more : Ending → Bool
is_more Complete = false
is_more More = true
is_more Cut = false

-- another round may bring more
abbrev pub asks_for_more : Round → Bool
asks_for_more round = is_more round.ending && (nat_lt 0 round.writes || nat_lt 0 round.commits)

-- the greatest number of rounds
abbrev pub greatest_rounds : ℕ
greatest_rounds = 10_000

-- a sum, of which a number of 64 bits tells no more than its greatest
abbrev pub capped : ℕ → ℕ
capped n = min n 18_446_744_073_709_551_615

abbrev pub joined : Taken → Round → Taken
joined taken round = record { writes = capped (taken.writes + round.writes); commits = capped (taken.commits + round.commits) }

-- what the rounds brought together
abbrev pub total : List Round → Taken
total rounds = record { writes = capped (sum_by (λ r. r.writes) rounds); commits = capped (sum_by (λ r. r.commits) rounds) }

-- the rounds are those of a whole way: up to the first that asks for no more, or the greatest number
abbrev pub AreAll : List Round → Type 0
AreAll rounds =
    ((length rounds ≡ greatest_rounds) × All (λ r. asks_for_more r ≡ true) rounds)
    ⊎ ((before : List Round) × (last : Round) × (rounds ≡ before ++ last ∷ []) × (length before < greatest_rounds)
    × All (λ r. asks_for_more r ≡ true) before × (asks_for_more last ≡ false))

-- the rounds follow on one another, from the one peer to the other
abbrev pub Leads : {P : Type 0} → (P → Result Round WebFault → P → Type 0) → P → List Round → P → Type 0
Leads runs p [] q = p ≡ q
Leads {P} runs p (r ∷ rs) q = (m : P) × runs p (Ok r) m × Leads runs m rs q

-- the rounds so far ask for more, and another may be run
abbrev pub GoesOn : List Round → Type 0
GoesOn rounds = (length rounds < greatest_rounds) × All (λ r. asks_for_more r ≡ true) rounds

-- a whole way brought this; or a round failed behind others that asked for more
abbrev pub IsWay : {P : Type 0} → (P → Result Round WebFault → P → Type 0) → P → Result Taken WebFault → P → Type 0
IsWay runs p (Ok taken) q = (rounds : List Round) × Leads runs p rounds q × AreAll rounds × (taken ≡ total rounds)
IsWay {P} runs p (Err fault) q = (rounds : List Round) × (m : P) × Leads runs p rounds m × GoesOn rounds × runs m (Err fault) q
