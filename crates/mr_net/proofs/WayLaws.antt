-- How the rounds of a way add up.
use Rattle.std.proofs.Common.{◌≡◌, refl, sym, ap, subst, ◌∙◌, ℕ, ◌+◌, ◌<◌, true, false, List, [], ◌∷◌, ◌++◌, length, Ok, Err, inr, arith}
use Rattle.std.specs.Prelude.{All, Result}
use Rattle.std.specs.List.{sum_by}
use Rattle.std.proofs.lemmas.List.{length_push}
use Rattle.std.proofs.lemmas.List.Elements.{All-push}
use Rattle.std.proofs.lemmas.List.Sums.{sum_by_push}
use Rattle.mr_http.specs.declared.faults.WebFault.{WebFault}
use Rattle.mr_net.specs.declared.ways.Round.{Round}
use Rattle.mr_net.specs.declared.ways.Taken.{Taken}
use Rattle.mr_net.specs.Ways.{asks_for_more, capped, joined, total, greatest_rounds, Leads, IsWay}

-- one more round follows on those before it
leads_on : {P : Type 0} (runs : P → Result Round WebFault → P → Type 0) (p m q : P) (rounds : List Round) (r : Round)
    → Leads runs p rounds m → runs m (Ok r) q → Leads runs p (rounds ++ r ∷ []) q
leads_on runs p m q [] r same step = (q, subst (λ x. runs x (Ok r) q) (sym same) step, refl)
leads_on runs p m q (first ∷ rounds) r led step = (led.0, led.1, leads_on runs led.0 m q rounds r led.2 step)

capped_sum : (a b : ℕ) → capped (a + b) ≡ capped (capped a + b)
capped_sum a b = omega arith

-- what one more round adds
total_more : (rounds : List Round) (r : Round) → total (rounds ++ r ∷ []) ≡ joined (total rounds) r
total_more rounds r =
    let writes : capped (sum_by (λ (x : Round). x.writes) (rounds ++ r ∷ [])) ≡ capped (capped (sum_by (λ (x : Round). x.writes) rounds) + r.writes) =
    ap capped (sum_by_push (λ (x : Round). x.writes) rounds r) ∙ capped_sum _ _ in
    let commits : capped (sum_by (λ (x : Round). x.commits) (rounds ++ r ∷ [])) ≡ capped (capped (sum_by (λ (x : Round). x.commits) rounds) + r.commits) =
    ap capped (sum_by_push (λ (x : Round). x.commits) rounds r) ∙ capped_sum _ _ in
    λ i. record { writes = writes i; commits = commits i }

-- this many rounds were run, each of which asked for more, and brought this
pub record SoFar {P : Type 0} (runs : P → Result Round WebFault → P → Type 0) (p : P) (count : ℕ) (taken : Taken) (q : P) : Type 0 where
  pub rounds : List Round
  pub led : Leads runs p rounds q
  pub counted : length rounds ≡ count
  pub asked : All (λ r. asks_for_more r ≡ true) rounds
  pub brought : taken ≡ total rounds

-- a round that asks for more
pub one_more : {P : Type 0} (runs : P → Result Round WebFault → P → Type 0) (p m q : P) (count : ℕ) (taken : Taken) (r : Round)
    → SoFar runs p count taken m → runs m (Ok r) q → asks_for_more r ≡ true → SoFar runs p (count + 1) (joined taken r) q
one_more runs p m q count taken r before step more = record {
  rounds = before.rounds ++ r ∷ [];
  led = leads_on runs p m q before.rounds r before.led step;
  counted = length_push before.rounds r ∙ ap (λ n. n + 1) before.counted;
  asked = All-push (λ x. asks_for_more x ≡ true) before.rounds r before.asked more;
  brought = ap (λ t. joined t r) before.brought ∙ sym (total_more before.rounds r);
}

-- a round that asks for no more is the last
pub last_round : {P : Type 0} (runs : P → Result Round WebFault → P → Type 0) (p m q : P) (count : ℕ) (taken : Taken) (r : Round)
    → SoFar runs p count taken m → count < greatest_rounds → runs m (Ok r) q → asks_for_more r ≡ false → IsWay runs p (Ok (joined taken r)) q
last_round runs p m q count taken r before room step enough = (
  before.rounds ++ r ∷ [],
  leads_on runs p m q before.rounds r before.led step,
  inr (before.rounds, r, refl, subst (λ n. n < greatest_rounds) (sym before.counted) room, before.asked, enough),
  ap (λ t. joined t r) before.brought ∙ sym (total_more before.rounds r),
)

-- ---- ways of one peer, seen as another

leads_seen : {P Q : Type 0} (see : P → Q) (runs : P → Result Round WebFault → P → Type 0) (shows : Q → Result Round WebFault → Q → Type 0)
    → ((p : P) (r : Result Round WebFault) (q : P) → runs p r q → shows (see p) r (see q))
    → (p q : P) (rounds : List Round) → Leads runs p rounds q → Leads shows (see p) rounds (see q)
leads_seen see runs shows so p q [] same = ap see same
leads_seen see runs shows so p q (r ∷ rounds) led = (see led.0, so p (Ok r) led.0 led.1, leads_seen see runs shows so led.0 q rounds led.2)

pub way_seen : {P Q : Type 0} (see : P → Q) (runs : P → Result Round WebFault → P → Type 0) (shows : Q → Result Round WebFault → Q → Type 0)
    → ((p : P) (r : Result Round WebFault) (q : P) → runs p r q → shows (see p) r (see q))
    → (p q : P) (result : Result Taken WebFault) → IsWay runs p result q → IsWay shows (see p) result (see q)
way_seen see runs shows so p q (Ok taken) way = (way.0, leads_seen see runs shows so p q way.0 way.1, way.2, way.3)
way_seen see runs shows so p q (Err fault) way = (way.0, see way.1, leads_seen see runs shows so p way.1 way.0 way.2, way.3, so way.1 (Err fault) q way.4)
