-- The position of a replica whose numbers are within the limits is within them.
use Rattle.std.proofs.Common.{◌≡◌, refl, ℕ, zero, suc, ◌+◌, ◌≤◌, Bool, true, false, cond, ◌&&◌, eqb, leb, List, [], ◌∷◌, get_or, arith, IsTrue, lit≤, le-leb, le_refl}
use Rattle.std.proofs.lemmas.Bool.{and_from, eqb-false}
use Rattle.std.proofs.lemmas.List.Elements.{recursion_from_All}
use Rattle.std.specs.List.{AllByRecursion, list_all}
use Rattle.mr_model.specs.Texts.{numbers_on}
use Rattle.mr_model.specs.Writes.{is_server, is_count, greatest_count}
use Rattle.mr_model.specs.Exchange.{Second}
use Rattle.mr_model.specs.Positions.{Count, Position, are_rising, is_position}
use Rattle.mr_model.proofs.PositionsReadBack.{rising_on}
use Rattle.mr_model.proofs.StepsKeep.{within_from}
use Rattle.mr_tables.specs.declared.summary.Summary.{Summary}
use Rattle.mr_tables.specs.declared.summary.Tally.{Tally}
use Rattle.mr_tables.specs.Summary.{IsWithin, no_tally, tally_at, counts_in}

-- the position of a replica that has these numbers, with these counts, of the second version
abbrev pub position_with : Summary → List Count → Position
position_with s counts = record { version = Second; server = s.server; primary = s.primary; commits = s.commits; counts = counts }

-- the tallies have few writes
abbrev AreFew : List Tally → Type 0
AreFew ts = AllByRecursion (λ (t : Tally). t.count ≤ 999_999_999) ts

few_at : (ts : List Tally) (s : ℕ) → AreFew ts → (get_or ts s no_tally).count ≤ greatest_count
few_at [] s few = lit≤ tt
few_at (t ∷ ts) zero few = few.0
few_at (t ∷ ts) (suc s) few = few_at ts s few.1

counts_within : (ts : List Tally) (k n : ℕ) → AreFew ts → 1 ≤ k → k + n ≤ 100 → list_all (λ c. is_server c.server && is_count c.count) (counts_in ts (numbers_on k n)) ≡ true
counts_within ts k zero few low top = refl
counts_within ts k (suc n) few low top = go (eqb (tally_at ts k).count 0) refl (counts_within ts (k + 1) n few (omega (arith, low)) (omega (arith, top)))
  where
    rest : List Count
    rest = counts_in ts (numbers_on (k + 1) n)

    own : Count
    own = record { server = k; count = (tally_at ts k).count }

    go : (b : Bool) → eqb (tally_at ts k).count 0 ≡ b → list_all (λ c. is_server c.server && is_count c.count) rest ≡ true
        → list_all (λ c. is_server c.server && is_count c.count) (cond b rest (own ∷ rest)) ≡ true
    go true e all = all
    go false e all =
        let some = eqb-false (tally_at ts k).count 0 e in
        and_from (is_server k && is_count (tally_at ts k).count) (list_all (λ c. is_server c.server && is_count c.count) rest)
        (and_from (is_server k) (is_count (tally_at ts k).count) (within_from 1 99 k low (omega (arith, top)))
        (within_from 1 greatest_count (tally_at ts k).count (omega (arith, some)) (few_at ts k few))) all

-- the servers of the counts come from k on
counts_from : (ts : List Tally) (k n : ℕ) → AllByRecursion (λ c. k ≤ c.server) (counts_in ts (numbers_on k n))
counts_from ts k zero = tt
counts_from ts k (suc n) = go (eqb (tally_at ts k).count 0) (weaken (counts_in ts (numbers_on (k + 1) n)) (counts_from ts (k + 1) n))
  where
    weaken : (cs : List Count) → AllByRecursion (λ c. k + 1 ≤ c.server) cs → AllByRecursion (λ c. k ≤ c.server) cs
    weaken [] all = tt
    weaken (c ∷ cs) all = let a : k + 1 ≤ c.server = all.0 in (omega (arith, a), weaken cs all.1)

    go : (b : Bool) → AllByRecursion (λ c. k ≤ c.server) (counts_in ts (numbers_on (k + 1) n))
        → AllByRecursion (λ c. k ≤ c.server) (cond b (counts_in ts (numbers_on (k + 1) n)) (record { server = k; count = (tally_at ts k).count } ∷ counts_in ts (numbers_on (k + 1) n)))
    go true all = all
    go false all = (le_refl k, all)

counts_rise : (ts : List Tally) (k n : ℕ) → are_rising (counts_in ts (numbers_on k n)) ≡ true
counts_rise ts k zero = refl
counts_rise ts k (suc n) = go (eqb (tally_at ts k).count 0) (counts_rise ts (k + 1) n)
  where
    go : (b : Bool) → are_rising (counts_in ts (numbers_on (k + 1) n)) ≡ true
        → are_rising (cond b (counts_in ts (numbers_on (k + 1) n)) (record { server = k; count = (tally_at ts k).count } ∷ counts_in ts (numbers_on (k + 1) n))) ≡ true
    go true rise = rise
    go false rise = rising_on (record { server = k; count = (tally_at ts k).count }) (counts_in ts (numbers_on (k + 1) n)) (counts_from ts (k + 1) n) rise

pub position_fits : (s : Summary) → IsTrue (is_server s.server) → IsTrue (is_server s.primary) → IsWithin s → is_position (position_with s (counts_in s.tallies (numbers_on 1 99))) ≡ true
position_fits s server primary within =
    let counts = list_all (λ c. is_server c.server && is_count c.count) (counts_in s.tallies (numbers_on 1 99)) in
    let servers = is_server s.server && is_server s.primary in
    and_from (servers && leb s.commits 999_999_999_999 && counts) (are_rising (counts_in s.tallies (numbers_on 1 99)))
    (and_from (servers && leb s.commits 999_999_999_999) counts
    (and_from servers (leb s.commits 999_999_999_999) (and_from (is_server s.server) (is_server s.primary) server primary) (le-leb s.commits 999_999_999_999 within.commits))
    (counts_within s.tallies 1 99 (recursion_from_All (λ (t : Tally). t.count ≤ 999_999_999) s.tallies within.counts) (lit≤ tt) (lit≤ tt)))
    (counts_rise s.tallies 1 99)
