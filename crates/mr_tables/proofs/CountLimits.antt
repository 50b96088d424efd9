-- Limits of positions, of commits and of lists.
use Rattle.std.proofs.Common.{◌≡◌, ℕ, zero, suc, ◌+◌, ◌≤◌, ◌&&◌, nat_le, true, [], ◌∷◌, ◌++◌, length, map, ap, sym, subst, ◌∙◌, arith}
use Rattle.std.specs.List.{list_all}
use Rattle.std.proofs.lemmas.Bool.{and_parts}
use Rattle.std.proofs.lemmas.Bool.Decides.{nat_tests}
use Rattle.std.proofs.lemmas.List.Elements.{All-from_recursion}
use Rattle.mr_model.specs.Texts.{numbers_on}
use Rattle.mr_model.specs.Writes.{is_server, is_count}
use Rattle.mr_model.specs.Positions.{Position, Count, position_of, is_position, are_rising}
use Rattle.mr_model.specs.Replica.{Replica, IsReplica}
use Rattle.mr_model.proofs.Members.{has_all, map_has}
use Rattle.mr_model.proofs.StepsKeep.{count_within}
use Rattle.mr_model.proofs.PositionsReadBack.{position_within}
use Rattle.mr_tables.specs.declared.summary.Tally.{Tally}
use Rattle.mr_tables.specs.Summary.{IsWithin, tally_of, summary_of}

-- a position has no more commits than there can be
pub few_asked : (p : Position) → is_position p ≡ true → p.commits ≤ 999_999_999_999
few_asked p h =
    let servers = is_server p.server && is_server p.primary in
    let few = nat_le p.commits 999_999_999_999 in
    let counts = list_all (λ (c : Count). is_server c.server && is_count c.count) p.counts in
    let all = and_parts (servers && few && counts) (are_rising p.counts) h in
    let front = and_parts (servers && few) counts all.0 in
    let e = (and_parts servers few front.0).1 in
    grind (arith, nat_tests)

pub few_commits : (a : Replica) → IsReplica a → length a.commits ≤ 999_999_999_999
few_commits a sound = few_asked (position_of a) (position_within a sound)

-- the numbers of a replica are within the limits
pub numbers_within : (a : Replica) → IsReplica a → IsWithin (summary_of a)
numbers_within a sound = record {
  commits = few_commits a sound;
  counts =
      All-from_recursion (λ (t : Tally). t.count ≤ 999_999_999) (map (tally_of a) (numbers_on 0 100))
      (has_all (λ (t : Tally). t.count ≤ 999_999_999) (map (tally_of a) (numbers_on 0 100))
      (λ t h. let (s, g, e) = map_has (tally_of a) t (numbers_on 0 100) h in subst (λ (x : Tally). x.count ≤ 999_999_999) (sym e) (count_within a s sound)));
}

-- one number more
pub numbers-more : (k n : ℕ) → numbers_on k (suc n) ≡ numbers_on k n ++ (k + n) ∷ []
numbers-more k zero = ap (λ m. m ∷ []) (let e : k ≡ k + 0 = omega arith in e)
numbers-more k (suc n) = ap (λ ms. k ∷ ms) (numbers-more (k + 1) n) ∙ ap (λ m. k ∷ (numbers_on (k + 1) n ++ m ∷ [])) (let e : k + 1 + n ≡ k + suc n = omega arith in e)
