-- The numbers of a replica after one write more, and after one commit more.
use Rattle.std.proofs.Common.{◌≡◌, ◌≢◌, ℕ, zero, suc, ◌+◌, ◌<◌, ◌≤◌, ◌==◌, max, min, Bool, true, false, cond, [], ◌∷◌, ◌++◌, length, map, get_or, filter, ap, refl, sym, ◌∙◌, arith}
use Rattle.std.specs.Prelude.{slice_set}
use Rattle.std.proofs.lemmas.Bool.{eqb-true, eq-eqb}
use Rattle.std.proofs.lemmas.List.{length-append}
use Rattle.std.proofs.lemmas.List.Elements.{filter-append}
use Rattle.mr_model.specs.Texts.{numbers_on}
use Rattle.mr_model.specs.Writes.{Id, Write}
use Rattle.mr_model.specs.Replica.{Replica, IsReplica, count_of, last_time, committed_count, clock_of, commits_of, add_write, add_commit}
use Rattle.mr_model.specs.Changes.{IsNext}
use Rattle.mr_model.proofs.WithWrite.{count-with_write, greatest-with_write, clock-with_write}
use Rattle.mr_tables.proofs.CountLimits.{few_commits}
use Rattle.mr_tables.specs.declared.summary.Tally.{Tally}
use Rattle.mr_tables.specs.Summary.{no_tally, tally_at, tally_of, summary_of, noted_write, noted_commit}

-- of a list that is numbered from k on, the element of number k + i
get_numbered : (f : ℕ → Tally) (k n i : ℕ) → i < n → get_or (map f (numbers_on k n)) i no_tally ≡ f (k + i)
get_numbered f k zero i h = absurd (omega arith)
get_numbered f k (suc n) zero h = ap f (omega arith)
get_numbered f k (suc n) (suc i) h = get_numbered f (k + 1) n i (omega arith) ∙ ap f (omega arith)

-- one element changes
pub set_numbered : (f g : ℕ → Tally) (k n i : ℕ) (v : Tally) → v ≡ g (k + i) → ((j : ℕ) → j ≢ k + i → f j ≡ g j) → i < n → slice_set (map f (numbers_on k n)) i v ≡ map g (numbers_on k n)
set_numbered f g k zero i v e other h = absurd (omega arith)
set_numbered f g k (suc n) zero v e other h =
    let here : v ≡ g k = e ∙ ap g (omega arith) in
    λ t. here t ∷ rest (k + 1) n (λ j above. other j (omega arith)) t
  where
    rest : (from m : ℕ) → ((j : ℕ) → from ≤ j → f j ≡ g j) → map f (numbers_on from m) ≡ map g (numbers_on from m)
    rest from zero same = refl
    rest from (suc m) same = λ t. same from (omega arith) t ∷ rest (from + 1) m (λ j above. same j (omega arith)) t
set_numbered f g k (suc n) (suc i) v e other h =
    λ t. other k (omega arith) t ∷ set_numbered f g (k + 1) n i v (e ∙ ap g (omega arith)) (λ j apart. other j (omega arith)) (omega arith) t

-- the tally of a server
pub tally-of : (a : Replica) (s : ℕ) → s < 100 → tally_at (map (tally_of a) (numbers_on 0 100)) s ≡ tally_of a s
tally-of a s small = get_numbered (tally_of a) 0 100 s small ∙ ap (tally_of a) (omega arith)

of_server : (x s : ℕ) → (s ≢ x) → (x == s) ≡ false
of_server x s apart = go (x == s) refl
  where
    go : (b : Bool) → (x == s) ≡ b → (x == s) ≡ false
    go true e = absurd (apart (sym (eqb-true x s e)))
    go false e = e

-- ---- one write more

module _ (a : Replica) (w : Write) (small : w.stamp.server < 100) (next : IsNext a w) where
  written : tally_of (add_write a w) w.stamp.server ≡ record (tally_of a w.stamp.server) { count = w.stamp.n; last_time = w.stamp.time }
  written =
      let s = w.stamp.server in
      let own : (s == s) ≡ true = eq-eqb s s refl in
      let count : count_of (add_write a w) s ≡ w.stamp.n =
      count-with_write (λ v. v.stamp.server == s) w a.known ∙ ap (λ b. cond b (suc (count_of a s)) (count_of a s)) own ∙ (let n = next.number in omega arith) in
      let late = next.late in
      let time : last_time (add_write a w) s ≡ w.stamp.time =
      greatest-with_write (λ v. v.stamp.server == s) w a.known ∙ ap (λ b. cond b (max w.stamp.time (last_time a s)) (last_time a s)) own ∙ (omega arith) in
      λ t. record { count = count t; last_time = time t; committed = committed_count a s }

  unwritten : (s : ℕ) → s ≢ w.stamp.server → tally_of a s ≡ tally_of (add_write a w) s
  unwritten s apart =
      let other = of_server w.stamp.server s apart in
      let count : count_of (add_write a w) s ≡ count_of a s = count-with_write (λ v. v.stamp.server == s) w a.known ∙ ap (λ b. cond b (suc (count_of a s)) (count_of a s)) other in
      let time : last_time (add_write a w) s ≡ last_time a s = greatest-with_write (λ v. v.stamp.server == s) w a.known ∙ ap (λ b. cond b (max w.stamp.time (last_time a s)) (last_time a s)) other in
      λ t. record { count = sym count t; last_time = sym time t; committed = committed_count a s }

  pub summary-write : noted_write (summary_of a) w.stamp ≡ summary_of (add_write a w)
  summary-write =
      let s = w.stamp.server in
      let clock : max (clock_of a) w.stamp.time ≡ clock_of (add_write a w) = turned (clock_of a) w.stamp.time ∙ sym (clock-with_write w a.known) in
      let new : Tally → Tally = λ (x : Tally). record x { count = w.stamp.n; last_time = w.stamp.time } in
      let entry : new (tally_at (map (tally_of a) (numbers_on 0 100)) s) ≡ tally_of (add_write a w) (0 + s) =
      ap new (tally-of a s small) ∙ sym written ∙ ap (tally_of (add_write a w)) (omega arith) in
      let all = set_numbered (tally_of a) (tally_of (add_write a w)) 0 100 s (new (tally_at (map (tally_of a) (numbers_on 0 100)) s)) entry (λ j apart. unwritten j (omega arith)) small in
      λ t. record (summary_of a) { clock = clock t; tallies = all t }
    where
      turned : (x y : ℕ) → max x y ≡ max y x
      turned x y = omega arith

-- ---- one commit more

module _ (a : Replica) (id : Id) (small : id.server < 100) (next : id.n ≡ committed_count a id.server + 1) (sound : IsReplica (add_commit a id)) where
  count_ids : (s : ℕ) → committed_count (add_commit a id) s ≡ committed_count a s + cond (id.server == s) 1 0
  count_ids s =
      ap length (filter-append (λ i. i.server == s) a.commits (id ∷ [])) ∙ length-append (commits_of s a.commits) (filter (λ i. i.server == s) (id ∷ []))
      ∙ ap (λ n. committed_count a s + n) (one (id.server == s))
    where
      one : (b : Bool) → length (cond b (id ∷ []) []) ≡ cond b 1 0
      one true = refl
      one false = refl

  pub summary-commit : noted_commit (summary_of a) id ≡ summary_of (add_commit a id)
  summary-commit =
      let s = id.server in
      let more : length (a.commits ++ id ∷ []) ≡ length a.commits + 1 = length-append a.commits (id ∷ []) in
      let few = few_commits (add_commit a id) sound in
      let commits : min (length a.commits + 1) 18_446_744_073_709_551_615 ≡ length (a.commits ++ id ∷ []) = omega arith in
      let new : Tally → Tally = λ (x : Tally). record x { committed = id.n } in
      let counted : id.n ≡ committed_count (add_commit a id) s = next ∙ sym (count_ids s ∙ ap (λ b. committed_count a s + cond b 1 0) (eq-eqb s s refl)) in
      let entry : new (tally_at (map (tally_of a) (numbers_on 0 100)) s) ≡ tally_of (add_commit a id) (0 + s) =
      ap new (tally-of a s small) ∙ (λ t. record (tally_of a s) { committed = counted t }) ∙ ap (tally_of (add_commit a id)) (omega arith) in
      let all = set_numbered (tally_of a) (tally_of (add_commit a id)) 0 100 s (new (tally_at (map (tally_of a) (numbers_on 0 100)) s)) entry (λ j apart. same j (omega arith)) small in
      λ t. record (summary_of a) { commits = commits t; tallies = all t }
    where
      same : (j : ℕ) → j ≢ id.server → tally_of a j ≡ tally_of (add_commit a id) j
      same j apart =
          let none : committed_count (add_commit a id) j ≡ committed_count a j = count_ids j ∙ ap (λ b. committed_count a j + cond b 1 0) (of_server id.server j apart) ∙ omega arith in
          λ t. record (tally_of a j) { committed = sym none t }
