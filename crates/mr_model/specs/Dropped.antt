-- Replicas that differ in dropped writes alone, in what no table keeps of these.
use Rattle.std.specs.Prelude.{◌≡◌, ℕ, true, false, List, [], ◌∷◌, length, drop, ◌⊎◌}
use Rattle.mr_model.specs.Writes.{Id, Write, id_of}
use Rattle.mr_model.specs.Replica.{Replica, count_of, clock_of, last_time, committed_count, is_dropped, write_with, tentative}
use Rattle.mr_model.specs.Tables.{place_row}

-- the element is in the list
abbrev pub Has : {A : Type 0} → A → List A → Type 0
Has x [] = ⊥
Has x (y ∷ ys) = (x ≡ y) ⊎ Has x ys

-- no table keeps of a dropped booking its alternatives and, if it was not logged, its time, its wish and its commit number; of a
-- dropped cancel the tables keep all
pub record DifferInDropped (a b : Replica) : Type 0 where
  pub server : a.server ≡ b.server
  pub primary : a.primary ≡ b.primary
  pub commits : length a.commits ≡ length b.commits
  pub dropped : a.dropped ≡ b.dropped
  pub rooms : a.rooms ≡ b.rooms
  pub clock : clock_of a ≡ clock_of b
  pub counts : (server : ℕ) → count_of a server ≡ count_of b server
  pub last_times : (server : ℕ) → last_time a server ≡ last_time b server
  pub committed_counts : (server : ℕ) → committed_count a server ≡ committed_count b server
  -- the same commits are kept, in the same order; the same ids are dropped; what is not dropped is the same
  pub kept_commits : drop a.dropped a.commits ≡ drop b.dropped b.commits
  pub dropped_ids : (id : Id) → is_dropped a id ≡ is_dropped b id
  pub kept_writes : (id : Id) → is_dropped a id ≡ false → write_with a id ≡ write_with b id
  pub tentative : tentative a ≡ tentative b
  -- dropped writes with one id have one row
  pub rows : (x y : Write) → Has x a.known → Has y b.known → id_of x ≡ id_of y → is_dropped a (id_of x) ≡ true → place_row a x ≡ place_row b y
