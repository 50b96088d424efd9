-- The rows that a commit changes.
use Rattle.std.proofs.Common.{◌≡◌, refl, ap, ◌∙◌, ℕ, zero, suc, ◌+◌, Bool, true, false, cond, eqb, List, [], ◌∷◌, ◌++◌, length, map, Some, arith, length-append}
use Rattle.std.proofs.lemmas.List.{length-map}
use Rattle.std.proofs.lemmas.List.Elements.{filter-append}
use Rattle.std.specs.List.{slice_get}
use Rattle.mr_model.specs.Writes.{Id, Write, id_of}
use Rattle.mr_model.specs.Replica.{Replica, writes_of, clock_of, commits_of, committed_count, IsReplica}
use Rattle.mr_model.specs.View.{of_room}
use Rattle.mr_model.specs.Changes.{first_tentative, after_commit, CommitChanges}
use Rattle.mr_model.proofs.Members.{among_not}
use Rattle.mr_model.proofs.KnownById.{committed_known, distinct_commits}
use Rattle.mr_model.proofs.RowsById.{seq_not, seq_at}
use Rattle.mr_model.proofs.Orders.{among-append, committed-commit, order-commit, place-commit}
use Rattle.mr_model.proofs.TwinChanges.{seq_front}
use Rattle.mr_model.proofs.Cancellers.{canceller-same}
use Rattle.mr_model.proofs.UniqueReplay.{some_inj, none_some}

-- ---- a commit

-- the element of a mapped list is that of the list, mapped
pub slice_map : {A B : Type 0} (f : A → B) (xs : List A) (i : ℕ) (x : A) → slice_get xs i ≡ Some x → slice_get (map f xs) i ≡ Some (f x)
slice_map f [] i x e = absurd (none_some x e)
slice_map f (y ∷ ys) zero x e = ap (λ z. Some (f z)) (some_inj y x e)
slice_map f (y ∷ ys) (suc i) x e = slice_map f ys i x e

-- and one behind the front of two lists is one of the second
pub slice_behind : {A : Type 0} (xs ys : List A) (i : ℕ) → slice_get (xs ++ ys) (length xs + i) ≡ slice_get ys i
slice_behind [] ys i = let e : 0 + i ≡ i = omega arith in ap (slice_get ys) e
slice_behind (x ∷ xs) ys i = let e : suc (length xs) + i ≡ suc (length xs + i) = omega arith in ap (slice_get (x ∷ (xs ++ ys))) e ∙ slice_behind xs ys i

ids_of_server : (s : ℕ) (ws : List Write) → length (commits_of s (map id_of ws)) ≡ length (writes_of s ws)
ids_of_server s [] = refl
ids_of_server s (w ∷ ws) = go (eqb w.stamp.server s) (ids_of_server s ws)
  where
    go : (b : Bool) → length (commits_of s (map id_of ws)) ≡ length (writes_of s ws)
        → length (cond b (id_of w ∷ commits_of s (map id_of ws)) (commits_of s (map id_of ws))) ≡ length (cond b (w ∷ writes_of s ws) (writes_of s ws))
    go true e = ap suc e
    go false e = e

-- a commit of the first tentative writes moves none, and gives them marks and numbers
pub commit_changes : (r : Replica) (k : ℕ) → IsReplica r → IsReplica (after_commit r k) → CommitChanges r k
commit_changes r k h g =
    record {
      order = order-commit r k h;
      commit_order = committed-commit r k h;
      places = λ v a. place-commit r k v h g a;
      cancellers = λ v a. canceller-same (after_commit r k) r v g h a a (ap (of_room v.room) (order-commit r k h));
      marks = λ v. among-append (id_of v) r.commits ids;
      old_numbers = λ v a. seq_front 1 r.commits ids (id_of v) (committed_known r v h a).1;
      new_numbers = λ i v e. seq_at 1 (r.commits ++ ids) (id_of v) (length r.commits + i) (distinct_commits (after_commit r k) g)
          (slice_behind r.commits ids i ∙ slice_map id_of (first_tentative r k) i v e) ∙ omega arith;
      other_numbers = λ v e. seq_not 1 (r.commits ++ ids) (id_of v) (among_not (id_of v) (r.commits ++ ids) e);
      meta = (let l = long in λ i. record { server = r.server; primary = r.primary; commits = l i; dropped = r.dropped; clock = clock_of r });
      room = refl;
      committed_counts = λ s. ap length (filter-append (λ (id : Id). eqb id.server s) r.commits ids)
          ∙ length-append (commits_of s r.commits) (commits_of s ids) ∙ ap (λ m. committed_count r s + m) (ids_of_server s (first_tentative r k));
    }
  where
    ids : List Id
    ids = map id_of (first_tentative r k)

    long : length (r.commits ++ map id_of (first_tentative r k)) ≡ length r.commits + length (first_tentative r k)
    long = length-append r.commits ids ∙ ap (λ m. length r.commits + m) (length-map (first_tentative r k) id_of)
