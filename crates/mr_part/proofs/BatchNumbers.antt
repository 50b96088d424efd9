-- The commit numbers of what a batch executes anew: the new commits have the next ones, and all behind them none.
use Rattle.std.proofs.Common.{◌≡◌, sym, ap, ◌∙◌, ℕ, suc, ◌+◌, ◌-◌, ◌<◌, ◌≤◌, List, ◌++◌, length, map, ◌⊎◌, inl, inr, Some, arith, append_assoc, length-append}
use Rattle.std.proofs.lemmas.List.{length-map}
use Rattle.std.specs.List.{slice_get}
use Rattle.mr_model.specs.Writes.{Write, id_of}
use Rattle.mr_model.specs.Replica.{Replica, IsReplica, committed, tentative, order_of}
use Rattle.mr_model.specs.Exchange.{Item}
use Rattle.mr_model.specs.Tables.{seq_of}
use Rattle.mr_model.specs.Dropped.{Has}
use Rattle.mr_model.specs.Moving.{BatchMoves}
use Rattle.mr_model.proofs.CommitRows.{slice_behind}
use Rattle.mr_model.proofs.Members.{slice_has}
use Rattle.mr_tables.specs.ExecutionRows.{seq_on}
use Rattle.mr_part.proofs.OrderNumbers.{le_or_lt, slice_left, no_number, committed_long, order_numbers}

module _ (a b : Replica) (items : List Item) (m : BatchMoves a b items) (sound : IsReplica a) where
  pub commits_long : length b.commits ≡ length a.commits + length m.news
  commits_long = ap length m.commits_are ∙ length-append a.commits (map id_of m.news) ∙ ap (λ n. length a.commits + n) (length-map m.news id_of)

  pub new_number : (i : ℕ) (w : Write) → i < length m.news → slice_get m.news i ≡ Some w → seq_of b w ≡ seq_on (length b.commits) (length a.commits + 1 + i)
  new_number i w low e =
      let n = length (committed a) in
      let long = committed_long a sound in
      let there : slice_get (order_of b) (n + i) ≡ Some w =
      ap (λ ws. slice_get (ws ++ tentative b) (n + i)) m.committed_are ∙ ap (λ ws. slice_get ws (n + i)) (append_assoc (committed a) m.news (tentative b))
      ∙ slice_behind (committed a) (m.news ++ tentative b) i ∙ slice_left m.news (tentative b) i low ∙ e in
      order_numbers b (n + i) w m.sound there ∙ (let at : 1 + (n + i) ≡ length a.commits + 1 + i = omega (arith, long) in ap (seq_on (length b.commits)) at)

  -- the new commits, and tentative writes behind them
  pub behind_numbered : (rest : List Write) → ((w : Write) → Has w rest → Has w (tentative b)) → (i : ℕ) (w : Write)
      → slice_get (m.news ++ rest) i ≡ Some w → seq_of b w ≡ seq_on (length b.commits) (length a.commits + 1 + i)
  behind_numbered rest open_ i w e = go (le_or_lt (suc i) (length m.news))
    where
      go : (suc i ≤ length m.news) ⊎ (length m.news < suc i) → seq_of b w ≡ seq_on (length b.commits) (length a.commits + 1 + i)
      go (inl low) = new_number i w low (sym (slice_left m.news rest i low) ∙ e)
      go (inr high) =
          let at : i ≡ length m.news + (i - length m.news) = omega (arith, high) in
          let there : slice_get rest (i - length m.news) ≡ Some w = sym (slice_behind m.news rest (i - length m.news)) ∙ ap (slice_get (m.news ++ rest)) (sym at) ∙ e in
          let long = commits_long in
          no_number b (length a.commits + 1 + i) w (open_ w (slice_has rest (i - length m.news) w there)) (omega (arith, long, high))
