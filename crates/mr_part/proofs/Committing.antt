-- A commit of the first tentative writes: the order stays, only numbers change.
use Rattle.std.proofs.Common.{◌≡◌, ℕ, zero, suc, ◌+◌, ◌-◌, ◌<◌, ◌≤◌, ◌==◌, not, true, cond, List, [], ◌∷◌, length, map}
use Rattle.std.proofs.Common.{take, drop, get_or, ap, refl, sym, ◌∙◌, subst, append_assoc, append-nil, inl, arith}
use Rattle.std.proofs.lemmas.Bool.{eq-eqb}
use Rattle.std.proofs.lemmas.List.{drop-map}
use Rattle.mr_model.specs.Texts.{numbers_on, only_if}
use Rattle.mr_model.specs.Writes.{Write, id_of}
use Rattle.mr_model.specs.Refusals.{NotPrimary}
use Rattle.mr_model.specs.Replies.{CommittedIs}
use Rattle.mr_model.specs.Replica.{Replica, IsReplica, writes_of, tentative, committed_count, add_commit}
use Rattle.mr_model.specs.Dropped.{Has}
use Rattle.mr_model.specs.Changes.{after_commit}
use Rattle.mr_model.specs.Step.{commit, step_unless}
use Rattle.mr_model.proofs.KnownById.{numbered_writes, tentative_known}
use Rattle.mr_model.proofs.RowsById.{server_bounds, known_write}
use Rattle.mr_model.proofs.CommitsKeep.{tentative_of, drop-numbers_on, keeps-commit}
use Rattle.mr_model.proofs.Orders.{with_commits, tentative-commit}
use Rattle.mr_tables.specs.Summary.{summary_of, noted_commits}
use Rattle.mr_tables.proofs.Summaries.{summary-commit}

-- the step, where nothing refuses it
pub commit_done : (a : Replica) (k : ℕ) → (a.server == a.primary) ≡ true → commit a k ≡ record { reply = CommittedIs (length (take k (tentative a))); replica = after_commit a k }
commit_done a k own = λ i. step_unless a (only_if (not (own i)) NotPrimary) (record { reply = CommittedIs (length (take k (tentative a))); replica = after_commit a k })

first_number : (n k m : ℕ) (ns : List ℕ) → n ∷ ns ≡ numbers_on k m → n ≡ k
first_number n k zero ns e = absurd (let l : suc (length ns) ≡ 0 = ap length e in omega arith)
first_number n k (suc m) ns e = ap (λ xs. get_or xs 0 k) e

-- the first tentative write is the next of its server to be committed
first_is_next : (a : Replica) (w : Write) (ws : List Write) → IsReplica a → tentative a ≡ w ∷ ws → w.stamp.n ≡ committed_count a w.stamp.server + 1
first_is_next a w ws sound e =
    let s = w.stamp.server in
    let c = committed_count a s in
    let own : writes_of s (w ∷ ws) ≡ w ∷ writes_of s ws = ap (λ b. cond b (w ∷ writes_of s ws) (writes_of s ws)) (eq-eqb s s refl) in
    let numbers =
    ap (map (λ (v : Write). v.stamp.n)) (sym own ∙ ap (writes_of s) (sym e) ∙ tentative_of a s sound) ∙ sym (drop-map (λ (v : Write). v.stamp.n) c (writes_of s a.known))
    ∙ ap (drop c) (numbered_writes a s sound) ∙ drop-numbers_on c 1 (length (writes_of s a.known)) in
    first_number w.stamp.n (1 + c) (length (writes_of s a.known) - c) (map (λ (v : Write). v.stamp.n) (writes_of s ws)) numbers ∙ (let n : 1 + c ≡ c + 1 = omega arith in n)

first_server : (a : Replica) (w : Write) (ws : List Write) → IsReplica a → tentative a ≡ w ∷ ws → w.stamp.server < 100
first_server a w ws sound e =
    let known = (tentative_known a w (subst (Has w) (sym e) (inl refl))).0 in
    let bounds = server_bounds w (known_write a w sound known) in
    let top : w.stamp.server ≤ 99 = bounds.1 in
    omega arith

-- the numbers after the commits
pub summary-commits : (k : ℕ) (a : Replica) → IsReplica a → noted_commits (summary_of a) (map id_of (take k (tentative a))) ≡ summary_of (with_commits a (map id_of (take k (tentative a))))
summary-commits zero a sound = ap (λ ids. summary_of (record a { commits = ids })) (sym (append-nil a.commits))
summary-commits (suc k) a sound = go (tentative a) refl (summary-commits k)
  where
    go : (ts : List Write) → tentative a ≡ ts
        → ((b : Replica) → IsReplica b → noted_commits (summary_of b) (map id_of (take k (tentative b))) ≡ summary_of (with_commits b (map id_of (take k (tentative b)))))
        → noted_commits (summary_of a) (map id_of (take (suc k) (tentative a))) ≡ summary_of (with_commits a (map id_of (take (suc k) (tentative a))))
    go [] e rest = ap (λ ts. noted_commits (summary_of a) (map id_of (take (suc k) ts))) e
        ∙ ap (λ ids. summary_of (record a { commits = ids })) (sym (append-nil a.commits)) ∙ ap (λ ts. summary_of (with_commits a (map id_of (take (suc k) ts)))) (sym e)
    go (w ∷ ws) e rest =
        let b = add_commit a (id_of w) in
        let one : with_commits a (map id_of (take 1 (tentative a))) ≡ b = ap (λ ts. with_commits a (map id_of (take 1 ts))) e in
        let sound' : IsReplica b = subst IsReplica one (keeps-commit a 1 sound) in
        let left : tentative b ≡ ws = sym (ap tentative one) ∙ tentative-commit a 1 sound ∙ ap (drop 1) e in
        let next = summary-commit a (id_of w) (first_server a w ws sound e) (first_is_next a w ws sound e) sound' in
        ap (λ ts. noted_commits (summary_of a) (map id_of (take (suc k) ts))) e
        ∙ ap (λ s. noted_commits s (map id_of (take k ws))) next
        ∙ ap (λ ts. noted_commits (summary_of b) (map id_of (take k ts))) (sym left)
        ∙ rest b sound'
        ∙ ap (λ ts. summary_of (with_commits b (map id_of (take k ts)))) left
        ∙ ap (λ ids. summary_of (record a { commits = ids })) (append_assoc a.commits (id_of w ∷ []) (map id_of (take k ws)))
        ∙ ap (λ ts. summary_of (with_commits a (map id_of (take (suc k) ts)))) (sym e)
