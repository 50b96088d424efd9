-- Taking all items of a batch.
use Rattle.std.proofs.Common.{◌≡◌, ℕ, zero, suc, ◌+◌, ◌-◌, ◌<◌, ◌≤◌, ◌==◌, cond, not, Some, Bool, true, false, List, [], ◌∷◌}
use Rattle.std.proofs.Common.{◌++◌, length, drop, get_or, Result, Ok, Err, ap, refl, sym, ◌∙◌, subst, arith, IsTrue}
use Rattle.std.specs.List.{list_all, filter_map, slice_get}
use Rattle.std.specs.Result.{is_ok}
use Rattle.std.proofs.lemmas.Bool.{true≢false, and_parts, and_from}
use Rattle.std.proofs.lemmas.Bool.Decides.{nat_tests}
use Rattle.std.proofs.lemmas.List.{length-append}
use Rattle.mr_model.specs.Texts.{only_if}
use Rattle.mr_model.specs.Writes.{Id, Write, is_write, stamp_before}
use Rattle.mr_model.specs.Refusals as model
use Rattle.mr_model.specs.Exchange.{Version, Second, Item, W, C, Header, Batch, is_header, is_in_version, is_item, is_batch, is_batch_of}
use Rattle.mr_model.specs.Replica.{Replica, IsReplica, write_with, with_write, tentative}
use Rattle.mr_model.specs.Kept.{dropped_in_order, kept_in_order, kept_committed}
use Rattle.mr_model.specs.Taking.{Progress, take_item, take_items, take_write, take_commit, is_that_id, with_new_write, with_new_commit}
use Rattle.mr_model.specs.Step.{after_items, step_unless, receive_under, receive_batch}
use Rattle.mr_model.proofs.TakingKeeps.{IsItem, KeepsReplica, versions_item, item_keeps}
use Rattle.mr_model.proofs.TwinChanges.{dropped-add_write}
use Rattle.mr_model.proofs.Fronts.{take-front}
use Rattle.mr_model.proofs.BatchesReadBack.{ok_inj}
use Rattle.mr_model.proofs.Orders.{commit_moved}
use Rattle.mr_base.specs.declared.refusals.Refusal.{Refusal}
use Rattle.mr_base.specs.RefusalViews.{refusal_of}
use Rattle.mr_tables.specs.Summary.{summary_of}
use Rattle.mr_part.specs.Candidate.{write_verdict, commit_verdict}
use Rattle.mr_part.specs.Answering.{nothing_taken}
use Rattle.mr_part.proofs.Judging.{JudgedWrite, judged_write, JudgedCommit, judged_commit}
use Rattle.mr_part.proofs.Learning.{kept-learned, kept-moved}

-- ---- what items bring

-- the same is dropped; the new writes are those that are kept more, the new commits those that there are more
pub record Brings (p q : Progress) : Type 0 where
  pub dropped : dropped_in_order q.replica ≡ dropped_in_order p.replica
  pub writes : q.writes + length (kept_in_order p.replica) ≡ p.writes + length (kept_in_order q.replica)
  pub commits : q.commits + length p.replica.commits ≡ p.commits + length q.replica.commits
  pub primary : q.replica.primary ≡ p.replica.primary

brings-none : (p : Progress) → Brings p p
brings-none p = record { dropped = refl; writes = refl; commits = refl; primary = refl }

brings-more : (p q r : Progress) → Brings p q → Brings q r → Brings p r
brings-more p q r f g =
    let a = f.writes in
    let b = g.writes in
    let c = f.commits in
    let d = g.commits in
    record { dropped = g.dropped ∙ f.dropped; writes = omega arith; commits = omega arith; primary = g.primary ∙ f.primary }

length-with_write : (w : Write) (ws : List Write) → length (with_write w ws) ≡ suc (length ws)
length-with_write w [] = refl
length-with_write w (v ∷ vs) = go (stamp_before w v) (length-with_write w vs)
  where
    go : (b : Bool) → length (with_write w vs) ≡ suc (length vs) → length (cond b (w ∷ v ∷ vs) (v ∷ with_write w vs)) ≡ suc (suc (length vs))
    go true e = refl
    go false e = ap (λ n. suc n) e

pub err≢ok : (x : model.Refusal) (q : Progress) → ◌≡◌ {A = Result Progress model.Refusal} (Err x) (Ok q) → ⊥
err≢ok x q e = true≢false (ap is_ok (sym e))

-- what a write brings
write-brings : (line : ℕ) (p q : Progress) (w : Write) → IsReplica p.replica → IsTrue (is_write w) → take_write line p w ≡ Ok q → Brings p q
write-brings line p q w sound good e = go (write_verdict line (summary_of p.replica) (kept_in_order p.replica) w) (judged_write line p w sound good)
  where
    go : (v : Result Bool Refusal) → JudgedWrite line p w v → Brings p q
    go (Ok true) j =
        let same : with_new_write p w ≡ q = ok_inj (with_new_write p w) q (sym j.0 ∙ e) in
        let r = p.replica in
        let before = length-append (kept_committed r) (tentative r) in
        let after = ap length (kept-learned r w sound j.1) ∙ length-append (kept_committed r) (with_write w (tentative r)) in
        let one = length-with_write w (tentative r) in
        subst (Brings p) same (record { dropped = dropped-add_write r w sound j.1; writes = omega arith; commits = refl; primary = refl })
    go (Ok false) j = subst (Brings p) (ok_inj p q (sym j ∙ e)) (brings-none p)
    go (Err x) j = absurd (err≢ok (refusal_of x) q (sym j ∙ e))

-- what a commit brings
commit-brings : (line : ℕ) (p q : Progress) (n : ℕ) (id : Id) → IsReplica p.replica → id.server < 100 → take_commit line p n id ≡ Ok q → Brings p q
commit-brings line p q n id sound small e = go (commit_verdict line (summary_of p.replica) (is_that_id (slice_get p.replica.commits (n - 1)) id) n id)
    (judged_commit line p n id (is_that_id (slice_get p.replica.commits (n - 1)) id) sound small (λ low high. refl))
  where
    go : (v : Result Bool Refusal) → JudgedCommit line p n id v → Brings p q
    go (Ok true) j =
        let same : with_new_commit p id ≡ q = ok_inj (with_new_commit p id) q (sym j.0 ∙ e) in
        let r = p.replica in
        let m = commit_moved r id sound j.1 j.2 in
        let before = length-append (kept_committed r) (tentative r) in
        let was = ap length m.was ∙ length-append m.before (m.moved ∷ m.behind) in
        let after = ap length (kept-moved r id sound m) ∙ length-append (kept_committed r) (m.moved ∷ (m.before ++ m.behind)) in
        let rest = length-append m.before m.behind in
        let more = length-append r.commits (id ∷ []) in
        subst (Brings p) same (record {
          dropped = ap (filter_map (write_with r)) (take-front r.dropped r.commits (id ∷ []) sound.dropped_committed);
          writes = omega arith;
          commits = omega arith;
          primary = refl;
        })
    go (Ok false) j = subst (Brings p) (ok_inj p q (sym j ∙ e)) (brings-none p)
    go (Err x) j = absurd (err≢ok (refusal_of x) q (sym j ∙ e))

item-brings : (line : ℕ) (p q : Progress) (x : Item) → IsReplica p.replica → IsTrue (is_item Second x) → take_item line p x ≡ Ok q → Brings p q
item-brings line p q (W w) sound good e = write-brings line p q w sound (versions_item Second (W w) good) e
item-brings line p q (C n id) sound good e = commit-brings line p q n id sound (let g = good in grind (arith, nat_tests)) e

pub item-within : (x : Item) → IsTrue (is_item Second x) → IsItem x
item-within x h = versions_item Second x h

-- what items bring one after the other
pub items-bring : (items : List Item) (line : ℕ) (p q : Progress) → IsReplica p.replica → list_all (is_item Second) items ≡ true → take_items items line (Ok p) ≡ Ok q → Brings p q
items-bring [] line p q sound good e = subst (Brings p) (ok_inj p q e) (brings-none p)
items-bring (x ∷ xs) line p q sound good e = go (take_item line p x) refl e (λ m. items-bring xs (line + 1) m q)
  where
    parts : (is_item Second x ≡ true) × (list_all (is_item Second) xs ≡ true)
    parts = and_parts (is_item Second x) (list_all (is_item Second) xs) good

    go : (o : Result Progress model.Refusal) → take_item line p x ≡ o → take_items xs (line + 1) o ≡ Ok q
        → ((m : Progress) → IsReplica m.replica → list_all (is_item Second) xs ≡ true → take_items xs (line + 1) (Ok m) ≡ Ok q → Brings m q) → Brings p q
    go (Ok m) t f rest = brings-more p m q (item-brings line p m x sound parts.0 t) (rest m (subst KeepsReplica t (item_keeps line p x sound (item-within x parts.0))) parts.1 f)
    go (Err r) t f rest = absurd (err≢ok r q f)

pub drop_at : (xs : List Item) (k : ℕ) (x : Item) → k < length xs → x ≡ get_or xs k x → drop k xs ≡ x ∷ drop (suc k) xs
drop_at [] k x h e = absurd (omega arith)
drop_at (y ∷ ys) zero x h e = ap (λ z. z ∷ ys) (sym e)
drop_at (y ∷ ys) (suc k) x h e = drop_at ys k x (omega arith) e

pub all_at : (xs : List Item) (k : ℕ) (x : Item) → k < length xs → x ≡ get_or xs k x → list_all (is_item Second) xs ≡ true → is_item Second x ≡ true
all_at [] k x h e all = absurd (omega arith)
all_at (y ∷ ys) zero x h e all = ap (is_item Second) e ∙ (and_parts (is_item Second y) (list_all (is_item Second) ys) all).0
all_at (y ∷ ys) (suc k) x h e all = all_at ys k x (omega arith) e (and_parts (is_item Second y) (list_all (is_item Second) ys) all).1

pub drop_none : (xs : List Item) (n : ℕ) → length xs ≤ n → drop n xs ≡ []
drop_none [] zero g = refl
drop_none [] (suc n) g = refl
drop_none (y ∷ ys) zero g = absurd (omega arith)
drop_none (y ∷ ys) (suc n) g = drop_none ys n (omega arith)

-- an item of one version is one of the second, which has all
in_second : (v : Version) (x : Item) → is_item v x ≡ true → is_item Second x ≡ true
in_second v (W w) h = and_from (is_write w) true (and_parts (is_write w) (is_in_version v w) h).0 refl
in_second v (C seq id) h = h

all_in_second : (v : Version) (xs : List Item) → list_all (is_item v) xs ≡ true → list_all (is_item Second) xs ≡ true
all_in_second v [] h = refl
all_in_second v (x ∷ xs) h =
    let p = and_parts (is_item v x) (list_all (is_item v) xs) h in
    and_from (is_item Second x) (list_all (is_item Second) xs) (in_second v x p.0) (all_in_second v xs p.1)

-- the items of a batch that has a header are within the limits, whatever its version
pub items_good : (b : Batch) (h : Header) (items : List Item) → b.header ≡ Some h → items ≡ b.items → IsTrue (is_batch b) → list_all (is_item Second) items ≡ true
items_good b h items header same within =
    ap (list_all (is_item Second)) same
    ∙ all_in_second b.version b.items (and_parts (is_header h) (list_all (is_item b.version) b.items) (subst (λ o. IsTrue (is_batch_of b.version o b.items b.ending)) header within)).1

-- a primary that is found to be no other
pub own_primary : (x p q : ℕ) (other : Bool) → other ≡ not (x == p) → other ≡ false → p ≡ q → (x == q) ≡ true
own_primary x p q other e f g = grind (arith, nat_tests)

-- the step, where nothing refuses the batch as a whole
pub receive_done : (a : Replica) (b : Batch) (h : Header) → b.header ≡ Some h → (h.primary == a.primary) ≡ true → receive_batch a b ≡ after_items a (take_items b.items 2 (Ok (nothing_taken a)))
receive_done a b h header own = ap (λ o. receive_under a o b.items) header
    ∙ (λ t. step_unless a (only_if (not (own t)) model.WrongPrimary) (after_items a (take_items b.items 2 (Ok (nothing_taken a)))))
