-- What becomes of an item at a candidate is what the definitions do with it: each write that the item names is among those that it shows.
use Rattle.std.proofs.Common.{◌≡◌, ℕ, zero, suc, ◌+◌, ◌-◌, ◌<◌, ◌≤◌, ◌==◌, ◌&&◌, not, nat_lt, nat_le, Bool, true, false, cond, List, [], ◌∷◌, ◌++◌}
use Rattle.std.proofs.Common.{length, take, drop, Some, None, Result, Ok, Err, ap, refl, sym, ◌∙◌, subst, inl, inr, arith, IsTrue, ◌||◌, map, Option}
use Rattle.std.specs.List.{filter_map, cons_option, slice_get, filter, list_any}
use Rattle.std.proofs.lemmas.Bool.{true≢false, false_from_ne_true, eqb-true, cond-true, cond-false, eq-eqb}
use Rattle.std.proofs.lemmas.Bool.Decides.{nat_tests}
use Rattle.std.proofs.lemmas.List.{take-append-drop, length-drop}
use Rattle.mr_model.specs.Writes.{Id, Write, id_of, same_id, same_write, is_write}
use Rattle.mr_model.specs.Refusals as model
use Rattle.mr_model.specs.Replica.{Replica, IsReplica, count_of, last_time, committed_count, write_with, is_dropped, tentative, is_among}
use Rattle.mr_model.specs.Dropped.{Has}
use Rattle.mr_model.specs.Kept.{kept_in_order}
use Rattle.mr_model.specs.Changes.{IsNext}
use Rattle.mr_model.specs.Taking.{Progress, is_that_write, is_that_id, with_new_write, with_new_commit, take_write, take_commit}
use Rattle.mr_model.proofs.Members.{has_right, find_one, find_none, same_id-true, same_id_from, has_filter, filter_has, has_map, slice_has, find_has, has_among}
use Rattle.mr_model.proofs.ChangesKeep.{within}
use Rattle.mr_model.proofs.KnownById.{known_with, with_id, known_at, one_known, commit_found, distinct_commits}
use Rattle.mr_model.proofs.DroppedApart.{kept_known, known_kept}
use Rattle.mr_model.proofs.RowsById.{server_bounds, seq_at, at_seq}
use Rattle.mr_base.specs.RefusalViews.{refusal_of}
use Rattle.mr_base.specs.declared.refusals.Refusal.{Refusal}
use Rattle.mr_base.specs.declared.refusals.Refusal.TheVariants.{Gap, OutOfOrder, Forged, OwnWrite, PrimaryOnly}
use Rattle.mr_tables.specs.Summary.{summary_of, tally_at}
use Rattle.mr_part.specs.Candidate.{write_with_id, known_verdict, write_verdict_by, write_verdict, there_verdict, commit_verdict_with, commit_verdict, write_verdict_with}
use Rattle.mr_tables.proofs.Summaries.{tally-of}
use Rattle.std.specs.Prelude.{find}
use Rattle.std.specs.Option.{option_map}
use Rattle.mr_model.specs.Exchange.{Item, W, C}
use Rattle.mr_model.specs.Scopes.{item_id, has_number, is_in_tail, is_touched, is_tentative}
use Rattle.mr_model.specs.Tables.{seq_of, log_row, tables_of}
use Rattle.mr_part.specs.declared.kept_rows.KeptRow.{KeptRow}
use Rattle.mr_part.specs.KeptWrites.{logged_at, is_number_of, held_row}
use Rattle.mr_part.specs.declared.batch.candidate.Candidate.{Candidate}
use Rattle.mr_part.specs.Taken.{ShowsTaken, CoversScope, is_inside, logged_write_verdict, logged_commit_verdict}
use Rattle.mr_part.proofs.KeptWrites.{write_told}

-- ---- the kept writes

-- a dropped write isn't kept
pub dropped_out : (r : Replica) (id : Id) → IsReplica r → is_dropped r id ≡ true → write_with_id (kept_in_order r) id ≡ None
dropped_out r id sound dropped =
    find_none (λ w. same_id (id_of w) id) (kept_in_order r)
    (λ v h. false_from_ne_true (same_id (id_of v) id) (λ s. true≢false (sym dropped ∙ ap (is_dropped r) (sym (same_id-true (id_of v) id s)) ∙ (kept_known r v sound h).1)))

-- another known write is
pub kept_in : (r : Replica) (id : Id) → IsReplica r → 1 ≤ id.n → id.n ≤ count_of r id.server → is_dropped r id ≡ false
    → (write_with_id (kept_in_order r) id ≡ write_with r id) × ((w : Write) × (write_with r id ≡ Some w))
kept_in r id sound low high kept =
    let (w, known, e) = known_at r id sound low high in
    let there = with_id r w id sound known e in
    let one = find_one (λ v. same_id (id_of v) id) w (kept_in_order r) (known_kept r w sound known (ap (is_dropped r) e ∙ kept)) (same_id_from (id_of w) id e)
    (λ y h s. one_known r y w sound (kept_known r y sound h).0 known (same_id-true (id_of y) id s ∙ sym e)) in
    (one ∙ sym there, (w, there))

-- ---- writes

abbrev pub JudgedWrite : ℕ → Progress → Write → Result Bool Refusal → Type 0
JudgedWrite line p w (Ok true) = (take_write line p w ≡ Ok (with_new_write p w)) × IsNext p.replica w
JudgedWrite line p w (Ok false) = take_write line p w ≡ Ok p
JudgedWrite line p w (Err e) = take_write line p w ≡ Err (refusal_of e)

pub low_number : (w : Write) → IsTrue (is_write w) → 1 ≤ w.stamp.n
low_number w h = let stamp = (within w h).stamp in grind (arith, nat_tests)

pub small_server : (w : Write) → IsTrue (is_write w) → w.stamp.server < 100
small_server w h = let top : w.stamp.server ≤ 99 = (server_bounds w h).1 in omega arith

-- the cases of the definitions by their tests
abbrev pub write_cases : ℕ → Progress → Write → Bool → Bool → Bool → Bool → Bool → Bool → Result Progress model.Refusal
write_cases line p w a b c d e f =
    cond (a && b) (Ok p)
    (cond (a && c) (Ok p) (cond a (Err (model.Forged line)) (cond d (Err (model.OwnWrite line)) (cond e (Err (model.Gap line)) (cond f (Err (model.OutOfOrder line)) (Ok (with_new_write p w)))))))

pub judged_write : (line : ℕ) (p : Progress) (w : Write) → IsReplica p.replica → IsTrue (is_write w) → JudgedWrite line p w (write_verdict line (summary_of p.replica) (kept_in_order p.replica) w)
judged_write line p w sound good =
    subst (λ tally. JudgedWrite line p w (write_verdict_by line tally p.replica.server (kept_in_order p.replica) w)) (sym (tally-of p.replica w.stamp.server (small_server w good)))
    (go (nat_le w.stamp.n (count_of p.replica w.stamp.server)) refl (w.stamp.server == p.replica.server) refl
    (nat_lt (count_of p.replica w.stamp.server + 1) w.stamp.n) refl (nat_le w.stamp.time (last_time p.replica w.stamp.server)) refl)
  where
    same : (v : Write) → nat_le w.stamp.n (count_of p.replica w.stamp.server) ≡ true → is_dropped p.replica (id_of w) ≡ false
        → write_with p.replica (id_of w) ≡ Some v → (c : Bool) → same_write v w ≡ c → JudgedWrite line p w (cond c (Ok false) (Err (Forged line)))
    same v qa qb there true qc =
        let that = ap (λ o. is_that_write o w) there ∙ qc in
        λ t. write_cases line p w (qa t) (qb t) (that t) (w.stamp.server == p.replica.server)
        (nat_lt (count_of p.replica w.stamp.server + 1) w.stamp.n) (nat_le w.stamp.time (last_time p.replica w.stamp.server))
    same v qa qb there false qc =
        let that = ap (λ o. is_that_write o w) there ∙ qc in
        λ t. write_cases line p w (qa t) (qb t) (that t) (w.stamp.server == p.replica.server)
        (nat_lt (count_of p.replica w.stamp.server + 1) w.stamp.n) (nat_le w.stamp.time (last_time p.replica w.stamp.server))

    known : nat_le w.stamp.n (count_of p.replica w.stamp.server) ≡ true → (b : Bool) → is_dropped p.replica (id_of w) ≡ b
        → JudgedWrite line p w (known_verdict line w (write_with_id (kept_in_order p.replica) (id_of w)))
    known qa true qb =
        subst (λ o. JudgedWrite line p w (known_verdict line w o)) (sym (dropped_out p.replica (id_of w) sound qb))
        (λ t. write_cases line p w (qa t) (qb t) (is_that_write (write_with p.replica (id_of w)) w) (w.stamp.server == p.replica.server)
        (nat_lt (count_of p.replica w.stamp.server + 1) w.stamp.n) (nat_le w.stamp.time (last_time p.replica w.stamp.server)))
    known qa false qb =
        let high : w.stamp.n ≤ count_of p.replica w.stamp.server = grind (arith, nat_tests) in
        let (e, there) = kept_in p.replica (id_of w) sound (low_number w good) high qb in
        subst (λ o. JudgedWrite line p w (known_verdict line w o)) (sym (e ∙ there.1)) (same there.0 qa qb there.1 (same_write there.0 w) refl)

    go : (a : Bool) → nat_le w.stamp.n (count_of p.replica w.stamp.server) ≡ a → (d : Bool) → (w.stamp.server == p.replica.server) ≡ d → (e : Bool)
        → nat_lt (count_of p.replica w.stamp.server + 1) w.stamp.n ≡ e → (f : Bool) → nat_le w.stamp.time (last_time p.replica w.stamp.server) ≡ f
        → JudgedWrite line p w (cond a (known_verdict line w (write_with_id (kept_in_order p.replica) (id_of w)))
        (cond d (Err (OwnWrite line)) (cond e (Err (Gap line)) (cond f (Err (OutOfOrder line)) (Ok true)))))
    go true qa d qd e qe f qf = known qa (is_dropped p.replica (id_of w)) refl
    go false qa true qd e qe f qf = λ t. write_cases line p w (qa t) (is_dropped p.replica (id_of w)) (is_that_write (write_with p.replica (id_of w)) w)
        (qd t) (nat_lt (count_of p.replica w.stamp.server + 1) w.stamp.n) (nat_le w.stamp.time (last_time p.replica w.stamp.server))
    go false qa false qd true qe f qf = λ t. write_cases line p w (qa t) (is_dropped p.replica (id_of w))
        (is_that_write (write_with p.replica (id_of w)) w) (qd t) (qe t) (nat_le w.stamp.time (last_time p.replica w.stamp.server))
    go false qa false qd false qe true qf = λ t. write_cases line p w (qa t) (is_dropped p.replica (id_of w)) (is_that_write (write_with p.replica (id_of w)) w) (qd t) (qe t) (qf t)
    go false qa false qd false qe false qf = (
      λ t. write_cases line p w (qa t) (is_dropped p.replica (id_of w)) (is_that_write (write_with p.replica (id_of w)) w) (qd t) (qe t) (qf t),
      record {
        is_write = good;
        number = grind (arith, nat_tests);
        late = grind (arith, nat_tests);
      },
    )

-- ---- commits

-- of ids that are all found, the one at a place is that of the write there
found_at : (r : Replica) (ids : List Id) (rest : List Write) (j : ℕ) → ((id : Id) → Has id ids → (w : Write) × (write_with r id ≡ Some w))
    → j < length ids → (w : Write) × (slice_get (filter_map (write_with r) ids ++ rest) j ≡ Some w) × (slice_get ids j ≡ Some (id_of w))
found_at r [] rest j found h = absurd (omega arith)
found_at r (id ∷ ids) rest zero found h =
    let (w, e) = found id (inl refl) in
    (w, ap (λ o. slice_get (cons_option o (filter_map (write_with r) ids) ++ rest) 0) e, ap Some (sym (known_with r id w e).1))
found_at r (id ∷ ids) rest (suc j) found h =
    let (w, e) = found id (inl refl) in
    let (v, there, same) = found_at r ids rest j (λ i g. found i (inr g)) (omega arith) in
    (v, ap (λ o. slice_get (cons_option o (filter_map (write_with r) ids) ++ rest) (suc j)) e ∙ there, same)

get-drop : {A : Type 0} (d j : ℕ) (xs : List A) → slice_get (drop d xs) j ≡ slice_get xs (d + j)
get-drop zero j xs = ap (slice_get xs) (omega arith)
get-drop (suc d) j [] = refl
get-drop (suc d) j (x ∷ xs) = get-drop d j xs ∙ ap (slice_get (x ∷ xs)) (let n : suc (d + j) ≡ suc d + j = omega arith in n)

-- the commit of a number that is kept
pub commit_at : (r : Replica) (q : ℕ) → IsReplica r → r.dropped < q → q ≤ length r.commits
    → (w : Write) × (slice_get (kept_in_order r) (q - 1 - r.dropped) ≡ Some w) × (slice_get r.commits (q - 1) ≡ Some (id_of w))
commit_at r q sound low high =
    let found = λ (id : Id) (h : Has id (drop r.dropped r.commits)). commit_found r id sound
    (subst (Has id) (take-append-drop r.dropped r.commits) (has_right id (take r.dropped r.commits) (drop r.dropped r.commits) h)) in
    let size = length-drop r.dropped r.commits in
    let (w, there, same) = found_at r (drop r.dropped r.commits) (tentative r) (q - 1 - r.dropped) found (omega arith) in
    let n : r.dropped + (q - 1 - r.dropped) ≡ q - 1 = omega arith in
    (w, there, ap (slice_get r.commits) (sym n) ∙ sym (get-drop r.dropped (q - 1 - r.dropped) r.commits) ∙ same)

abbrev pub JudgedCommit : ℕ → Progress → ℕ → Id → Result Bool Refusal → Type 0
JudgedCommit line p q id (Ok true) = (take_commit line p q id ≡ Ok (with_new_commit p id)) × (id.n ≡ committed_count p.replica id.server + 1) × (id.n ≤ count_of p.replica id.server)
JudgedCommit line p q id (Ok false) = take_commit line p q id ≡ Ok p
JudgedCommit line p q id (Err e) = take_commit line p q id ≡ Err (refusal_of e)

abbrev pub commit_cases : ℕ → Progress → Id → Bool → Bool → Bool → Bool → Bool → Bool → Bool → Result Progress model.Refusal
commit_cases line p id a b c d e f g =
    cond a (Ok p) (cond (b && c) (Ok p) (cond b (Err (model.Forged line))
    (cond d (Err (model.PrimaryOnly line)) (cond e (Err (model.Gap line)) (cond f (Err (model.Gap line)) (cond (not g) (Err (model.OutOfOrder line)) (Ok (with_new_commit p id))))))))

pub judged_commit : (line : ℕ) (p : Progress) (q : ℕ) (id : Id) (is_there : Bool) → IsReplica p.replica → id.server < 100
    → (p.replica.dropped < q → q ≤ length p.replica.commits → is_there ≡ is_that_id (slice_get p.replica.commits (q - 1)) id)
    → JudgedCommit line p q id (commit_verdict line (summary_of p.replica) is_there q id)
judged_commit line p q id is_there sound small is =
    subst (λ tally. JudgedCommit line p q id (commit_verdict_with line tally (summary_of p.replica) is_there q id)) (sym (tally-of p.replica id.server small))
    (go (nat_le q p.replica.dropped) refl (nat_le q (length p.replica.commits)) refl (p.replica.server == p.replica.primary) refl
    (nat_lt (length p.replica.commits + 1) q) refl (nat_lt (count_of p.replica id.server) id.n) refl (id.n == committed_count p.replica id.server + 1) refl)
  where
    there : nat_le q p.replica.dropped ≡ false → nat_le q (length p.replica.commits) ≡ true → (c : Bool)
        → is_that_id (slice_get p.replica.commits (q - 1)) id ≡ c → JudgedCommit line p q id (cond c (Ok false) (Err (Forged line)))
    there qa qb true that = λ t. commit_cases line p id (qa t) (qb t) (that t) (p.replica.server == p.replica.primary)
        (nat_lt (length p.replica.commits + 1) q) (nat_lt (count_of p.replica id.server) id.n) (id.n == committed_count p.replica id.server + 1)
    there qa qb false that = λ t. commit_cases line p id (qa t) (qb t) (that t) (p.replica.server == p.replica.primary)
        (nat_lt (length p.replica.commits + 1) q) (nat_lt (count_of p.replica id.server) id.n) (id.n == committed_count p.replica id.server + 1)

    go : (a : Bool) → nat_le q p.replica.dropped ≡ a → (b : Bool) → nat_le q (length p.replica.commits) ≡ b → (d : Bool)
        → (p.replica.server == p.replica.primary) ≡ d → (e : Bool) → nat_lt (length p.replica.commits + 1) q ≡ e → (f : Bool)
        → nat_lt (count_of p.replica id.server) id.n ≡ f → (g : Bool) → (id.n == committed_count p.replica id.server + 1) ≡ g
        → JudgedCommit line p q id (cond a (Ok false)
        (cond b (there_verdict line is_there) (cond d (Err (PrimaryOnly line)) (cond e (Err (Gap line)) (cond f (Err (Gap line)) (cond (not g) (Err (OutOfOrder line)) (Ok true)))))))
    go true qa b qb d qd e qe f qf g qg = λ t. commit_cases line p id (qa t) (nat_le q (length p.replica.commits)) (is_that_id (slice_get p.replica.commits (q - 1)) id)
        (p.replica.server == p.replica.primary) (nat_lt (length p.replica.commits + 1) q) (nat_lt (count_of p.replica id.server) id.n) (id.n == committed_count p.replica id.server + 1)
    go false qa true qb d qd e qe f qf g qg =
        let low : p.replica.dropped < q = grind (arith, nat_tests) in
        let high : q ≤ length p.replica.commits = grind (arith, nat_tests) in
        subst (λ b. JudgedCommit line p q id (there_verdict line b)) (sym (is low high)) (there qa qb (is_that_id (slice_get p.replica.commits (q - 1)) id) refl)
    go false qa false qb true qd e qe f qf g qg = λ t. commit_cases line p id (qa t) (qb t) (is_that_id (slice_get p.replica.commits (q - 1)) id)
        (qd t) (nat_lt (length p.replica.commits + 1) q) (nat_lt (count_of p.replica id.server) id.n) (id.n == committed_count p.replica id.server + 1)
    go false qa false qb false qd true qe f qf g qg = λ t. commit_cases line p id (qa t) (qb t) (is_that_id (slice_get p.replica.commits (q - 1)) id)
        (qd t) (qe t) (nat_lt (count_of p.replica id.server) id.n) (id.n == committed_count p.replica id.server + 1)
    go false qa false qb false qd false qe true qf g qg =
        λ t. commit_cases line p id (qa t) (qb t) (is_that_id (slice_get p.replica.commits (q - 1)) id) (qd t) (qe t) (qf t) (id.n == committed_count p.replica id.server + 1)
    go false qa false qb false qd false qe false qf false qg = λ t. commit_cases line p id (qa t) (qb t) (is_that_id (slice_get p.replica.commits (q - 1)) id) (qd t) (qe t) (qf t) (qg t)
    go false qa false qb false qd false qe false qf true qg = (
      λ t. commit_cases line p id (qa t) (qb t) (is_that_id (slice_get p.replica.commits (q - 1)) id) (qd t) (qe t) (qf t) (qg t),
      eqb-true id.n (committed_count p.replica id.server + 1) qg,
      grind (arith, nat_tests),
    )

-- ---- what is in scope

-- a write that an item names by its id
pub inside_named : (a : Replica) (items : List Item) (x : Item) (w : Write) → Has x items → id_of w ≡ item_id x → is_inside a items w ≡ true
inside_named a items x w h e =
    let among : is_among (id_of w) (map item_id items) ≡ true = has_among (id_of w) (map item_id items) (subst (λ i. Has i (map item_id items)) (sym e) (has_map item_id x items h)) in
    λ t. (among t || (not (is_tentative (log_row a w)) && list_any (has_number (seq_of a w)) items)) || (is_in_tail (length a.commits) items (log_row a w) && is_touched (tables_of a) items w.room)

-- ---- writes

pub find_filtered : {A : Type 0} (p q : A → Bool) (xs : List A) → ((x : A) → Has x xs → p x ≡ true → q x ≡ true) → find p (filter q xs) ≡ find p xs
find_filtered p q [] f = refl
find_filtered {A} p q (x ∷ xs) f = go (p x) refl (q x) refl (find_filtered p q xs (λ y h. f y (inr h)))
  where
    go : (a : Bool) → p x ≡ a → (b : Bool) → q x ≡ b → find p (filter q xs) ≡ find p xs → find p (cond b (x ∷ filter q xs) (filter q xs)) ≡ cond a (Some x) (find p xs)
    go true e true g ih = cond-true (p x) (Some x) (find p (filter q xs)) e
    go false e true g ih = cond-false (p x) (Some x) (find p (filter q xs)) e ∙ ih
    go true e false g ih = absurd (true≢false (sym (f x (inl refl) e) ∙ g))
    go false e false g ih = ih

-- the kept write of an id that is named is in scope
write_there : (a : Replica) (items : List Item) (inside : Write → Bool) (c : Candidate) (p : Progress) (x : Item) → CoversScope a items inside → ShowsTaken a inside c p
    → Has x items → option_map (λ (y : KeptRow). y.write) (logged_at c.kept (item_id x)) ≡ write_with_id (kept_in_order p.replica) (item_id x)
write_there a items inside c p x covers shows h =
    ap (option_map (λ (y : KeptRow). y.write)) (shows.kept (item_id x)) ∙ write_told a p.replica (write_with_id (filter inside (kept_in_order p.replica)) (item_id x))
    ∙ find_filtered (λ w. same_id (id_of w) (item_id x)) inside (kept_in_order p.replica) (λ w g e. covers w (inside_named a items x w h (same_id-true (id_of w) (item_id x) e)))

pub write_judged : (line : ℕ) (a : Replica) (items : List Item) (inside : Write → Bool) (c : Candidate) (w : Write) (p : Progress) (v : Result Bool Refusal)
    → IsReplica p.replica → IsTrue (is_write w) → Has (W w) items → CoversScope a items inside
    → ShowsTaken a inside c p → v ≡ logged_write_verdict line c.summary c.kept w → JudgedWrite line p w v
write_judged line a items inside c w p v sound good h covers shows e =
    let there = write_there a items inside c p (W w) covers shows h in
    let same = e ∙ (λ t. write_verdict_with line (tally_at (shows.summary t).tallies w.stamp.server) (shows.summary t).server (there t) w) in
    subst (JudgedWrite line p w) (sym same) (judged_write line p w sound good)

-- ---- commits

abbrev unwrap : Id → Option Id → Id
unwrap d None = d
unwrap d (Some x) = x

-- the kept write of an id that is named has a number that is known and kept just where the commit of that number is of this id
pub number_there : (a : Replica) (items : List Item) (inside : Write → Bool) (r : Replica) (q : ℕ) (id : Id)
    → IsReplica r → CoversScope a items inside → Has (C q id) items → r.dropped < q → q ≤ length r.commits
    → is_number_of q (option_map (held_row a r) (write_with_id (filter inside (kept_in_order r)) id)) ≡ is_that_id (slice_get r.commits (q - 1)) id
number_there a items inside r q id sound covers h low high =
    let (w, kept, commit) = commit_at r q sound low high in
    go w kept commit (same_id (id_of w) id) refl (write_with_id (filter inside (kept_in_order r)) id) refl ∙ ap (λ o. is_that_id o id) (sym commit)
  where
    one : (1 + (q - 1)) ≡ q
    one = omega (arith, low)

    number : (w : Write) → slice_get r.commits (q - 1) ≡ Some (id_of w) → seq_of r w ≡ q
    number w e = seq_at 1 r.commits (id_of w) (q - 1) (distinct_commits r sound) e ∙ one

    numbered : (w v : Write) → slice_get r.commits (q - 1) ≡ Some (id_of w) → same_id (id_of v) id ≡ true → same_id (id_of w) id ≡ false → (b : Bool) → (seq_of r v == q) ≡ b → b ≡ false
    numbered w v commit mine other true e =
        let there = at_seq 1 r.commits (id_of v) (q - 1) (omega arith) (eqb-true (seq_of r v) q e ∙ sym one) in
        let same : id_of v ≡ id_of w = ap (unwrap (id_of v)) (sym there ∙ commit) in
        absurd (true≢false (sym mine ∙ ap (λ i. same_id i id) same ∙ other))
    numbered w v commit mine other false e = refl

    go : (w : Write) → slice_get (kept_in_order r) (q - 1 - r.dropped) ≡ Some w → slice_get r.commits (q - 1) ≡ Some (id_of w) → (b : Bool)
        → same_id (id_of w) id ≡ b → (o : Option Write) → write_with_id (filter inside (kept_in_order r)) id ≡ o → is_number_of q (option_map (held_row a r) o) ≡ b
    go w kept commit true e o is =
        let mine = slice_has (kept_in_order r) (q - 1 - r.dropped) w kept in
        let here = has_filter inside w (kept_in_order r) (covers w (inside_named a items (C q id) w h (same_id-true (id_of w) id e))) mine in
        let found = find_one (λ v. same_id (id_of v) id) w (filter inside (kept_in_order r)) here e
        (λ y g s. one_known r y w sound (kept_known r y sound (filter_has inside y (kept_in_order r) g).0).0
        (kept_known r w sound mine).0 (same_id-true (id_of y) id s ∙ sym (same_id-true (id_of w) id e))) in
        ap (λ u. is_number_of q (option_map (held_row a r) u)) (sym is ∙ found) ∙ eq-eqb (seq_of r w) q (number w commit)
    go w kept commit false e None is = refl
    go w kept commit false e (Some v) is = numbered w v commit (find_has (λ u. same_id (id_of u) id) v (filter inside (kept_in_order r)) is).1 e (seq_of r v == q) refl

commit_there : (a : Replica) (items : List Item) (inside : Write → Bool) (c : Candidate) (p : Progress) (q : ℕ) (id : Id) → IsReplica p.replica
    → CoversScope a items inside → ShowsTaken a inside c p → Has (C q id) items → p.replica.dropped < q → q ≤ length p.replica.commits
    → is_number_of q (logged_at c.kept id) ≡ is_that_id (slice_get p.replica.commits (q - 1)) id
commit_there a items inside c p q id sound covers shows h low high = ap (is_number_of q) (shows.kept id) ∙ number_there a items inside p.replica q id sound covers h low high

pub commit_judged : (line : ℕ) (a : Replica) (items : List Item) (inside : Write → Bool) (c : Candidate) (q : ℕ) (id : Id) (p : Progress) (v : Result Bool Refusal)
    → IsReplica p.replica → id.server < 100 → Has (C q id) items → CoversScope a items inside
    → ShowsTaken a inside c p → v ≡ logged_commit_verdict line c.summary c.kept q id → JudgedCommit line p q id v
commit_judged line a items inside c q id p v sound small h covers shows e =
    let same = e ∙ (λ t. commit_verdict line (shows.summary t) (is_number_of q (logged_at c.kept id)) q id) in
    subst (JudgedCommit line p q id) (sym same) (judged_commit line p q id (is_number_of q (logged_at c.kept id)) sound small (commit_there a items inside c p q id sound covers shows h))
