-- Each step of two replicas that differ in dropped writes alone leaves two such replicas, and most replies are plainly the same.
use Rattle.std.proofs.Common.{◌≡◌, refl, sym, ap, ◌∙◌, subst, ℕ, zero, suc, ◌+◌, ◌-◌, ◌≤◌, max, Bool, true, false, not, cond, ◌&&◌, eqb, ltb}
use Rattle.std.proofs.Common.{List, [], ◌∷◌, ◌++◌, length, map, take, drop, inl, inr, Option, Some, None, Result, Ok, Err, arith, ltb-false}
use Rattle.std.specs.Prelude.{flat_map, is_none}
use Rattle.std.specs.List.{AllByRecursion, list_any, enumerate_from}
use Rattle.std.specs.Str.{bytes_eq}
use Rattle.mr_model.specs.Texts.{Text, only_if, numbers_on}
use Rattle.mr_model.specs.Writes.{Id, Write, id_of, id_in, is_id_text, is_room_name, is_title, greatest_count, greatest_time, greatest_alternatives}
use Rattle.mr_model.specs.Refusals.{Refusal, BadDay, BadTime, BadLength, BadRoomName, BadTitle, TooManyAlternatives, UnknownRoom, RoomThere, ClockExhausted}
use Rattle.mr_model.specs.Refusals.{CountExhausted, NotPrimary, PrimaryKeepsAll, BeyondCommitted, NoSuchRequest, WrongPrimary, Truncated, NeedsVersion2, first_refusal}
use Rattle.mr_model.specs.Replica.{Replica, count_of, tentative, add_write, IsReplica}
use Rattle.mr_model.specs.Exchange.{Second, Item, C, Header, Batch, read_batch}
use Rattle.mr_model.specs.Positions.{Position, counts_of, position_of}
use Rattle.mr_model.specs.Taking.{Progress, take_items}
use Rattle.mr_model.specs.Replies.{Reply, Took, CommittedIs, DroppedIs, Refused}
use Rattle.mr_model.specs.Step.{After, Submission, refuse, step_unless, add_room, submit_faults, write_of, outcome_at, after_write, submit, knows_booking, cancel_faults}
use Rattle.mr_model.specs.Step.{cancel_write, cancel, after_items, receive_under, receive_read, receive, commit, truncate, item_if_lacked, commit_items, items_for}
use Rattle.mr_model.specs.Step.{ending_of, batch_of, batch_unless, is_beyond, batch_reply, reply_to_position, leave, choice_words, is_bad_length}
use Rattle.mr_model.specs.Dropped.{Has, DifferInDropped}
use Rattle.mr_model.specs.Changes.{IsNext}
use Rattle.mr_model.specs.Calendar.{read_date, read_time}
use Rattle.mr_model.proofs.TakingKeeps.{IsItem, BatchWithin, batch_within}
use Rattle.mr_model.proofs.CommitsKeep.{keeps-commit}
use Rattle.mr_model.proofs.StepsKeep.{submitted_within, cancelled_within}
use Rattle.mr_model.proofs.TwinTables.{flat_map_same}
use Rattle.mr_model.proofs.DroppedApart.{kept_id}
use Rattle.mr_model.proofs.Orders.{added, is_next}
use Rattle.mr_model.proofs.TwinChanges.{next_over, twin_add_write, twin_add_room, twin_commits, twin_truncate, drop-add}
use Rattle.mr_model.proofs.TwinTaking.{TwinResult, Twins, twin_items}

-- ---- steps

pub record TwinAfter (x y : After) : Type 0 where
  pub reply : x.reply ≡ y.reply
  pub replicas : DifferInDropped x.replica y.replica

refused : (a b : Replica) (e f : Refusal) → DifferInDropped a b → e ≡ f → TwinAfter (refuse a e) (refuse b f)
refused a b e f d s = record { reply = ap Refused s; replicas = d }

left : (a b : Replica) (p q : Reply) → DifferInDropped a b → p ≡ q → TwinAfter (leave a p) (leave b q)
left a b p q d s = record { reply = s; replicas = d }

unless_twin : (a b : Replica) (o u : Option Refusal) (x y : After) → DifferInDropped a b → o ≡ u → (o ≡ None → TwinAfter x y) → TwinAfter (step_unless a o x) (step_unless b u y)
unless_twin a b o u x y d s f = subst (λ v. TwinAfter (step_unless a o x) (step_unless b v y)) s (go o refl)
  where
    go : (v : Option Refusal) → o ≡ v → TwinAfter (step_unless a v x) (step_unless b v y)
    go None e = f e
    go (Some r) e = refused a b r r d refl

twin_receive_batch : (a b : Replica) (h : Option Header) (xs : List Item) → Twins a b → AllByRecursion IsItem xs → TwinAfter (receive_under a h xs) (receive_under b h xs)
twin_receive_batch a b None xs t all = left a b (Took 0 0) (Took 0 0) t.alike refl
twin_receive_batch a b (Some h) xs t all =
    unless_twin a b (only_if (not (eqb h.primary a.primary)) WrongPrimary) (only_if (not (eqb h.primary b.primary)) WrongPrimary) _ _ t.alike
    (ap (λ n. only_if (not (eqb h.primary n)) WrongPrimary) t.alike.primary)
    (λ none. done (take_items xs 2 (Ok (record { replica = a; writes = 0; commits = 0 }))) (take_items xs 2 (Ok (record { replica = b; writes = 0; commits = 0 })))
    (twin_items xs 2 (Ok (record { replica = a; writes = 0; commits = 0 })) (Ok (record { replica = b; writes = 0; commits = 0 })) all (record { replicas = t; writes = refl; commits = refl })))
  where
    done : (o u : Result Progress Refusal) → TwinResult o u → TwinAfter (after_items a o) (after_items b u)
    done (Ok p) (Ok q) s = record { reply = (let w = s.writes in let c = s.commits in λ i. Took (w i) (c i)); replicas = s.replicas.alike }
    done (Err e) (Err f) s = refused a b e f t.alike s
    done (Ok p) (Err f) s = absurd s
    done (Err e) (Ok q) s = absurd s

pub twin_receive : (a b : Replica) (bytes : Text) → Twins a b → TwinAfter (receive a bytes) (receive b bytes)
twin_receive a b bytes t = go (read_batch bytes) (batch_within bytes)
  where
    go : (o : Result Batch Refusal) → BatchWithin o → TwinAfter (receive_read a o) (receive_read b o)
    go (Err e) all = refused a b e e t.alike refl
    go (Ok x) all = twin_receive_batch a b x.header x.items t all

pub twin_add_room_step : (a b : Replica) (room : Text) → Twins a b → TwinAfter (add_room a room) (add_room b room)
twin_add_room_step a b room t =
    unless_twin a b _ _ _ _ t.alike
    (ap (λ rs. first_refusal ((not (is_room_name room), BadRoomName) ∷ (list_any (bytes_eq room) rs, RoomThere) ∷ [])) t.alike.rooms)
    (λ none. record { reply = refl; replicas = twin_add_room a b room t.alike })

pub twin_commit_step : (a b : Replica) (k : ℕ) → Twins a b → TwinAfter (commit a k) (commit b k)
twin_commit_step a b k t =
    unless_twin a b _ _ _ _ t.alike
    (let s = t.alike.server in let p = t.alike.primary in λ i. only_if (not (eqb (s i) (p i))) NotPrimary)
    (λ none. record {
      reply = ap (λ ws. CommittedIs (length (take k ws))) t.alike.tentative;
      replicas =
          subst (λ ws. DifferInDropped (record a { commits = a.commits ++ map id_of (take k (tentative a)) }) (record b { commits = b.commits ++ map id_of (take k ws) })) t.alike.tentative
          (twin_commits a b (map id_of (take k (tentative a))) t.first t.second (keeps-commit a k t.first)
          (subst (λ ws. IsReplica (record b { commits = b.commits ++ map id_of (take k ws) })) (sym t.alike.tentative) (keeps-commit b k t.second)) t.alike);
    })

pub twin_truncate_step : (a b : Replica) (n : ℕ) → Twins a b → TwinAfter (truncate a n) (truncate b n)
twin_truncate_step a b n t =
    unless_twin a b _ _ _ _ t.alike
    (let s = t.alike.server in let p = t.alike.primary in let c = t.alike.commits in λ i. first_refusal ((eqb (s i) (p i), PrimaryKeepsAll) ∷ (ltb (c i) n, BeyondCommitted) ∷ []))
    (λ none. record { reply = ap (λ m. DroppedIs (max m n)) t.alike.dropped; replicas = twin_truncate a b n t.first t.second t.alike })

-- ---- submissions

own_counts : (a b : Replica) → DifferInDropped a b → count_of a a.server ≡ count_of b b.server
own_counts a b d = d.counts a.server ∙ ap (count_of b) d.server

pub same_write_of : (a b : Replica) (s : Submission) → DifferInDropped a b → write_of a s ≡ write_of b s
same_write_of a b s d =
    let sv = d.server in
    let n = own_counts a b d in
    let c = d.clock in
    λ i. record (write_of a s) { stamp = record { server = sv i; n = n i + 1; time = c i + 1 } }

pub same_faults : (a b : Replica) (s : Submission) → DifferInDropped a b → submit_faults a s ≡ submit_faults b s
same_faults a b s d =
    let rs = d.rooms in
    let n = own_counts a b d in
    let c = d.clock in
    λ i. (list_any (λ w. is_none (read_date w.day)) (choice_words s), BadDay)
    ∷ (list_any (λ w. is_none (read_time w.time)) (choice_words s), BadTime)
    ∷ (is_bad_length s, BadLength)
    ∷ (not (is_room_name s.room), BadRoomName)
    ∷ (not (is_title s.title), BadTitle)
    ∷ (ltb greatest_alternatives (length s.alternatives), TooManyAlternatives)
    ∷ (not (list_any (bytes_eq s.room) (rs i)), UnknownRoom)
    ∷ (eqb (c i) greatest_time, ClockExhausted)
    ∷ (eqb (n i) greatest_count, CountExhausted) ∷ []

pub submitted_next : (r : Replica) (s : Submission) → IsReplica r → first_refusal (submit_faults r s) ≡ None → IsNext r (write_of r s)
submitted_next r s h none = is_next r (write_of r s) (submitted_within r s h none) refl

-- with the same reply where replicas that differ in dropped writes alone tell the same outcome
twin_write : (a b : Replica) (w : Write) → Twins a b → ((x y : Replica) (v : Write) → Twins x y → outcome_at x v ≡ outcome_at y v) → IsNext a w → TwinAfter (after_write a w) (after_write b w)
twin_write a b w t same n =
    let d = twin_add_write a b w t.first t.second t.alike n in
    record { reply = same (add_write a w) (add_write b w) w (record { first = added a w t.first n; second = added b w t.second (next_over a b w t.alike n); alike = d }); replicas = d }

pub twin_submit : (a b : Replica) (s : Submission) → Twins a b → ((x y : Replica) (w : Write) → Twins x y → outcome_at x w ≡ outcome_at y w) → TwinAfter (submit a s) (submit b s)
twin_submit a b s t same =
    unless_twin a b _ _ _ _ t.alike (ap first_refusal (same_faults a b s t.alike))
    (λ none. subst (λ v. TwinAfter (after_write a (write_of a s)) (after_write b v)) (same_write_of a b s t.alike) (twin_write a b (write_of a s) t same (submitted_next a s t.first none)))

-- ---- cancels

same_cancel_write : (a b : Replica) (room id : Text) → DifferInDropped a b → cancel_write a room id ≡ cancel_write b room id
same_cancel_write a b room id d =
    let sv = d.server in
    let n = own_counts a b d in
    let c = d.clock in
    λ i. record (cancel_write a room id) { stamp = record { server = sv i; n = n i + 1; time = c i + 1 } }

same_cancel_faults : (a b : Replica) (room id : Text) → DifferInDropped a b → knows_booking a room (id_in id) ≡ knows_booking b room (id_in id) → cancel_faults a room id ≡ cancel_faults b room id
same_cancel_faults a b room id d k =
    let rs = d.rooms in
    let n = own_counts a b d in
    let c = d.clock in
    λ i. (not (is_room_name room), BadRoomName)
    ∷ (not (list_any (bytes_eq room) (rs i)), UnknownRoom)
    ∷ (not (is_id_text id && k i), NoSuchRequest)
    ∷ (eqb (c i) greatest_time, ClockExhausted)
    ∷ (eqb (n i) greatest_count, CountExhausted) ∷ []

pub twin_cancel : (a b : Replica) (room id : Text) → Twins a b → ((x y : Replica) (w : Write) → Twins x y → outcome_at x w ≡ outcome_at y w)
    → knows_booking a room (id_in id) ≡ knows_booking b room (id_in id) → TwinAfter (cancel a room id) (cancel b room id)
twin_cancel a b room id t same k =
    unless_twin a b _ _ _ _ t.alike (ap first_refusal (same_cancel_faults a b room id t.alike k))
    (λ none. subst (λ v. TwinAfter (after_write a (cancel_write a room id)) (after_write b v)) (same_cancel_write a b room id t.alike)
    (twin_write a b (cancel_write a room id) t same (is_next a (cancel_write a room id) (cancelled_within a room id t.first none) refl)))

-- ---- positions and batches

same_counts_of : (a b : Replica) (ss : List ℕ) → DifferInDropped a b → counts_of a ss ≡ counts_of b ss
same_counts_of a b [] d = refl
same_counts_of a b (s ∷ ss) d =
    let c = d.counts s in
    let rest = same_counts_of a b ss d in
    λ i. cond (eqb (c i) 0) (rest i) (record { server = s; count = c i } ∷ rest i)

pub same_position : (a b : Replica) → DifferInDropped a b → position_of a ≡ position_of b
same_position a b d =
    let s = d.server in
    let p = d.primary in
    let l = d.commits in
    let c = same_counts_of a b (numbers_on 1 99) d in
    λ i. record { version = Second; server = s i; primary = p i; commits = l i; counts = c i }

enumerated : {A : Type 0} (k : ℕ) (x : ℕ × A) (xs : List A) → Has x (enumerate_from k xs) → Has x.1 xs
enumerated k x [] h = absurd h
enumerated {A = A} k x (y ∷ ys) (inl e) = inl (ap (λ (z : ℕ × A). z.1) e)
enumerated k x (y ∷ ys) (inr h) = inr (enumerated (k + 1) x ys h)

dropped_has : {A : Type 0} (n : ℕ) (x : A) (xs : List A) → Has x (drop n xs) → Has x xs
dropped_has zero x xs h = h
dropped_has (suc n) x [] h = h
dropped_has (suc n) x (y ∷ ys) h = inr (dropped_has n x ys h)

pub same_items_for : (a b : Replica) (p : Position) → Twins a b → a.dropped ≤ p.commits → items_for a p ≡ items_for b p
same_items_for a b p t l =
    ap (λ is. flat_map (commit_items a p) (enumerate_from (p.commits + 1) is) ++ flat_map (λ w. item_if_lacked p (Some w)) (tentative a)) commits
    ∙ ap (λ xs. xs ++ flat_map (λ w. item_if_lacked p (Some w)) (tentative a))
    (flat_map_same (commit_items a p) (commit_items b p) (enumerate_from (p.commits + 1) (drop p.commits b.commits)) each)
    ∙ ap (λ ws. flat_map (commit_items b p) (enumerate_from (p.commits + 1) (drop p.commits b.commits)) ++ flat_map (λ w. item_if_lacked p (Some w)) ws) t.alike.tentative
  where
    front : (r : Replica) → r.dropped ≡ a.dropped → drop p.commits r.commits ≡ drop (p.commits - a.dropped) (drop r.dropped r.commits)
    front r e =
        let f : p.commits ≡ r.dropped + (p.commits - a.dropped) = omega (arith, l, e) in
        ap (λ n. drop n r.commits) f ∙ drop-add r.dropped (p.commits - a.dropped) r.commits

    commits : drop p.commits a.commits ≡ drop p.commits b.commits
    commits = front a refl ∙ ap (drop (p.commits - a.dropped)) t.alike.kept_commits ∙ sym (front b (sym t.alike.dropped))

    each : (c : ℕ × Id) → Has c (enumerate_from (p.commits + 1) (drop p.commits b.commits)) → commit_items a p c ≡ commit_items b p c
    each c h =
        let i = enumerated (p.commits + 1) c (drop p.commits b.commits) h in
        let k = dropped_has (p.commits - a.dropped) c.1 (drop a.dropped a.commits) (subst (λ is. Has c.1 is) (sym commits ∙ front a refl) i) in
        ap (λ o. item_if_lacked p o ++ C c.0 c.1 ∷ []) (t.alike.kept_writes c.1 (kept_id a c.1 t.first k))

pub same_batch : (a b : Replica) (p : Position) (m : ℕ) → Twins a b → a.dropped ≤ p.commits → batch_of a p m ≡ batch_of b p m
same_batch a b p m t l =
    let s = t.alike.server in
    let n = t.alike.primary in
    let xs = same_items_for a b p t l in
    λ i. record { version = p.version; header = Some (record { from = s i; primary = n i }); items = take m (xs i); ending = ending_of (xs i) m }

pub same_batch_reply : (a b : Replica) (p : Position) (m : ℕ) → Twins a b → batch_reply a p m ≡ batch_reply b p m
same_batch_reply a b p m t = go (ltb p.commits a.dropped) refl
  where
    primary : a.primary ≡ b.primary
    primary = t.alike.primary

    dropped : a.dropped ≡ b.dropped
    dropped = t.alike.dropped

    -- where too much is dropped the batch does not matter
    cut : (c : Bool) (x y : Batch) → batch_unless (first_refusal ((c, WrongPrimary) ∷ (true, Truncated) ∷ (list_any (is_beyond p.version) x.items, NeedsVersion2) ∷ [])) x
        ≡ batch_unless (first_refusal ((c, WrongPrimary) ∷ (true, Truncated) ∷ (list_any (is_beyond p.version) y.items, NeedsVersion2) ∷ [])) y
    cut true x y = refl
    cut false x y = refl

    go : (g : Bool) → ltb p.commits a.dropped ≡ g → batch_reply a p m ≡ batch_reply b p m
    go true e =
        ap (λ g. batch_unless (first_refusal ((not (eqb p.primary a.primary), WrongPrimary) ∷ (g, Truncated) ∷ (list_any (is_beyond p.version) (batch_of a p m).items, NeedsVersion2) ∷ []))
        (batch_of a p m)) e
        ∙ cut (not (eqb p.primary a.primary)) (batch_of a p m) (batch_of b p m)
        ∙ ap (λ g. batch_unless (first_refusal ((not (eqb p.primary a.primary), WrongPrimary) ∷ (g, Truncated) ∷ (list_any (is_beyond p.version) (batch_of b p m).items, NeedsVersion2) ∷ []))
        (batch_of b p m)) (sym e)
        ∙ (λ i. batch_unless (first_refusal ((not (eqb p.primary (primary i)), WrongPrimary) ∷ (ltb p.commits (dropped i), Truncated) ∷
        (list_any (is_beyond p.version) (batch_of b p m).items, NeedsVersion2) ∷ [])) (batch_of b p m))
    go false e =
        let bs = same_batch a b p m t (ltb-false p.commits a.dropped e) in
        λ i. batch_unless (first_refusal ((not (eqb p.primary (primary i)), WrongPrimary) ∷ (ltb p.commits (dropped i), Truncated) ∷ (list_any (is_beyond p.version) (bs i).items, NeedsVersion2) ∷ []))
        (bs i)

pub same_to_position : (a b : Replica) (o : Option Position) (m : ℕ) → Twins a b → reply_to_position a o m ≡ reply_to_position b o m
same_to_position a b None m t = refl
same_to_position a b (Some p) m t = same_batch_reply a b p m t
