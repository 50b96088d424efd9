-- A candidate that takes a write or a commit shows the replica that takes it.
use Rattle.std.proofs.Common.{◌≡◌, ℕ, suc, ◌+◌, ◌<◌, ◌≤◌, ◌==◌, ◌||◌, nat_le, Bool, true, false, cond, List, [], ◌∷◌, ◌++◌, length}
use Rattle.std.proofs.Common.{Option, Some, None, is_some, ap, refl, sym, ◌∙◌, subst, append_assoc, ◌⊎◌, inl, inr, arith}
use Rattle.std.specs.Prelude.{find, bytes_eq}
use Rattle.std.specs.List.{filter, list_any}
use Rattle.std.specs.Option.{option_map}
use Rattle.std.proofs.lemmas.Bool.{cond-true, cond-false}
use Rattle.std.proofs.lemmas.Bool.Decides.{nat_tests}
use Rattle.std.proofs.lemmas.List.{length-append}
use Rattle.std.proofs.lemmas.List.Elements.{filter-append}
use Rattle.mr_model.specs.Texts.{Text}
use Rattle.mr_model.specs.Writes.{Id, Write, id_of, same_id, stamp_before}
use Rattle.mr_model.specs.Exchange.{Item, W, C}
use Rattle.mr_model.specs.Replica.{Replica, IsReplica, count_of, committed_count, with_write, tentative, add_write, add_commit}
use Rattle.mr_model.specs.Dropped.{Has}
use Rattle.mr_model.specs.Kept.{kept_in_order, kept_committed}
use Rattle.mr_model.specs.Changes.{IsNext, CommitMoved}
use Rattle.mr_model.specs.Tables.{seq_among, seq_of}
use Rattle.mr_model.specs.Replay.{Logged}
use Rattle.mr_model.specs.View.{place_of}
use Rattle.mr_model.specs.Taking.{Progress, with_new_write, with_new_commit}
use Rattle.mr_model.proofs.Members.{has_right, has_filter, filter_has, find_one, find_has, same_id-true, same_id_from}
use Rattle.mr_model.proofs.ChangesKeep.{keeps-add_write, keeps-add_commit}
use Rattle.mr_model.proofs.KnownById.{one_known, known_bounds, tentative_known}
use Rattle.mr_model.proofs.DroppedApart.{kept_known}
use Rattle.mr_model.proofs.RowsById.{seq_not, seq_behind}
use Rattle.mr_model.proofs.Orders.{new_not_committed}
use Rattle.mr_model.proofs.WithWrite.{has_with_write, count-with_write}
use Rattle.mr_tables.specs.declared.summary.Summary.{Summary}
use Rattle.mr_tables.specs.Summary.{noted_write, noted_commit, summary_of}
use Rattle.mr_tables.proofs.Summaries.{summary-write, summary-commit}
use Rattle.mr_part.specs.declared.kept_rows.KeptRow.{KeptRow}
use Rattle.mr_part.specs.KeptRows.{kept_row, kept_row_with}
use Rattle.mr_part.specs.Candidate.{write_with_id}
use Rattle.mr_part.specs.KeptWrites.{KeptWrites, HasKept, logged_at, has_at, with_number, held_place, held_row}
use Rattle.mr_replay.specs.Seen.{has_room}
use Rattle.mr_part.specs.declared.batch.candidate.Candidate.{Candidate}
use Rattle.mr_part.specs.Taken.{ShowsTaken, CoversScope}
use Rattle.mr_part.proofs.Judging.{inside_named}
use Rattle.mr_part.proofs.Learning.{any-with_room, kept-learned, kept-moved}
use Rattle.mr_replay.proofs.Overlaid.{or_swap}

-- ---- lists

-- a write that doesn't pass is no answer
find_skip : (p q : Write → Bool) (w : Write) (ws : List Write) → p w ≡ false → find p (filter q (w ∷ ws)) ≡ find p (filter q ws)
find_skip p q w ws e = go (q w)
  where
    go : (b : Bool) → find p (cond b (w ∷ filter q ws) (filter q ws)) ≡ find p (filter q ws)
    go true = cond-false (p w) (Some w) (find p (filter q ws)) e
    go false = refl

find_behind : (p q : Write → Bool) (w : Write) (vs ws : List Write) → find p (filter q vs) ≡ find p (filter q ws) → find p (filter q (w ∷ vs)) ≡ find p (filter q (w ∷ ws))
find_behind p q w vs ws e = go (q w)
  where
    go : (b : Bool) → find p (cond b (w ∷ filter q vs) (filter q vs)) ≡ find p (cond b (w ∷ filter q ws) (filter q ws))
    go true = ap (cond (p w) (Some w)) e
    go false = e

find_with : (p q : Write → Bool) (w : Write) (vs ws : List Write) → p w ≡ false → find p (filter q (vs ++ with_write w ws)) ≡ find p (filter q (vs ++ ws))
find_with p q w [] [] e = find_skip p q w [] e
find_with p q w [] (x ∷ ws) e = go (stamp_before w x) (find_with p q w [] ws e)
  where
    go : (b : Bool) → find p (filter q (with_write w ws)) ≡ find p (filter q ws) → find p (filter q (cond b (w ∷ x ∷ ws) (x ∷ with_write w ws))) ≡ find p (filter q (x ∷ ws))
    go true rest = find_skip p q w (x ∷ ws) e
    go false rest = find_behind p q x (with_write w ws) ws rest
find_with p q w (v ∷ vs) ws e = find_behind p q v (vs ++ with_write w ws) (vs ++ ws) (find_with p q w vs ws e)

find_round : (p q : Write → Bool) (w : Write) (vs ws : List Write) → p w ≡ false → find p (filter q (vs ++ w ∷ ws)) ≡ find p (filter q (vs ++ ws))
find_round p q w [] ws e = find_skip p q w ws e
find_round p q w (v ∷ vs) ws e = find_behind p q v (vs ++ w ∷ ws) (vs ++ ws) (find_round p q w vs ws e)

count_round : (q : Write → Bool) (w : Write) (vs ws : List Write) → q w ≡ true → length (filter q (vs ++ w ∷ ws)) ≡ suc (length (filter q (vs ++ ws)))
count_round q w vs ws e =
    let whole = ap length (filter-append q vs (w ∷ ws) ∙ ap (λ xs. filter q vs ++ xs) (cond-true (q w) (w ∷ filter q ws) (filter q ws) e)) ∙ length-append (filter q vs) (w ∷ filter q ws) in
    let rest = ap length (filter-append q vs ws) ∙ length-append (filter q vs) (filter q ws) in
    omega arith

count_with : (q : Write → Bool) (w : Write) (vs ws : List Write) → q w ≡ true → length (filter q (vs ++ with_write w ws)) ≡ suc (length (filter q (vs ++ ws)))
count_with q w vs ws e =
    let whole = ap length (filter-append q vs (with_write w ws)) ∙ length-append (filter q vs) (filter q (with_write w ws)) in
    let more = count-with_write q w ws ∙ cond-true (q w) (suc (length (filter q ws))) (length (filter q ws)) e in
    let rest = ap length (filter-append q vs ws) ∙ length-append (filter q vs) (filter q ws) in
    omega arith

-- of the kept writes that pass, the one that has an id is found by it
found_by_id : (r : Replica) (inside : Write → Bool) (w : Write) (id : Id) → IsReplica r → inside w ≡ true
    → Has w (kept_in_order r) → same_id (id_of w) id ≡ true → write_with_id (filter inside (kept_in_order r)) id ≡ Some w
found_by_id r inside w id sound pass h e =
    find_one (λ v. same_id (id_of v) id) w (filter inside (kept_in_order r)) (has_filter inside w (kept_in_order r) pass h) e
    (λ v g s. one_known r v w sound (kept_known r v sound (filter_has inside v (kept_in_order r) g).0).0 (kept_known r w sound h).0 (same_id-true (id_of v) id s ∙ sym (same_id-true (id_of w) id e)))

-- ---- a write

-- what a write has until it is executed
abbrev opened : Write → KeptRow
opened w = kept_row_with w 0 Logged

-- that is how a write is held that the first replica doesn't know
held_new : (a r : Replica) (w : Write) → count_of a w.stamp.server < w.stamp.n → seq_of r w ≡ 0 → opened w ≡ held_row a r w
held_new a r w new open_ =
    let e : nat_le w.stamp.n (count_of a w.stamp.server) ≡ false = grind (arith, nat_tests) in
    λ i. kept_row_with w (sym open_ i) (sym (cond-false (nat_le w.stamp.n (count_of a w.stamp.server)) (place_of a w) Logged e) i)

-- and its own writes are held as they are
held_own : (a : Replica) (w : Write) → IsReplica a → Has w a.known → kept_row a w ≡ held_row a a w
held_own a w sound known =
    let low = (known_bounds a w sound known).1 in
    let e : nat_le w.stamp.n (count_of a w.stamp.server) ≡ true = grind (arith, nat_tests) in
    λ i. kept_row_with w (seq_of a w) (sym (cond-true (nat_le w.stamp.n (count_of a w.stamp.server)) (place_of a w) Logged e) i)

pub held_all : (a : Replica) (inside : Write → Bool) (kept : KeptWrites) → IsReplica a
    → HasKept kept (kept_row a) (filter inside (kept_in_order a)) → HasKept kept (held_row a a) (filter inside (kept_in_order a))
held_all a inside kept sound has id = has id ∙ go (write_with_id (filter inside (kept_in_order a)) id) refl
  where
    go : (o : Option Write) → write_with_id (filter inside (kept_in_order a)) id ≡ o → option_map (kept_row a) o ≡ option_map (held_row a a) o
    go None is = refl
    go (Some w) is =
        let there = find_has (λ v. same_id (id_of v) id) w (filter inside (kept_in_order a)) is in
        ap Some (held_own a w sound (kept_known a w sound (filter_has inside w (kept_in_order a) there.0).0).0)

-- a write more
count_more : (r : Replica) (w : Write) (s : ℕ) → count_of r s ≤ count_of (add_write r w) s
count_more r w s = go (w.stamp.server == s) (count-with_write (λ v. v.stamp.server == s) w r.known)
  where
    go : (b : Bool) → count_of (add_write r w) s ≡ cond b (suc (count_of r s)) (count_of r s) → count_of r s ≤ count_of (add_write r w) s
    go true e = omega (arith, e)
    go false e = omega (arith, e)

pub shows-learned : (a : Replica) (items : List Item) (inside : Write → Bool) (c new : Candidate) (p : Progress) (w : Write)
    → IsReplica p.replica → w.stamp.server < 100 → IsNext p.replica w → Has (W w) items → CoversScope a items inside → ShowsTaken a inside c p
    → new.summary ≡ noted_write c.summary w.stamp → ((name : Text) → has_room new.rooms name ≡ (bytes_eq name w.room || has_room c.rooms name))
    → ((id : Id) → logged_at new.kept id ≡ cond (same_id (id_of w) id) (Some (opened w)) (logged_at c.kept id)) → ShowsTaken a inside new (with_new_write p w)
shows-learned a items inside c new p w sound small next named covers shows summary rooms kept =
    let was = shows.writes in
    let counted = ap (λ ws. length (filter inside ws)) (kept-learned r w sound next) ∙ count_with inside w (kept_committed r) (tentative r) is_in in
    record {
      summary = summary ∙ ap (λ (s : Summary). noted_write s w.stamp) shows.summary ∙ summary-write r w small next;
      rooms = λ name. ap (λ b. list_any (bytes_eq name) a.rooms || b) (rooms name) ∙ or_swap (list_any (bytes_eq name) a.rooms) (bytes_eq name w.room) (has_room c.rooms name)
          ∙ ap (λ b. bytes_eq name w.room || b) (shows.rooms name) ∙ sym (any-with_room name w.room r.rooms);
      kept = λ id. kept id ∙ ap (cond (same_id (id_of w) id) (Some (opened w))) (shows.kept id) ∙ found id (same_id (id_of w) id) refl;
      writes = omega (arith, counted, was);
      marks = shows.marks;
      counts = λ s. (let had = shows.counts s in let more = count_more r w s in omega (arith, had, more));
    }
  where
    r : Replica
    r = p.replica

    unknown : count_of a w.stamp.server < w.stamp.n
    unknown = let had = shows.counts w.stamp.server in let number = next.number in omega (arith, had, number)

    is_in : inside w ≡ true
    is_in = covers w (inside_named a items (W w) w named refl)

    sound' : IsReplica (add_write r w)
    sound' = keeps-add_write r w sound next.is_write next.number next.late

    there : Has w (kept_in_order (add_write r w))
    there = subst (Has w) (sym (kept-learned r w sound next)) (has_right w (kept_committed r) (with_write w (tentative r)) (has_with_write w w (tentative r) (inl refl)))

    found : (id : Id) (b : Bool) → same_id (id_of w) id ≡ b
        → cond b (Some (opened w)) (option_map (held_row a r) (write_with_id (filter inside (kept_in_order r)) id))
        ≡ option_map (held_row a (add_write r w)) (write_with_id (filter inside (kept_in_order (add_write r w))) id)
    found id true e =
        ap Some (held_new a (add_write r w) w unknown (seq_not 1 r.commits (id_of w) (new_not_committed r w sound next)))
        ∙ ap (option_map (held_row a (add_write r w))) (sym (found_by_id (add_write r w) inside w id sound' is_in there e))
    found id false e =
        ap (option_map (held_row a r))
        (sym (find_with (λ v. same_id (id_of v) id) inside w (kept_committed r) (tentative r) e) ∙ ap (λ ws. write_with_id (filter inside ws) id) (sym (kept-learned r w sound next)))

-- ---- a commit

-- the number of another write stays
seq_other : (k : ℕ) (ids : List Id) (id other : Id) → same_id id other ≡ false → seq_among k (ids ++ id ∷ []) other ≡ seq_among k ids other
seq_other k [] id other e = cond-false (same_id id other) k 0 e
seq_other k (x ∷ xs) id other e = ap (cond (same_id x other) k) (seq_other (k + 1) xs id other e)

module _ (a : Replica) (items : List Item) (inside : Write → Bool) (c : Candidate) (p : Progress) (q : ℕ) (id : Id) (sound : IsReplica p.replica)
    (small : id.server < 100) (next : id.n ≡ committed_count p.replica id.server + 1) (high : id.n ≤ count_of p.replica id.server)
    (named : Has (C q id) items) (covers : CoversScope a items inside) (shows : ShowsTaken a inside c p) (m : CommitMoved p.replica id) where
  abbrev r : Replica
  r = p.replica

  abbrev r' : Replica
  r' = add_commit p.replica id

  sound' : IsReplica r'
  sound' = keeps-add_commit r id sound next high

  is_in : inside m.moved ≡ true
  is_in = covers m.moved (inside_named a items (C q id) m.moved named m.is_moved)

  -- the kept writes round the one that moves, before and after
  was : kept_in_order r ≡ (kept_committed r ++ m.before) ++ m.moved ∷ m.behind
  was = ap (λ ws. kept_committed r ++ ws) m.was ∙ sym (append_assoc (kept_committed r) m.before (m.moved ∷ m.behind))

  others : (kept_committed r ++ m.before) ++ m.behind ≡ kept_committed r ++ (m.before ++ m.behind)
  others = append_assoc (kept_committed r) m.before m.behind

  there : Has m.moved (kept_in_order r)
  there = subst (Has m.moved) (sym was) (has_right m.moved (kept_committed r ++ m.before) (m.moved ∷ m.behind) (inl refl))

  there' : Has m.moved (kept_in_order r')
  there' = subst (Has m.moved) (sym (kept-moved r id sound m)) (has_right m.moved (kept_committed r) (m.moved ∷ (m.before ++ m.behind)) (inl refl))

  found : logged_at c.kept id ≡ Some (held_row a r m.moved)
  found = shows.kept id ∙ ap (option_map (held_row a r)) (found_by_id r inside m.moved id sound is_in there (same_id_from (id_of m.moved) id m.is_moved))

  pub move_found : has_at c.kept id ≡ true
  move_found = ap (λ (o : Option KeptRow). is_some o) found

  number : seq_of r' m.moved ≡ 1 + length r.commits
  number =
      let open_ = (tentative_known r m.moved (subst (Has m.moved) (sym m.was) (has_right m.moved m.before (m.moved ∷ m.behind) (inl refl)))).1 in
      seq_behind 1 r.commits (id ∷ []) (id_of m.moved) open_ ∙ cond-true (same_id id (id_of m.moved)) (1 + length r.commits) 0 (same_id_from id (id_of m.moved) (sym m.is_moved))

  summary : noted_commit c.summary id ≡ summary_of r'
  summary = ap (λ (s : Summary). noted_commit s id) shows.summary ∙ summary-commit r id small next sound'

  commits : (noted_commit c.summary id).commits ≡ seq_of r' m.moved
  commits = ap (λ (s : Summary). s.commits) summary ∙ length-append r.commits (id ∷ []) ∙ (let n : length r.commits + 1 ≡ 1 + length r.commits = omega arith in n) ∙ sym number

  -- another id is told of the same write, which has the same number
  same_write_in : (other : Id) → same_id id other ≡ false → write_with_id (filter inside (kept_in_order r)) other ≡ write_with_id (filter inside (kept_in_order r')) other
  same_write_in other e =
      let test = λ (v : Write). same_id (id_of v) other in
      let not_moved : test m.moved ≡ false = ap (λ i. same_id i other) m.is_moved ∙ e in
      ap (λ ws. find test (filter inside ws)) was ∙ find_round test inside m.moved (kept_committed r ++ m.before) m.behind not_moved
      ∙ ap (λ ws. find test (filter inside ws)) others ∙ sym (find_round test inside m.moved (kept_committed r) (m.before ++ m.behind) not_moved)
      ∙ ap (λ ws. find test (filter inside ws)) (sym (kept-moved r id sound m))

  same_number : (other : Id) → same_id id other ≡ false → (o : Option Write) → write_with_id (filter inside (kept_in_order r')) other ≡ o → option_map (held_row a r) o ≡ option_map (held_row a r') o
  same_number other e None is = refl
  same_number other e (Some v) is =
      let mine = same_id-true (id_of v) other (find_has (λ u. same_id (id_of u) other) v (filter inside (kept_in_order r')) is).1 in
      λ i. Some (kept_row_with v (sym (seq_other 1 r.commits id (id_of v) (ap (same_id id) mine ∙ e)) i) (held_place a v))

  moved_in : (other : Id) (b : Bool) → same_id id other ≡ b
      → cond b (option_map (with_number (noted_commit c.summary id).commits) (logged_at c.kept id)) (logged_at c.kept other)
      ≡ option_map (held_row a r') (write_with_id (filter inside (kept_in_order r')) other)
  moved_in other true e =
      ap (option_map (with_number (noted_commit c.summary id).commits)) found ∙ (λ i. Some (kept_row_with m.moved (commits i) (held_place a m.moved)))
      ∙ ap (option_map (held_row a r')) (sym (found_by_id r' inside m.moved other sound' is_in there' (ap (λ i. same_id i other) m.is_moved ∙ e)))
  moved_in other false e = shows.kept other ∙ ap (option_map (held_row a r)) (same_write_in other e) ∙ same_number other e (write_with_id (filter inside (kept_in_order r')) other) refl

  marked : (v : Write) → (b : Bool) → same_id id (id_of v) ≡ b → (seq_of r v ≡ seq_of a v) ⊎ (inside v ≡ true) → (seq_of r' v ≡ seq_of a v) ⊎ (inside v ≡ true)
  marked v true e old = inr (covers v (inside_named a items (C q id) v named (sym (same_id-true id (id_of v) e))))
  marked v false e (inl old) = inl (seq_other 1 r.commits id (id_of v) e ∙ old)
  marked v false e (inr old) = inr old

  pub shows-moved : (new : Candidate) → new.summary ≡ noted_commit c.summary id → new.rooms ≡ c.rooms
      → ((other : Id) → logged_at new.kept other ≡ cond (same_id id other) (option_map (with_number (noted_commit c.summary id).commits) (logged_at c.kept id)) (logged_at c.kept other))
      → ShowsTaken a inside new (with_new_commit p id)
  shows-moved new noted rooms kept =
      let before = ap (λ ws. length (filter inside ws)) was ∙ count_round inside m.moved (kept_committed r ++ m.before) m.behind is_in in
      let same = ap (λ ws. length (filter inside ws)) others in
      let after = ap (λ ws. length (filter inside ws)) (kept-moved r id sound m) ∙ count_round inside m.moved (kept_committed r) (m.before ++ m.behind) is_in in
      let counted = shows.writes in
      record {
        summary = noted ∙ summary;
        rooms = λ name. ap (λ set. list_any (bytes_eq name) a.rooms || has_room set name) rooms ∙ shows.rooms name;
        kept = λ other. kept other ∙ moved_in other (same_id id other) refl;
        writes = omega (arith, before, same, after, counted);
        marks = λ v. marked v (same_id id (id_of v)) refl (shows.marks v);
        counts = shows.counts;
      }
