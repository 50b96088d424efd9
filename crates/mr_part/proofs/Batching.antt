-- The items of a batch that is made.
use Rattle.std.proofs.Common.{◌≡◌, ℕ, zero, suc, ◌+◌, ◌-◌, ◌<◌, ◌≤◌, ◌==◌, min, nat_lt, not, Bool, true, false, cond, List, [], ◌∷◌, ◌++◌, length}
use Rattle.std.proofs.Common.{get_or, map, take, drop, Some, ap, refl, sym, ◌∙◌, subst, append_assoc, append-nil, ◌⊎◌, ◌&&◌, inl, inr, arith}
use Rattle.std.specs.Prelude.{flat_map}
use Rattle.std.specs.List.{filter_map, cons_option, enumerate_from, list_any, list_all}
use Rattle.std.proofs.lemmas.Bool.{true≢false, or_cases}
use Rattle.std.proofs.lemmas.Bool.Decides.{nat_tests}
use Rattle.std.proofs.lemmas.List.{length-append, length-map, length-take, map-append, map_more, take_all, take-append-drop, take-append-le}
use Rattle.mr_model.specs.Writes.{Id, Write, id_of, is_write}
use Rattle.mr_model.specs.Exchange as model
use Rattle.mr_model.specs.Positions.{Position}
use Rattle.mr_model.specs.Replica.{Replica, IsReplica, write_with, tentative}
use Rattle.mr_model.specs.Refusals.{WrongPrimary, Truncated, NeedsVersion2, first_refusal}
use Rattle.mr_model.specs.Replies.{Reply, BatchIs}
use Rattle.mr_model.specs.Kept.{kept_committed}
use Rattle.mr_model.specs.Dropped.{Has}
use Rattle.mr_model.specs.Step.{item_if_lacked, commit_items, items_for, is_beyond, batch_of, batch_unless, batch_reply}
use Rattle.mr_model.proofs.BatchItems.{list_of_all, IsOwn, items_own}
use Rattle.mr_model.proofs.Fronts.{all_take}
use Rattle.mr_model.proofs.Members.{has_right}
use Rattle.mr_model.proofs.OrderedSets.{all_map}
use Rattle.mr_model.proofs.KnownById.{known_with, commit_found}
use Rattle.mr_model.proofs.TakingKeeps.{IsItem}
use Rattle.mr_model.proofs.TwinChanges.{drop-add}
use Rattle.mr_base.specs.Answers.{ok_if}
use Rattle.mr_part.specs.declared.kept_rows.KeptRow.{KeptRow}
use Rattle.mr_part.specs.KeptRows.{row_writes}
use Rattle.mr_base.specs.declared.versions.Version.{Version}
use Rattle.mr_base.specs.Versions.{version_of}
use Rattle.mr_base.specs.declared.batches.Item.{Item}
use Rattle.mr_base.specs.declared.refusals.Refusal.TheVariants as refusal
use Rattle.mr_base.specs.Batches as base
use Rattle.mr_base.specs.Batches.{item_of}
use Rattle.mr_part.specs.Answering.{reply_with}
use Rattle.mr_part.specs.Outgoing.{Offers, committed_items, lacked_items, ending_by}

-- one item more, where there is room
pub Offers-more : (limit : ℕ) (items : List model.Item) (there new : List Item) (more : Bool) (x : Item) (y : model.Item)
    → Offers limit items there more → length there < limit → new ≡ there ++ x ∷ [] → item_of x ≡ y → Offers limit (items ++ y ∷ []) new more
Offers-more limit items there new more x y o room e same =
    let size : length there ≡ min limit (length items) = sym (length-map there item_of) ∙ ap length o.first ∙ length-take limit items in
    let short : length items < limit = omega arith in
    let all : map item_of there ≡ items = o.first ∙ take_all limit items (let s : length items ≤ limit = omega arith in s) in
    let longer = length-append items (y ∷ []) in
    record {
      first = ap (map item_of) e ∙ map-append item_of there (x ∷ []) ∙ (λ t. all t ++ same t ∷ [])
          ∙ sym (take_all limit (items ++ y ∷ []) (let s : length (items ++ y ∷ []) ≤ limit = omega arith in s));
      rest = o.rest ∙ not_above limit (length items) (length (items ++ y ∷ [])) (let s : length items ≤ limit = omega arith in s) (let s : length (items ++ y ∷ []) ≤ limit = omega arith in s);
    }
  where
    not_above : (l m n : ℕ) → m ≤ l → n ≤ l → nat_lt l m ≡ nat_lt l n
    not_above l m n p q = grind (arith, nat_tests)

-- where there is one more already, any others are more
pub Offers-full : (limit : ℕ) (items rest : List model.Item) (there : List Item) (more : Bool) → Offers limit items there more → more ≡ true → Offers limit (items ++ rest) there more
Offers-full limit items rest there more o full =
    let above : nat_lt limit (length items) ≡ true = sym o.rest ∙ full in
    let low : limit ≤ length items = grind (arith, nat_tests) in
    let longer = length-append items rest in
    let beyond : nat_lt limit (length (items ++ rest)) ≡ true = grind (arith, nat_tests) in
    record { first = o.first ∙ sym (take-append-le limit items rest low); rest = full ∙ sym beyond }

-- ---- more writes

pub lacked_items-append : (p : Position) (ws vs : List Write) → lacked_items p (ws ++ vs) ≡ lacked_items p ws ++ lacked_items p vs
lacked_items-append p [] vs = refl
lacked_items-append p (w ∷ ws) vs = ap (λ xs. item_if_lacked p (Some w) ++ xs) (lacked_items-append p ws vs) ∙ sym (append_assoc (item_if_lacked p (Some w)) (lacked_items p ws) (lacked_items p vs))

-- the writes of the rows so far and of the others
rows_parted : (rows : List KeptRow) (k : ℕ) → row_writes (take k rows) ++ row_writes (drop k rows) ≡ row_writes rows
rows_parted rows k = sym (map-append (λ (y : KeptRow). y.write) (take k rows) (drop k rows)) ∙ ap row_writes (take-append-drop k rows)

-- where there is one more already, those that follow are more
pub lacked_full : (limit : ℕ) (p : Position) (items : List model.Item) (rows : List KeptRow) (k : ℕ) (there : List Item) (more : Bool)
    → Offers limit (items ++ lacked_items p (row_writes (take k rows))) there more → more ≡ true
    → Offers limit (items ++ lacked_items p (row_writes rows)) there more
lacked_full limit p items rows k there more o full =
    let front = lacked_items p (row_writes (take k rows)) in
    let back = lacked_items p (row_writes (drop k rows)) in
    let all : (items ++ front) ++ back ≡ items ++ lacked_items p (row_writes rows) =
    append_assoc items front back ∙ ap (λ xs. items ++ xs) (sym (lacked_items-append p (row_writes (take k rows)) (row_writes (drop k rows))) ∙ ap (lacked_items p) (rows_parted rows k)) in
    subst (λ xs. Offers limit xs there more) all (Offers-full limit (items ++ front) back there more o full)

-- the writes of one row more
pub row_more : (rows : List KeptRow) (k : ℕ) (x : KeptRow) → k < length rows → x ≡ get_or rows k x → row_writes (take k rows) ++ x.write ∷ [] ≡ row_writes (take (k + 1) rows)
row_more rows k x low is = ap (λ (y : KeptRow). row_writes (take k rows) ++ y.write ∷ []) is ∙ sym (map_more (λ (y : KeptRow). y.write) rows k x low)

pub committed_items-more : (p : Position) (seq : ℕ) (ws : List Write) (w : Write)
    → committed_items p seq (ws ++ w ∷ []) ≡ committed_items p seq ws ++ (item_if_lacked p (Some w) ++ model.C (seq + length ws) (id_of w) ∷ [])
committed_items-more p seq [] w = append-nil (item_if_lacked p (Some w) ++ model.C seq (id_of w) ∷ []) ∙ ap (λ n. item_if_lacked p (Some w) ++ model.C n (id_of w) ∷ []) (same seq)
  where
    same : (n : ℕ) → n ≡ n + 0
    same n = omega arith
committed_items-more p seq (v ∷ vs) w =
    let n : seq + 1 + length vs ≡ seq + suc (length vs) = omega arith in
    ap (λ xs. (item_if_lacked p (Some v) ++ model.C seq (id_of v) ∷ []) ++ xs)
    (committed_items-more p (seq + 1) vs w ∙ ap (λ m. committed_items p (seq + 1) vs ++ (item_if_lacked p (Some w) ++ model.C m (id_of w) ∷ [])) n)
    ∙ sym (append_assoc (item_if_lacked p (Some v) ++ model.C seq (id_of v) ∷ []) (committed_items p (seq + 1) vs) (item_if_lacked p (Some w) ++ model.C (seq + suc (length vs)) (id_of w) ∷ []))

committed_items-append : (p : Position) (seq : ℕ) (ws vs : List Write) → committed_items p seq (ws ++ vs) ≡ committed_items p seq ws ++ committed_items p (seq + length ws) vs
committed_items-append p seq [] vs = ap (λ n. committed_items p n vs) (same seq)
  where
    same : (n : ℕ) → n ≡ n + 0
    same n = omega arith
committed_items-append p seq (w ∷ ws) vs =
    let n : seq + 1 + length ws ≡ seq + suc (length ws) = omega arith in
    ap (λ xs. (item_if_lacked p (Some w) ++ model.C seq (id_of w) ∷ []) ++ xs) (committed_items-append p (seq + 1) ws vs ∙ ap (λ m. committed_items p (seq + 1) ws ++ committed_items p m vs) n)
    ∙ sym (append_assoc (item_if_lacked p (Some w) ++ model.C seq (id_of w) ∷ []) (committed_items p (seq + 1) ws) (committed_items p (seq + suc (length ws)) vs))

pub committed_full : (limit : ℕ) (p : Position) (first : ℕ) (items : List model.Item) (rows : List KeptRow) (k : ℕ) (there : List Item) (more : Bool)
    → Offers limit (items ++ committed_items p first (row_writes (take k rows))) there more → more ≡ true
    → Offers limit (items ++ committed_items p first (row_writes rows)) there more
committed_full limit p first items rows k there more o full =
    let ws = row_writes (take k rows) in
    let front = committed_items p first ws in
    let back = committed_items p (first + length ws) (row_writes (drop k rows)) in
    let all : (items ++ front) ++ back ≡ items ++ committed_items p first (row_writes rows) =
    append_assoc items front back ∙ ap (λ xs. items ++ xs) (sym (committed_items-append p first ws (row_writes (drop k rows))) ∙ ap (committed_items p first) (rows_parted rows k)) in
    subst (λ xs. Offers limit xs there more) all (Offers-full limit (items ++ front) back there more o full)

-- ---- those of the definitions

commits-found : (r : Replica) (p : Position) (seq : ℕ) (ids : List Id) → ((id : Id) → Has id ids → (w : Write) × (write_with r id ≡ Some w))
    → flat_map (commit_items r p) (enumerate_from seq ids) ≡ committed_items p seq (filter_map (write_with r) ids)
commits-found r p seq [] found = refl
commits-found r p seq (id ∷ ids) found =
    let (w, e) = found id (inl refl) in
    let is = (known_with r id w e).1 in
    (λ t. (item_if_lacked p (e t) ++ model.C seq (sym is t) ∷ []) ++ commits-found r p (seq + 1) ids (λ i h. found i (inr h)) t)
    ∙ ap (λ o. committed_items p seq (cons_option o (filter_map (write_with r) ids))) (sym e)

tentative-lacked : (p : Position) (ws : List Write) → flat_map (λ w. item_if_lacked p (Some w)) ws ≡ lacked_items p ws
tentative-lacked p [] = refl
tentative-lacked p (w ∷ ws) = ap (λ xs. item_if_lacked p (Some w) ++ xs) (tentative-lacked p ws)

drop_found : (r : Replica) (n : ℕ) (ids : List Id) → ((id : Id) → Has id ids → (w : Write) × (write_with r id ≡ Some w))
    → filter_map (write_with r) (drop n ids) ≡ drop n (filter_map (write_with r) ids)
drop_found r zero ids found = refl
drop_found r (suc n) [] found = refl
drop_found r (suc n) (id ∷ ids) found =
    let (w, e) = found id (inl refl) in
    drop_found r n ids (λ i h. found i (inr h)) ∙ ap (λ o. drop (suc n) (cons_option o (filter_map (write_with r) ids))) (sym e)

pub items-made : (r : Replica) (p : Position) → IsReplica r → r.dropped ≤ p.commits
    → items_for r p ≡ committed_items p (p.commits + 1) (drop (p.commits - r.dropped) (kept_committed r)) ++ lacked_items p (tentative r)
items-made r p sound low =
    let n = p.commits - r.dropped in
    let sum : p.commits ≡ r.dropped + n = omega arith in
    let all = λ (id : Id) (h : Has id (drop r.dropped r.commits)). commit_found r id sound
    (subst (Has id) (take-append-drop r.dropped r.commits) (has_right id (take r.dropped r.commits) (drop r.dropped r.commits) h)) in
    let later = λ (id : Id) (h : Has id (drop n (drop r.dropped r.commits))). all id
    (subst (Has id) (take-append-drop n (drop r.dropped r.commits)) (has_right id (take n (drop r.dropped r.commits)) (drop n (drop r.dropped r.commits)) h)) in
    let ids : drop p.commits r.commits ≡ drop n (drop r.dropped r.commits) = ap (λ m. drop m r.commits) sum ∙ drop-add r.dropped n r.commits in
    let commits = ap (λ is. flat_map (commit_items r p) (enumerate_from (p.commits + 1) is)) ids ∙ commits-found r p (p.commits + 1) (drop n (drop r.dropped r.commits)) later
    ∙ ap (committed_items p (p.commits + 1)) (drop_found r n (drop r.dropped r.commits) all) in
    λ t. commits t ++ tentative-lacked p (tentative r) t

-- ---- what a version of the text can say

beyond_item : (v : model.Version) (x : model.Item) → is_beyond v x ≡ true → model.is_item v x ≡ false
beyond_item v (model.W w) e = go (is_write w) (model.is_in_version v w) e
  where
    go : (g t : Bool) → not t ≡ true → (g && t) ≡ false
    go true true e = sym e
    go true false e = refl
    go false t e = refl
beyond_item v (model.C seq id) e = absurd (true≢false (sym e))

beyond_items : (v : model.Version) (xs : List model.Item) → list_any (is_beyond v) xs ≡ true → list_all (model.is_item v) xs ≡ false
beyond_items v [] e = absurd (true≢false (sym e))
beyond_items v (x ∷ xs) e = go (or_cases (is_beyond v x) (list_any (is_beyond v) xs) e) (beyond_items v xs)
  where
    behind : (b : Bool) → (b && false) ≡ false
    behind true = refl
    behind false = refl

    go : (is_beyond v x ≡ true) ⊎ (list_any (is_beyond v) xs ≡ true) → (list_any (is_beyond v) xs ≡ true → list_all (model.is_item v) xs ≡ false)
        → (model.is_item v x && list_all (model.is_item v) xs) ≡ false
    go (inl f) ih = ap (λ b. b && list_all (model.is_item v) xs) (beyond_item v x f)
    go (inr f) ih = ap (λ b. model.is_item v x && b) (ih f) ∙ behind (model.is_item v x)

-- a replica's items can be said where the position's version has all their writes
items_said : (a : Replica) (p : Position) (m : ℕ) → IsReplica a → list_all (model.is_item p.version) (take m (items_for a p)) ≡ not (list_any (is_beyond p.version) (take m (items_for a p)))
items_said a p m sound = go (list_any (is_beyond p.version) (take m (items_for a p))) refl
  where
    go : (b : Bool) → list_any (is_beyond p.version) (take m (items_for a p)) ≡ b → list_all (model.is_item p.version) (take m (items_for a p)) ≡ not b
    go true e = beyond_items p.version (take m (items_for a p)) e
    go false e = list_of_all p.version (take m (items_for a p))
        (all_map (IsOwn a sound) IsItem (λ x o. o.0) (take m (items_for a p)) (all_take (IsOwn a sound) m (items_for a p) (items_own a sound p))) e

-- the batch that is made of them in the position's version, or the refusal of one that this version can't say
pub batch_made : (a : Replica) (p : Position) (m : ℕ) (v : Version) (there : List Item) (more : Bool) → IsReplica a
    → version_of v ≡ p.version → (p.primary == a.primary) ≡ true → nat_lt p.commits a.dropped ≡ false → Offers m (items_for a p) there more
    → reply_with BatchIs (ok_if (list_all (model.is_item (version_of v)) (map item_of there))
    (base.batch_seen v (Some (record { from = a.server; primary = a.primary })) there (ending_by more)) refusal.NeedsVersion2) ≡ batch_reply a p m
batch_made a p m v there more sound version own whole o =
    let e = ending more ∙ ap (λ b. cond b model.More model.Complete) o.rest in
    (λ t. made (list_all (model.is_item (version t)) (o.first t)) (record { version = version t; header = Some (record { from = a.server; primary = a.primary }); items = o.first t; ending = e t }))
    ∙ ap (λ b. made b (batch_of a p m)) (items_said a p m sound)
    ∙ go (list_any (is_beyond p.version) (take m (items_for a p)))
    ∙ (λ t. batch_unless (first_refusal ((not (sym own t), WrongPrimary) ∷ (sym whole t, Truncated) ∷ (list_any (is_beyond p.version) (batch_of a p m).items, NeedsVersion2) ∷ [])) (batch_of a p m))
  where
    made : Bool → model.Batch → Reply
    made b batch = reply_with BatchIs (ok_if b batch refusal.NeedsVersion2)

    ending : (b : Bool) → base.ending_seen (ending_by b) ≡ cond b model.More model.Complete
    ending true = refl
    ending false = refl

    go : (b : Bool) → made (not b) (batch_of a p m) ≡ batch_unless (first_refusal ((b, NeedsVersion2) ∷ [])) (batch_of a p m)
    go true = refl
    go false = refl
