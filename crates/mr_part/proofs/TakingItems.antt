-- Taking all items of a batch at a candidate.
use Rattle.std.proofs.Common.{◌≡◌, ℕ, zero, suc, ◌+◌, ◌<◌, ◌≤◌, ◌||◌, ◌&&◌, not, Bool, true, false, Some, List, [], ◌∷◌, length, map}
use Rattle.std.proofs.Common.{take, drop, slice_get, get_or, Result, Ok, Err, ap, refl, sym, ◌∙◌, subst, inl, inr, arith, IsTrue}
use Rattle.std.specs.List.{list_all, list_any, filter, AllByRecursion}
use Rattle.std.specs.Prelude.{bytes_eq}
use Rattle.std.proofs.Math.Bool.{or-false}
use Rattle.std.proofs.lemmas.Bool.{and_parts}
use Rattle.std.proofs.lemmas.List.{length-map}
use Rattle.mr_model.specs.Texts.{Text}
use Rattle.mr_model.specs.Dropped.{Has}
use Rattle.mr_model.specs.Exchange.{Second, Item, is_item}
use Rattle.mr_model.specs.Kept.{kept_in_order}
use Rattle.mr_model.specs.Refusals as model
use Rattle.mr_model.specs.Replica.{Replica, IsReplica}
use Rattle.mr_model.specs.Taking.{Progress, take_item, take_items}
use Rattle.mr_model.specs.Writes.{Write}
use Rattle.mr_model.proofs.TakingKeeps.{IsItem, KeepsReplica, item_keeps}
use Rattle.mr_base.specs.declared.refusals.Refusal.{Refusal}
use Rattle.mr_tables.specs.Summary.{summary_of}
use Rattle.mr_part.specs.declared.kept_rows.KeptRow.{KeptRow}
use Rattle.mr_part.specs.Answering.{nothing_taken}
use Rattle.mr_part.specs.KeptWrites.{HasKept, held_row}
use Rattle.mr_part.specs.KeptRows.{kept_row}
use Rattle.mr_part.proofs.LearningKept.{held_all}
use Rattle.mr_part.specs.declared.batch.candidate.Candidate.{Candidate}
use Rattle.mr_part.specs.Taken.{ShowsTaken, ShowsPicked, TakesItem, TakesItems, TakenPicked}
use Rattle.std.specs.BTreeMap.{is_at}
use Rattle.std.specs.Cmp.Lexicographic.{slice_cmp}
use Rattle.std.specs.Ordering.{nat_cmp}
use Rattle.mr_replay.specs.Seen.{has_room}
use Rattle.mr_part.proofs.Receiving.{drop_at, all_at, drop_none, err≢ok, item-within}
use Rattle.mr_model.proofs.BatchesReadBack.{ok_inj}

-- after k items there is a progress that the candidate shows, and the rest leads from it to what all lead to
pub record IsAtInside (a : Replica) (inside : Write → Bool) (items : List Item) (k : ℕ) (start : Progress) (c : Candidate) : Type 0 where
  pub progress : Progress
  pub sound : IsReplica progress.replica
  pub first : take_items (take k items) 2 (Ok start) ≡ Ok progress
  pub rest : take_items items 2 (Ok start) ≡ take_items (drop k items) (2 + k) (Ok progress)
  pub shows : ShowsTaken a inside c progress

-- with one item more
first_more : (items : List Item) (k : ℕ) (x : Item) (line : ℕ) (p q : Progress) → k < length items → x ≡ get_or items k x
    → take_items (take k items) line (Ok p) ≡ Ok q → take_items (take (suc k) items) line (Ok p) ≡ take_item (line + k) q x
first_more [] k x line p q h e first = absurd (omega arith)
first_more (y ∷ ys) zero x line p q h e first =
    taken_alone (line + 1) (take_item line p y) ∙ (λ i. take_item ((let n : line ≡ line + 0 = omega arith in n) i) (ok_inj p q first i) (sym e i))
  where
    taken_alone : (n : ℕ) (o : Result Progress model.Refusal) → take_items [] n o ≡ o
    taken_alone n (Ok m) = refl
    taken_alone n (Err r) = refl
first_more (y ∷ ys) (suc k) x line p q h e first = go (take_item line p y) first (λ m f. first_more ys k x (line + 1) m q (omega arith) e f)
  where
    go : (o : Result Progress model.Refusal) → take_items (take k ys) (line + 1) o ≡ Ok q
        → ((m : Progress) → take_items (take k ys) (line + 1) (Ok m) ≡ Ok q → take_items (take (suc k) ys) (line + 1) (Ok m) ≡ take_item (line + 1 + k) q x)
        → take_items (take (suc k) ys) (line + 1) o ≡ take_item (line + suc k) q x
    go (Ok m) f rest = rest m f ∙ (let n : line + 1 + k ≡ line + suc k = omega arith in ap (λ l. take_item l q x) n)
    go (Err r) f rest = absurd (err≢ok r q f)

-- the item at a place is among them
pub item_at : (xs : List Item) (k : ℕ) (x : Item) → k < length xs → x ≡ get_or xs k x → Has x xs
item_at [] k x h e = absurd (omega arith)
item_at (y ∷ ys) zero x h e = inl e
item_at (y ∷ ys) (suc k) x h e = inr (item_at ys k x (omega arith) e)

pub inside-next : (a : Replica) (inside : Write → Bool) (items : List Item) (k : ℕ) (x : Item) (p : Progress) (c new : Candidate)
    → k < length items → x ≡ get_or items k x → IsTrue (list_all (is_item Second) items) → (at : IsAtInside a inside items k p c)
    → TakesItem a inside (2 + k) at.progress x (Ok tt) new → IsAtInside a inside items (suc k) p new
inside-next a inside items k x p c new h e all at t =
    let good = all_at items k x h e all in
    let line : 2 + k + 1 ≡ 2 + suc k = omega arith in
    record {
      progress = t.0;
      first = first_more items k x 2 p at.progress h e at.first ∙ t.1;
      sound = subst KeepsReplica t.1 (item_keeps (2 + k) at.progress x at.sound (item-within x good));
      rest = at.rest ∙ ap (λ xs. take_items xs (2 + k) (Ok at.progress)) (drop_at items k x h e)
          ∙ ap (take_items (drop (suc k) items) (2 + k + 1)) t.1 ∙ ap (λ n. take_items (drop (suc k) items) n (Ok t.0)) line;
      shows = t.2;
    }

pub inside-failed : (a : Replica) (inside : Write → Bool) (items : List Item) (k : ℕ) (x : Item) (p : Progress) (c new : Candidate) (r : Refusal) → k < length items
    → x ≡ get_or items k x → (at : IsAtInside a inside items k p c) → TakesItem a inside (2 + k) at.progress x (Err r) new → TakesItems a inside p items (Err r) new
inside-failed a inside items k x p c new r h e at (inl t) =
    inl (at.rest ∙ ap (λ xs. take_items xs (2 + k) (Ok at.progress)) (drop_at items k x h e) ∙ ap (take_items (drop (suc k) items) (2 + k + 1)) t)
inside-failed a inside items k x p c new r h e at (inr t) = inr (t.0, (k, x, at.progress, there items k x h e, at.first, t.1))
  where
    there : (xs : List Item) (n : ℕ) (y : Item) → n < length xs → y ≡ get_or xs n y → slice_get xs n ≡ Some y
    there [] n y g f = absurd (omega arith)
    there (z ∷ zs) zero y g f = ap Some (sym f)
    there (z ∷ zs) (suc n) y g f = there zs n y (omega arith) f

-- what fails among the items fails the batch
pub items-failed : (a : Replica) (inside : Write → Bool) (items : List Item) (p : Progress) (new : Candidate) (r : Refusal)
    → TakesItems a inside p items (Err r) new → TakenPicked a inside (take_items items 2 (Ok p)) (Err r)
items-failed a inside items p new r (inl t) = inl t
items-failed a inside items p new r (inr t) = inr t.0

-- at the end
pub inside-end : (a : Replica) (inside : Write → Bool) (items : List Item) (k : ℕ) (p : Progress) (c : Candidate)
    → length items ≤ k → (at : IsAtInside a inside items k p c) → take_items items 2 (Ok p) ≡ Ok at.progress
inside-end a inside items k p c h at = at.rest ∙ ap (λ xs. take_items xs (2 + k) (Ok at.progress)) (drop_none items k h)

-- before the first item
pub taken-none : (a : Replica) (inside : Write → Bool) (c : Candidate) → IsReplica a → c.summary ≡ summary_of a
    → c.rooms.keys ≡ [] → HasKept c.kept (kept_row a) (filter inside (kept_in_order a)) → ShowsTaken a inside c (nothing_taken a)
taken-none a inside c sound summary rooms kept = record {
  summary = summary;
  rooms = λ name. ap (λ ks. list_any (bytes_eq name) a.rooms || list_any (is_at (slice_cmp nat_cmp name)) ks) rooms ∙ or-false (list_any (bytes_eq name) a.rooms);
  kept = held_all a inside c.kept sound kept;
  writes = omega arith;
  marks = λ w. inl refl;
  counts = λ s. omega arith;
}

-- behind the last one, where the rooms and the writes are put into their orders
pub taken-all : (a : Replica) (inside : Write → Bool) (c : Candidate) (p : Progress) (rooms : List Text) (kept : List KeptRow)
    → ShowsTaken a inside c p → ((name : Text) → list_any (bytes_eq name) rooms ≡ (not (list_any (bytes_eq name) a.rooms) && has_room c.rooms name))
    → kept ≡ map (held_row a p.replica) (filter inside (kept_in_order p.replica))
    → ShowsPicked a inside (record { summary = c.summary; rooms = rooms; kept = kept }) p
taken-all a inside c p rooms kept shows rooms_are kept_are =
    let size = ap length kept_are ∙ length-map (filter inside (kept_in_order p.replica)) (held_row a p.replica) in
    let was = shows.writes in
    record {
      summary = shows.summary;
      rooms = λ name. ap (λ b. list_any (bytes_eq name) a.rooms || b) (rooms_are name) ∙ beside (list_any (bytes_eq name) a.rooms) (has_room c.rooms name) ∙ shows.rooms name;
      kept = kept_are;
      writes = omega (arith, size, was);
      marks = shows.marks;
    }
  where
    beside : (a b : Bool) → (a || (not a && b)) ≡ (a || b)
    beside true b = refl
    beside false b = refl

-- items within the limits, one by one
pub all_within : (items : List Item) → list_all (is_item Second) items ≡ true → AllByRecursion IsItem items
all_within [] good = tt
all_within (x ∷ xs) good = let p = and_parts (is_item Second x) (list_all (is_item Second) xs) good in (item-within x p.0, all_within xs p.1)
