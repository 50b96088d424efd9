-- What a batch makes of numbers, rooms and kept writes, item by item.
use Rattle.std.specs.Prelude.{◌≡◌, ℕ, ◌+◌, ◌<◌, ◌≤◌, ◌||◌, ◌&&◌, Bool, true, List, length, take, map, filter, slice_get, Some, Result, Ok, Err, ◌⊎◌, bytes_eq}
use Rattle.std.specs.List.{list_any}
use Rattle.std.specs.Option.{option_map}
use Rattle.mr_model.specs.Texts.{Text}
use Rattle.mr_model.specs.Writes.{Id, Write, id_of}
use Rattle.mr_model.specs.Exchange.{Item}
use Rattle.mr_model.specs.Refusals as model
use Rattle.mr_model.specs.Replica.{Replica, count_of}
use Rattle.mr_model.specs.Kept.{kept_in_order}
use Rattle.mr_model.specs.Scopes.{is_named, is_in_tail, is_touched}
use Rattle.mr_model.specs.Tables.{seq_of, log_row, tables_of}
use Rattle.mr_model.specs.Taking.{Progress, take_item, take_items}
use Rattle.mr_base.specs.RefusalViews.{refusal_of}
use Rattle.mr_base.specs.declared.refusals.Refusal.{Refusal}
use Rattle.mr_base.specs.declared.refusals.Refusal.TheVariants.{OutOfMemory}
use Rattle.mr_tables.specs.declared.summary.Summary.{Summary}
use Rattle.mr_tables.specs.Summary.{tally_at, summary_of}
use Rattle.mr_part.specs.declared.batch.candidate.Candidate.{Candidate}
use Rattle.mr_part.specs.declared.kept_rows.KeptRow.{KeptRow}
use Rattle.mr_part.specs.Candidate.{write_verdict_with, commit_verdict}
use Rattle.mr_part.specs.KeptWrites.{KeptWrites, HasKept, logged_at, is_number_of, held_row}
use Rattle.mr_part.specs.Sets.{AreTogether}
use Rattle.mr_replay.specs.Seen.{has_room}

-- the numbers, the new rooms in the order of names and the kept writes in that of execution, as all items leave them
pub record ReachedView : Type 0 where
  pub summary : Summary
  pub rooms : List Text
  pub kept : List KeptRow

-- whether a write of the replica is in scope of the items
abbrev pub is_inside : Replica → List Item → Write → Bool
is_inside a items w =
    is_named items (log_row a w) || (is_in_tail (length a.commits) items (log_row a w) && is_touched (tables_of a) items w.room)

-- the test passes each write in scope of the items: those that they name, and those that they may move
abbrev pub CoversScope : Replica → List Item → (Write → Bool) → Type 0
CoversScope a items inside = (w : Write) → is_inside a items w ≡ true → inside w ≡ true

-- the candidate is what the replica that is reached so far from the first would have of the writes that pass this test
pub record ShowsTaken (a : Replica) (inside : Write → Bool) (c : Candidate) (p : Progress) : Type 0 where
  pub summary : c.summary ≡ summary_of p.replica
  pub rooms : AreTogether a.rooms (has_room c.rooms) p.replica.rooms
  pub kept : HasKept c.kept (held_row a p.replica) (filter inside (kept_in_order p.replica))
  -- all writes that came are there
  pub writes : length (filter inside (kept_in_order p.replica)) ≡ length (filter inside (kept_in_order a)) + p.writes
  -- a write that doesn't pass has the commit number that it had
  pub marks : (w : Write) → (seq_of p.replica w ≡ seq_of a w) ⊎ (inside w ≡ true)
  -- no server's writes are fewer
  pub counts : (s : ℕ) → count_of a s ≤ count_of p.replica s

-- the same of what all items lead to
pub record ShowsPicked (a : Replica) (inside : Write → Bool) (c : ReachedView) (p : Progress) : Type 0 where
  pub summary : c.summary ≡ summary_of p.replica
  pub rooms : AreTogether a.rooms (λ t. list_any (bytes_eq t) c.rooms) p.replica.rooms
  pub kept : c.kept ≡ map (held_row a p.replica) (filter inside (kept_in_order p.replica))
  pub writes : length c.kept ≡ length (filter inside (kept_in_order a)) + p.writes
  pub marks : (w : Write) → (seq_of p.replica w ≡ seq_of a w) ⊎ (inside w ≡ true)

-- the item is a write that is new
abbrev pub BringsWrite : ℕ → Progress → Item → Type 0
BringsWrite line p x = (q : Progress) × (take_item line p x ≡ Ok q) × (p.writes < q.writes)

-- the answer to an item: taken, with what the definitions then have, or their refusal; out of memory comes of a new write alone
abbrev pub TakesItem : Replica → (Write → Bool) → ℕ → Progress → Item → Result (Unit {0}) Refusal → Candidate → Type 0
TakesItem a inside line p x (Ok taken) new = (q : Progress) × (take_item line p x ≡ Ok q) × ShowsTaken a inside new q
TakesItem a inside line p x (Err e) new = (take_item line p x ≡ Err (refusal_of e)) ⊎ ((e ≡ OutOfMemory) × BringsWrite line p x)

-- the items before one of them are taken, and that one is a write that is new
abbrev pub SomeBringsWrite : Progress → List Item → Type 0
SomeBringsWrite p items =
    (k : ℕ) × (x : Item) × (q : Progress) × (slice_get items k ≡ Some x) × (take_items (take k items) 2 (Ok p) ≡ Ok q) × BringsWrite (2 + k) q x

-- the same of items, the first of which stands in line 2: where one is refused before any brings a write, it isn't told as out of memory
abbrev pub TakesItems : Replica → (Write → Bool) → Progress → List Item → Result (Unit {0}) Refusal → Candidate → Type 0
TakesItems a inside p items (Ok taken) new = (q : Progress) × (take_items items 2 (Ok p) ≡ Ok q) × ShowsTaken a inside new q
TakesItems a inside p items (Err e) new = (take_items items 2 (Ok p) ≡ Err (refusal_of e)) ⊎ ((e ≡ OutOfMemory) × SomeBringsWrite p items)

-- what all items lead to, or why the batch is refused
abbrev pub TakenPicked : Replica → (Write → Bool) → Result Progress model.Refusal → Result ReachedView Refusal → Type 0
TakenPicked a inside exact (Ok c) = (p : Progress) × (exact ≡ Ok p) × ShowsPicked a inside c p
TakenPicked a inside exact (Err e) = (exact ≡ Err (refusal_of e)) ⊎ (e ≡ OutOfMemory)

-- ---- what becomes of an item

abbrev pub logged_write_verdict : ℕ → Summary → KeptWrites → Write → Result Bool Refusal
logged_write_verdict line s kept w = write_verdict_with line (tally_at s.tallies w.stamp.server) s.server (option_map (λ x. x.write) (logged_at kept (id_of w))) w

abbrev pub logged_commit_verdict : ℕ → Summary → KeptWrites → ℕ → Id → Result Bool Refusal
logged_commit_verdict line s kept q id = commit_verdict line s (is_number_of q (logged_at kept id)) q id
