-- A replica keeps its server and its primary, whatever it is asked.
use Rattle.std.proofs.Common.{◌≡◌, refl, ℕ, ◌+◌, ◌-◌, ◌==◌, not, nat_lt, nat_le, Bool, true, false, cond, ◌&&◌, List, [], ◌∷◌, length, Option, Some, None, Result, Ok, Err}
use Rattle.std.specs.List.{slice_get}
use Rattle.mr_model.specs.Writes.{Id, Write, id_of}
use Rattle.mr_model.specs.Refusals.{Refusal}
use Rattle.mr_model.specs.Replica.{Replica, count_of, last_time, is_dropped, write_with, committed_count}
use Rattle.mr_model.specs.Exchange.{Item, W, C, Header, Batch, read_batch}
use Rattle.mr_model.specs.Taking.{Progress, take_item, take_items, take_write, take_commit, is_that_write, is_that_id}
use Rattle.mr_model.specs.Step.{Command, AddRoom, Submit, Cancel, Receive, Commit, Truncate, AskPosition, BatchFor, Ask, After, step, step_unless, after_items, receive_under, receive_read}

-- the same server and the same primary
pub record IsSameServer (a b : Replica) : Type 0 where
  pub server : b.server ≡ a.server
  pub primary : b.primary ≡ a.primary

same_self : (a : Replica) → IsSameServer a a
same_self a = record { server = refl; primary = refl }

unless_same : (r : Replica) (o : Option Refusal) (done : After) → IsSameServer r done.replica → IsSameServer r (step_unless r o done).replica
unless_same r None done h = h
unless_same r (Some e) done h = same_self r

-- ---- a batch

-- of an answer to items
data Keeps (r : Replica) : Result Progress Refusal → Type 0 where
  taken : {p : Progress} → IsSameServer r p.replica → Keeps r (Ok p)
  refused : {e : Refusal} → Keeps r (Err e)

either : {r : Replica} (b : Bool) {x y : Result Progress Refusal} → Keeps r x → Keeps r y → Keeps r (cond b x y)
either true h k = h
either false h k = k

write_keeps : (r : Replica) (line : ℕ) (p : Progress) (w : Write) → IsSameServer r p.replica → Keeps r (take_write line p w)
write_keeps r line p w h =
    let known = nat_le w.stamp.n (count_of p.replica w.stamp.server) in
    either (known && is_dropped p.replica (id_of w)) (taken h)
    (either (known && is_that_write (write_with p.replica (id_of w)) w) (taken h)
    (either known refused
    (either (w.stamp.server == p.replica.server) refused
    (either (nat_lt (count_of p.replica w.stamp.server + 1) w.stamp.n) refused
    (either (nat_le w.stamp.time (last_time p.replica w.stamp.server)) refused
    (taken (record { server = h.server; primary = h.primary })))))))

commit_keeps : (r : Replica) (line : ℕ) (p : Progress) (q : ℕ) (id : Id) → IsSameServer r p.replica → Keeps r (take_commit line p q id)
commit_keeps r line p q id h =
    let a = p.replica in
    either (nat_le q a.dropped) (taken h)
    (either (nat_le q (length a.commits) && is_that_id (slice_get a.commits (q - 1)) id) (taken h)
    (either (nat_le q (length a.commits)) refused
    (either (a.server == a.primary) refused
    (either (nat_lt (length a.commits + 1) q) refused
    (either (nat_lt (count_of a id.server) id.n) refused
    (either (not (id.n == committed_count a id.server + 1)) refused
    (taken (record { server = h.server; primary = h.primary }))))))))

item_keeps : (r : Replica) (line : ℕ) (p : Progress) (x : Item) → IsSameServer r p.replica → Keeps r (take_item line p x)
item_keeps r line p (W w) h = write_keeps r line p w h
item_keeps r line p (C seq id) h = commit_keeps r line p seq id h

items_keep : (r : Replica) (xs : List Item) (line : ℕ) (o : Result Progress Refusal) → Keeps r o → Keeps r (take_items xs line o)
items_keep r xs line (Err e) h = refused
items_keep r [] line (Ok p) h = h
items_keep r (x ∷ xs) line (Ok p) (taken h) = items_keep r xs (line + 1) (take_item line p x) (item_keeps r line p x h)

after_same : (r : Replica) (o : Result Progress Refusal) → Keeps r o → IsSameServer r (after_items r o).replica
after_same r (Err e) h = same_self r
after_same r (Ok p) (taken h) = h

under_same : (r : Replica) (h : Option Header) (items : List Item) → IsSameServer r (receive_under r h items).replica
under_same r None items = same_self r
under_same r (Some h) items =
    unless_same r _ (after_items r (take_items items 2 (Ok (record { replica = r; writes = 0; commits = 0 }))))
    (after_same r _ (items_keep r items 2 (Ok (record { replica = r; writes = 0; commits = 0 })) (taken (same_self r))))

read_same : (r : Replica) (o : Result Batch Refusal) → IsSameServer r (receive_read r o).replica
read_same r (Err e) = same_self r
read_same r (Ok b) = under_same r b.header b.items

-- ---- a command

pub step_same : (r : Replica) (c : Command) → IsSameServer r (step r c).replica
step_same r (AddRoom room) = unless_same r _ _ (record { server = refl; primary = refl })
step_same r (Submit s) = unless_same r _ _ (record { server = refl; primary = refl })
step_same r (Cancel room id) = unless_same r _ _ (record { server = refl; primary = refl })
step_same r (Receive bytes) = read_same r (read_batch bytes)
step_same r (Commit k) = unless_same r _ _ (record { server = refl; primary = refl })
step_same r (Truncate n) = unless_same r _ _ (record { server = refl; primary = refl })
step_same r AskPosition = same_self r
step_same r (BatchFor bytes m) = same_self r
step_same r (Ask room question) = same_self r
