-- What a batch undoes and executes anew, as a call of a part gets it, and what the part answers.
use Rattle.std.specs.Prelude.{◌≡◌, ℕ, List, map, filter, Result, Ok, Err, IfOk, ◌⊎◌, ◌==◌, ◌++◌, ◌||◌, nat_lt, Bool, true, false, not, take, drop, bytes_eq}
use Rattle.std.specs.List.{list_any}
use Rattle.mr_model.specs.Texts.{Text}
use Rattle.mr_model.specs.Writes.{Write}
use Rattle.mr_model.specs.Replica.{Replica, IsReplica, tentative}
use Rattle.mr_model.specs.Exchange.{Item}
use Rattle.mr_model.specs.Replies.{Took}
use Rattle.mr_model.specs.Step.{after_items}
use Rattle.mr_model.specs.Tables.{tables_of}
use Rattle.mr_model.specs.Taking.{take_items}
use Rattle.mr_model.specs.View.{place_of}
use Rattle.mr_model.specs.Scopes.{OfItems}
use Rattle.mr_model.specs.Moving.{may_move, again, BatchMoves}
use Rattle.mr_base.specs.declared.refusals.Refusal.{Refusal}
use Rattle.mr_base.specs.declared.refusals.Refusal.TheVariants.{OutOfMemory}
use Rattle.mr_replay.specs.Places.{UndoRow}
use Rattle.mr_replay.specs.Rows.{Rows}
use Rattle.mr_tables.specs.declared.summary.Summary.{Summary}
use Rattle.mr_tables.specs.Summary.{summary_of, tally_at}
use Rattle.mr_tables.specs.Change.{ChangeView, changed}
use Rattle.mr_part.specs.Answering.{nothing_taken, reply_with}
use Rattle.mr_part.specs.Parts.{part_of}
use Rattle.mr_part.specs.Logged.{undo_with}
use Rattle.mr_part.specs.Sets.{AreTogether}
use Rattle.mr_part.specs.KeptWrites.{held_place}
use Rattle.mr_model.specs.Replay.{Place, Taken, Logged, Done, Void}

-- The batch leads from the first replica, whose part has these numbers and board, to the second one, which has those numbers, and these
-- rooms more; the undo rows are those of the tentative writes that it may move, and the writes are those that it has executed
-- anew, each beside what undid it, or would undo it if it were logged.
pub record MovesPart (old : Summary) (board : Rows) (items : List Item) (a b : Replica) (summary : Summary) (rooms : List Text) (undone : List UndoRow) (writes : List Write) (was : List UndoRow) : Type 0 where
  pub sound : IsReplica a
  pub old_is : old ≡ summary_of a
  pub board_is : board ≡ (part_of (OfItems items) a).board
  pub moves : BatchMoves a b items
  pub summary_is : summary ≡ summary_of b
  pub rooms_are : AreTogether a.rooms (λ t. list_any (bytes_eq t) rooms) b.rooms
  pub undone_are : undone ≡ map (undo_with (place_of a)) (filter (may_move a items) (tentative a))
  pub writes_are : writes ≡ again a items moves.news b
  pub was_are : was ≡ map (undo_with (held_place a)) writes

-- the answer of a part that takes these items is that of the step, and its change turns the tables into those after it; or memory ran out
abbrev pub AnswersItems : Replica → List Item → Result (ℕ × ℕ × ChangeView) Refusal → Type 0
AnswersItems a items result =
    ((reply_with (λ (taken : ℕ × ℕ × ChangeView). Took taken.0 taken.1) result ≡ (after_items a (take_items items 2 (Ok (nothing_taken a)))).reply)
    × IfOk result (λ taken. changed taken.2 (tables_of a) ≡ tables_of (after_items a (take_items items 2 (Ok (nothing_taken a)))).replica))
    ⊎ (result ≡ Err OutOfMemory)

-- ---- of the writes that are executed anew, those that get another row in the log than they had

abbrev pub same_place : Place → Place → Bool
same_place (Taken j) (Taken k) = j == k
same_place Logged Logged = true
same_place Done Done = true
same_place Void Void = true
same_place _ _ = false

-- whether a write isn't known by these numbers
abbrev pub is_new : Summary → Write → Bool
is_new s w = nat_lt (tally_at s.tallies w.stamp.server).count w.stamp.n

-- whether a write is new by the old numbers, or has another place than it had
abbrev pub is_elsewhere : Summary → (Write → Place) → (Write → Place) → Write → Bool
is_elsewhere old was place w = is_new old w || not (same_place (was w) (place w))

-- so many first writes, and of the others those that pass
abbrev pub picked : ℕ → (Write → Bool) → List Write → List Write
picked news test ws = take news ws ++ filter test (drop news ws)
