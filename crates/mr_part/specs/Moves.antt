-- Which writes a batch may move, told from lists of kept writes.
use Rattle.std.specs.Prelude.{◌≡◌, ℕ, Bool, ◌&&◌, ◌||◌, if◌then◌else◌, ◌==◌, nat_lt, List, [], ◌∷◌, length, map, filter, bytes_eq, ◌⊎◌, true}
use Rattle.std.specs.List.{list_any}
use Rattle.mr_model.specs.Texts.{Text}
use Rattle.mr_model.specs.Writes.{Write, id_of, same_id}
use Rattle.mr_model.specs.Replica.{Replica, IsReplica}
use Rattle.mr_model.specs.Exchange.{Item, W, C}
use Rattle.mr_model.specs.Kept.{kept_in_order}
use Rattle.mr_model.specs.Scopes.{is_late, is_touched}
use Rattle.mr_model.specs.Moving.{BatchMoves}
use Rattle.mr_model.specs.Tables.{seq_of, tables_of}
use Rattle.mr_part.specs.declared.kept_rows.KeptRow.{KeptRow}
use Rattle.mr_part.specs.declared.batch.movable.Moving.{Moving}
use Rattle.mr_part.specs.KeptWrites.{held_row}
use Rattle.mr_part.specs.Sets.{IsSetOf}
use Rattle.mr_part.specs.Taken.{CoversScope}
use Rattle.mr_part.specs.Tails.{IsTail}

-- the rooms that an item touches, where so many commits are known and these are the kept writes that it may name
abbrev pub rooms_named : ℕ → List Write → Item → List Text
rooms_named commits ws (W w) = w.room ∷ []
rooms_named commits ws (C seq id) = if nat_lt commits seq then map (λ w. w.room) (filter (λ w. same_id (id_of w) id) ws) else []

-- these are the rooms that the items touch
abbrev pub AreTouched : List Text → Replica → List Item → Type 0
AreTouched touched a items = (room : Text) → list_any (bytes_eq room) touched ≡ is_touched (tables_of a) items room

-- the items touch these rooms, and their tail is that, where so many commits are known
pub record IsMoving (moving : Moving) (touched : List Text) (commits : ℕ) (items : List Item) : Type 0 where
  pub rooms_are : IsSetOf moving.rooms touched
  pub tail_is : IsTail moving.tail commits items

-- the same of a replica
pub record IsMovingOf (moving : Moving) (a : Replica) (items : List Item) : Type 0 where
  pub touched : List Text
  pub moving_is : IsMoving moving touched (length a.commits) items
  pub are_touched : AreTouched touched a items

-- whether a tentative write may move, where the items touch these rooms
abbrev pub moves_in : List Text → List Item → ℕ → Write → Bool
moves_in touched items commits w = list_any (bytes_eq w.room) touched && is_late commits items w.stamp.time w.stamp.server

-- whether a kept write is tentative and may move
abbrev pub moves_row : List Text → List Item → ℕ → KeptRow → Bool
moves_row touched items commits x = x.seq == 0 && moves_in touched items commits x.write

-- whether a write is executed anew: it is newly committed, or tentative and may move
abbrev pub is_anew : List Text → List Item → ℕ → KeptRow → Bool
is_anew touched items commits x = nat_lt commits x.seq || moves_row touched items commits x

-- the batch leads from the first replica to the second one, of whose kept writes these are those that pass the test
pub record ShowsMoves (a b : Replica) (items : List Item) (inside : Write → Bool) (touched : List Text) (commits : ℕ) (kept : List KeptRow) : Type 0 where
  pub sound : IsReplica a
  pub moves : BatchMoves a b items
  pub are_touched : AreTouched touched a items
  pub commits_are : commits ≡ length a.commits
  pub covers : CoversScope a items inside
  pub kept_are : kept ≡ map (held_row a b) (filter inside (kept_in_order b))
  -- a write that doesn't pass has the commit number that it had
  pub marks : (w : Write) → (seq_of b w ≡ seq_of a w) ⊎ (inside w ≡ true)
