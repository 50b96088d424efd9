-- The rooms that a batch touches, told from what its items bring alone and from the kept writes.
use Rattle.std.specs.Prelude.{◌≡◌, ℕ, Bool, false, ◌&&◌, List, nat_lt, bytes_eq}
use Rattle.std.specs.List.{list_any}
use Rattle.mr_model.specs.Texts.{Text}
use Rattle.mr_model.specs.Writes.{Id, same_id}
use Rattle.mr_model.specs.Exchange.{Item, W, C}
use Rattle.mr_part.specs.declared.touched.Touched.{Touched}
use Rattle.mr_part.specs.Sets.{has_id}
use Rattle.mr_replay.specs.Seen.{has_room}

-- whether the item is a commit of this id that is not known yet, where so many are
abbrev pub commits_id : ℕ → Id → Item → Bool
commits_id commits id (W w) = false
commits_id commits id (C seq other) = nat_lt commits seq && same_id other id

-- whether the item is a write in this room
abbrev pub writes_in : Text → Item → Bool
writes_in room (W w) = bytes_eq room w.room
writes_in room (C seq id) = false

-- these are the ids that the items' new commits name, and the rooms of their writes
pub record IsTouchedBy (touched : Touched) (commits : ℕ) (items : List Item) : Type 0 where
  pub committed : (id : Id) → has_id touched.committed id ≡ list_any (commits_id commits id) items
  pub rooms : (room : Text) → has_room touched.rooms room ≡ list_any (writes_in room) items
