-- Ordered sets of ids and of rooms, which are made once for a batch.
use Rattle.std.specs.Prelude.{◌≡◌, ◌||◌, Bool, List, bytes_eq}
use Rattle.std.specs.BTreeSet.{BTreeSet, contains}
use Rattle.std.specs.List.{list_any}
use Rattle.mr_model.specs.Texts.{Text}
use Rattle.mr_model.specs.Writes.{Id}
use Rattle.mr_base.specs.Ids.{id_cmp}
use Rattle.mr_replay.specs.Seen.{has_room}

-- whether the set has an id
abbrev pub has_id : BTreeSet Id → Id → Bool
has_id ids id = contains id_cmp ids id

-- the set has these rooms
abbrev pub IsSetOf : BTreeSet Text → List Text → Type 0
IsSetOf set rooms = (room : Text) → has_room set room ≡ list_any (bytes_eq room) rooms

-- the known rooms and those that pass the test are together these
abbrev pub AreTogether : List Text → (Text → Bool) → List Text → Type 0
AreTogether known more rooms = (room : Text) → (list_any (bytes_eq room) known || more room) ≡ list_any (bytes_eq room) rooms
