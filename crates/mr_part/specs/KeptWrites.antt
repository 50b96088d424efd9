-- Kept writes by their ids, as the items of a batch lead from one replica to another.
use Rattle.std.specs.Prelude.{◌≡◌, ℕ, ◌==◌, nat_le, if◌then◌else◌, Bool, false, List, is_some, Option, Some, None}
use Rattle.std.specs.BTreeMap.{BTreeMap, get}
use Rattle.std.specs.Option.{option_map}
use Rattle.mr_model.specs.Replay.{Place, Logged}
use Rattle.mr_model.specs.Writes.{Id, Write}
use Rattle.mr_model.specs.Replica.{Replica, count_of}
use Rattle.mr_model.specs.Tables.{seq_of}
use Rattle.mr_model.specs.View.{place_of}
use Rattle.mr_base.specs.Ids.{id_cmp}
use Rattle.mr_part.specs.declared.kept_rows.KeptRow.{KeptRow}
use Rattle.mr_part.specs.Candidate.{write_with_id}
use Rattle.mr_part.specs.KeptRows.{kept_row_with}

-- the place that a write had in the first replica; one that the items bring has none yet, and is held as logged
abbrev pub held_place : Replica → Write → Place
held_place a w = if nat_le w.stamp.n (count_of a w.stamp.server) then place_of a w else Logged

-- a write of the second replica, with its commit number there
abbrev pub held_row : Replica → Replica → Write → KeptRow
held_row a r w = kept_row_with w (seq_of r w) (held_place a w)

-- ---- by ids

abbrev pub KeptWrites : Type 0
KeptWrites = BTreeMap Id KeptRow

-- the kept write of an id
abbrev pub logged_at : KeptWrites → Id → Option KeptRow
logged_at kept id = get id_cmp kept id

abbrev pub has_at : KeptWrites → Id → Bool
has_at kept id = is_some (logged_at kept id)

-- whether there is such a write, and it has this commit number
abbrev pub is_number_of : ℕ → Option KeptRow → Bool
is_number_of number None = false
is_number_of number (Some x) = x.seq == number

abbrev pub with_number : ℕ → KeptRow → KeptRow
with_number number x = record { write = x.write; undo = x.undo; seq = number }

-- these are the rows of the writes
abbrev pub HasKept : KeptWrites → (Write → KeptRow) → List Write → Type 0
HasKept kept row ws = (id : Id) → logged_at kept id ≡ option_map row (write_with_id ws id)
