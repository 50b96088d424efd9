-- Which rows of the log are copied for a command.
use Rattle.std.specs.Prelude.{ℕ, Bool, true, false, ◌&&◌, ◌||◌, List}
use Rattle.std.specs.List.{list_any}
use Rattle.mr_model.specs.Exchange.{Item}
use Rattle.mr_model.specs.Texts.{Text, within}
use Rattle.mr_model.specs.Scopes.{Scope, Nothing, InRoom, OfTarget, NextCommits, UpTo, Above, OfItems, is_tentative, is_above, is_in_tail, is_named, is_new_commit}
use Rattle.mr_model.specs.Tables.{LogRow}
use Rattle.mr_part.specs.declared.tail.Tail.{Tail}
use Rattle.mr_part.specs.Tails.{has_place}
use Rattle.mr_part.specs.Touched.{writes_in}

-- a tentative row of such a room, in the tail
abbrev pub is_late_in : (Text → Bool) → Tail → LogRow → Bool
is_late_in is_room tail row = (is_tentative row && has_place tail row.time row.server) && is_room row.room

-- in the tail of a batch that has a new commit, where so many commits are known, or a write in the row's room
abbrev pub is_late_row : ℕ → List Item → LogRow → Bool
is_late_row known items row = is_in_tail known items row && (list_any (is_new_commit known) items || list_any (writes_in row.room) items)

-- all rows in scope, and of a commit or of a batch that is received maybe others
abbrev pub is_log_needed : ℕ → Scope → LogRow → Bool
is_log_needed known Nothing row = false
is_log_needed known (InRoom room) row = false
is_log_needed known (OfTarget target) row = false
is_log_needed known (NextCommits count) row = is_tentative row
is_log_needed known (UpTo number) row = within 1 number row.seq
is_log_needed known (Above commits) row = is_above commits row
is_log_needed known (OfItems items) row = is_late_row known items row || is_named items row

-- the scope has the bookings of rooms
abbrev pub is_of_rooms : Scope → Bool
is_of_rooms Nothing = false
is_of_rooms (InRoom room) = true
is_of_rooms (OfTarget target) = false
is_of_rooms (NextCommits count) = false
is_of_rooms (UpTo number) = false
is_of_rooms (Above commits) = false
is_of_rooms (OfItems items) = true
