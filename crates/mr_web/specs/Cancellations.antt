-- Cancellations: JSON objects with exactly the members of one.
use Rattle.std.specs.Prelude.{Option, Some, None, codes, if◌then◌else◌, ◌==◌, option_and_then}
use Rattle.serde_json.specs.Data.{Data}
use Rattle.mr_model.specs.Texts.{Text}
use Rattle.mr_web.specs.JsonBodies.{json_of, members_in, text_at}

abbrev pub cancellation_with : Option Text → Option Text → Option (Text × Text)
cancellation_with None id = None
cancellation_with (Some room) None = None
cancellation_with (Some room) (Some id) = Some (room, id)

-- a cancellation is an object of a room and an id, and nothing else
abbrev pub cancellation_in : Data → Option (Text × Text)
cancellation_in d = if members_in d == 2 then cancellation_with (text_at (codes "room") d) (text_at (codes "id") d) else None

-- the room and the id of the cancellation that a body is
abbrev pub cancellation_of : Text → Option (Text × Text)
cancellation_of body = option_and_then cancellation_in (json_of body)
