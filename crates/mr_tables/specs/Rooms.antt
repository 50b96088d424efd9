-- Rooms that are not known.
use Rattle.std.specs.Prelude.{not, List, filter, bytes_eq}
use Rattle.std.specs.List.{list_any}
use Rattle.mr_model.specs.Texts.{Text}

-- those of the rooms that are not among the known ones
abbrev pub rooms_beside : List Text → List Text → List Text
rooms_beside known rooms = filter (λ t. not (list_any (bytes_eq t) known)) rooms
