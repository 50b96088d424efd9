-- Routes of the code, as values of the definitions.
use Rattle.std.specs.Prelude.{List}
use Rattle.std.specs.String.{string_bytes}
use Rattle.matchit.specs.Params.{walk}
use Rattle.matchit.specs.declared.params.Params.{Params}
use Rattle.mr_model.specs.Texts.{Text}
use Rattle.mr_model.specs.Http as model
use Rattle.mr_web.specs.declared.routes.Route.{Route}
use Rattle.mr_web.specs.declared.routes.Route.TheVariants as route

-- the words that parameters stand for
abbrev pub path_words : Params → List (Text × Text)
path_words p = walk p.pattern.now p.text.now p.path.now p.names.now 0 0

abbrev pub route_view : Route → model.Route
route_view route.Submissions = model.Submissions
route_view route.Cancellations = model.Cancellations
route_view (route.Day room day) = model.Day (string_bytes room) (string_bytes day)
route_view (route.Request room id) = model.Request (string_bytes room) (string_bytes id)
route_view (route.ErrorLog room) = model.ErrorLog (string_bytes room)
route_view route.Position = model.PositionOf
route_view route.Pull = model.Pull
route_view route.Push = model.Push
