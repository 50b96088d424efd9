-- Which resource a target names, and the words of its parameters.
use Rattle.std.specs.Prelude.{List, [], Option, Result, Ok, Err, codes, unwrap_or, option_map}
use Rattle.matchit.specs.Rows.{RowsOf}
use Rattle.matchit.specs.Router.{RouteOf, route_from}
use Rattle.matchit.specs.Route.{Scan, parse_route}
use Rattle.matchit.specs.Order.{placed}
use Rattle.matchit.specs.Params.{walk, named}
use Rattle.matchit.specs.Seek.{first}
use Rattle.matchit.specs.declared.error.InsertError.{InsertError}
use Rattle.mr_model.specs.Texts.{Text}
use Rattle.mr_model.specs.Http.{Route, Submissions, Cancellations, Day, Request, ErrorLog, PositionOf, Pull, Push}
use Rattle.mr_web.specs.declared.routes.Resource.{Resource}
use Rattle.mr_web.specs.declared.routes.Resource.TheVariants as at

-- the table with one more route, where its text reads as one
abbrev pub put_route : Result Scan InsertError → Resource → RowsOf (RouteOf Resource) → RowsOf (RouteOf Resource)
put_route (Ok s) resource rows = placed (s.pattern, route_from s resource) rows
put_route (Err e) resource rows = rows

-- the table of the resources, by their paths
unfoldable pub route_table : RowsOf (RouteOf Resource)
route_table =
    put_route (parse_route (codes "/push")) at.Push (
    put_route (parse_route (codes "/pull")) at.Pull (
    put_route (parse_route (codes "/position")) at.Position (
    put_route (parse_route (codes "/rooms/{room}/errors")) at.ErrorLog (
    put_route (parse_route (codes "/rooms/{room}/requests/{id}")) at.Request (
    put_route (parse_route (codes "/rooms/{room}/days/{day}")) at.Day (
    put_route (parse_route (codes "/cancel")) at.Cancellations (
    put_route (parse_route (codes "/submit")) at.Submissions [])))))))

-- the names of the parameters, each with the word that it has in the target
abbrev pub route_parameters : Text → RouteOf Resource → List (Text × Text)
route_parameters target r = walk r.pattern r.text target r.names 0 0

abbrev pub word_of : Text → List (Text × Text) → Text
word_of name words = unwrap_or (named name words) []

abbrev pub route_at : Resource → List (Text × Text) → Route
route_at at.Submissions words = Submissions
route_at at.Cancellations words = Cancellations
route_at at.Day words = Day (word_of (codes "room") words) (word_of (codes "day") words)
route_at at.Request words = Request (word_of (codes "room") words) (word_of (codes "id") words)
route_at at.ErrorLog words = ErrorLog (word_of (codes "room") words)
route_at at.Position words = PositionOf
route_at at.Pull words = Pull
route_at at.Push words = Push

abbrev pub route_with : Text → RouteOf Resource → Route
route_with target r = route_at r.value (route_parameters target r)

-- the route of a target
abbrev pub route_of : Text → Option Route
route_of target = option_map (route_with target) (first route_table target)
