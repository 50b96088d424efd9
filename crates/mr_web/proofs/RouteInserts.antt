-- What inserting a route leaves.
use Rattle.std.proofs.Common.{◌≡◌, Result, Ok, Err}
use Rattle.matchit.specs.Rows.{RowsOf}
use Rattle.matchit.specs.Route.{Scan}
use Rattle.matchit.specs.Router.{RouteOf, InsertsRead}
use Rattle.matchit.specs.declared.error.InsertError.{InsertError}
use Rattle.mr_web.specs.Routes.{put_route}
use Rattle.mr_web.specs.declared.routes.Resource.{Resource}

-- what was inserted is put
pub inserts_put : (x : Result Scan InsertError) (v : Resource) (old new : RowsOf (RouteOf Resource)) (u : Unit {0})
    → InsertsRead x v old new (Ok u) → new ≡ put_route x v old
inserts_put (Ok s) v old new u h = h.1
inserts_put (Err e) v old new u h = h.0
