use Rattle.std.proofs.Common.{◌∙◌, ap, codes}
use Rattle.matchit.specs.Route.{parse_route}
use Rattle.mr_web.specs.Routes.{put_route, route_table}
use Rattle.mr_web.specs.declared.routes.Resource.TheVariants as at
use Rattle.mr_web.proofs.RouteInserts.{inserts_put}
use Rattle.mr_web.proofs.routes.add_routes.Goals as goal

pub returns : goal.returns
unfolding route_table
returns c =
    let one = inserts_put (parse_route (codes "/submit")) at.Submissions _ _ _ c.in_ok-insert.ensures in
    let two = inserts_put (parse_route (codes "/cancel")) at.Cancellations _ _ _ c.in_ok-insert-2.ensures in
    let three = inserts_put (parse_route (codes "/rooms/{room}/days/{day}")) at.Day _ _ _ c.in_ok-insert-3.ensures in
    let four = inserts_put (parse_route (codes "/rooms/{room}/requests/{id}")) at.Request _ _ _ c.in_ok-insert-4.ensures in
    let five = inserts_put (parse_route (codes "/rooms/{room}/errors")) at.ErrorLog _ _ _ c.in_ok-insert-5.ensures in
    let six = inserts_put (parse_route (codes "/position")) at.Position _ _ _ c.in_ok-insert-6.ensures in
    let seven = inserts_put (parse_route (codes "/pull")) at.Pull _ _ _ c.in_ok-insert-7.ensures in
    let eight = inserts_put (parse_route (codes "/push")) at.Push _ _ _ c.in_ok-insert-8.ensures in
    let to_two = two ∙ ap (put_route (parse_route (codes "/cancel")) at.Cancellations)
    (one ∙ ap (put_route (parse_route (codes "/submit")) at.Submissions) c.requires) in
    let to_four = four ∙ ap (put_route (parse_route (codes "/rooms/{room}/requests/{id}")) at.Request)
    (three ∙ ap (put_route (parse_route (codes "/rooms/{room}/days/{day}")) at.Day) to_two) in
    let to_six = six ∙ ap (put_route (parse_route (codes "/position")) at.Position)
    (five ∙ ap (put_route (parse_route (codes "/rooms/{room}/errors")) at.ErrorLog) to_four) in
    eight ∙ ap (put_route (parse_route (codes "/push")) at.Push)
    (seven ∙ ap (put_route (parse_route (codes "/pull")) at.Pull) to_six)
