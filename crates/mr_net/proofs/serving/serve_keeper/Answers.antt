use Rattle.mr_net.proofs.ServingLaws.{ends_serving, served_as}
use Rattle.mr_net.proofs.serving.serve_keeper.Goals as goal

pub returns-clause-serves : goal.returns-clause-serves
returns-clause-serves g c =
    served_as _ c.remembered-service.result c.serve_at-status.new.service c.args.keeper c.released.result c.args.port c.args.connections (g.W.Write.contents c.args.out.now)
    (g.W.Write.contents c.serve_at-status.new.out) c.serve_at-status.result c.remembered-service.ensures c.released.ensures c.serve_at-status.ensures

pub returns-clause-ends : goal.returns-clause-ends
returns-clause-ends g c =
    ends_serving _ c.remembered-service.result c.serve_at-status.new.service c.args.port c.args.connections (g.W.Write.contents c.args.out.now) (g.W.Write.contents c.serve_at-status.new.out)
    c.serve_at-status.result c.serve_at-status.ensures
