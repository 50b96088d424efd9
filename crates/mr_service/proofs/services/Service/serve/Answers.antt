use Rattle.std.proofs.Common.{sym, ap, subst, ◌∙◌}
use Rattle.mr_model.specs.Step.{Command, Receive}
use Rattle.mr_model.specs.Replies.{Reply}
use Rattle.mr_service.specs.Asked.{command_seen, local_of, reply_of}
use Rattle.mr_service.specs.Served.{IsServed}
use Rattle.mr_service.proofs.services.Service.serve.Goals as goal

pub returns-in-Local-clause-served : goal.returns-in-Local-clause-served
returns-in-Local-clause-served g c =
    subst (λ k. IsServed g.K.Keeper k c.ask_local.new.keeper (command_seen c.args.command.now) (reply_of c.said.result)) c.self.view_is
    (subst (λ (l : Command). IsServed g.K.Keeper c.self.inside.keeper c.ask_local.new.keeper l (reply_of c.said.result)) (ap command_seen (sym c.in-Local.is))
    (subst (λ (r : Reply). IsServed g.K.Keeper c.self.inside.keeper c.ask_local.new.keeper (local_of c.in-Local.local) r) (sym c.said.ensures) c.ask_local.ensures.served))

pub returns-in-Receive-clause-served : goal.returns-in-Receive-clause-served
returns-in-Receive-clause-served g c =
    subst (λ k. IsServed g.K.Keeper k c.receive.new.keeper (command_seen c.args.command.now) (reply_of c.said-in-Receive.result)) c.self.view_is
    (subst (λ (l : Command). IsServed g.K.Keeper c.self.inside.keeper c.receive.new.keeper l (reply_of c.said-in-Receive.result))
    (ap Receive c.as_slice.ensures.value ∙ ap command_seen (sym c.in-Receive.is))
    (subst (λ (r : Reply). IsServed g.K.Keeper c.self.inside.keeper c.receive.new.keeper (Receive c.as_slice.result.now) r) (sym c.said-in-Receive.ensures) c.receive.ensures.served))
