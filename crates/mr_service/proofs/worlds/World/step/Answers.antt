use Rattle.std.proofs.Common.{◌≡◌, sym, ap, subst, map}
use Rattle.mr_model.specs.World as model
use Rattle.mr_service.specs.Asked.{local_of}
use Rattle.mr_service.specs.Stepping.{step_of, step_reply_of}
use Rattle.mr_service.specs.Worlds.{WorldView, TakesWorldStep}
use Rattle.mr_service.proofs.worlds.World.step.Goals as goal

pub returns-in-Add : goal.returns-in-Add
returns-in-Add c =
    let pool = map (λ bytes. bytes.items) c.self.inside.pool.items in
    let after : WorldView = record { members = c.add.new.members.items; pool = pool } in
    let is : step_of c.args.step.now ≡ model.Add c.in-Add.server = ap step_of c.in-Add.is in
    subst (λ v. TakesWorldStep v (step_of c.args.step.now) (step_reply_of c.add.result) after) c.self.view_is
    (subst (λ s. TakesWorldStep (record { members = c.self.inside.members.items; pool = pool }) s (step_reply_of c.add.result) after) (sym is) (c.add.ensures pool))

pub returns-in-Do : goal.returns-in-Do
returns-in-Do c =
    let pool = map (λ bytes. bytes.items) c.self.inside.pool.items in
    let after : WorldView = record { members = c.ask.new.members.items; pool = pool } in
    let is : step_of c.args.step.now ≡ model.Step.Do c.in-Do.server (local_of c.in-Do.command) = ap step_of c.in-Do.is in
    subst (λ v. TakesWorldStep v (step_of c.args.step.now) (step_reply_of c.ask.result) after) c.self.view_is
    (subst (λ s. TakesWorldStep (record { members = c.self.inside.members.items; pool = pool }) s (step_reply_of c.ask.result) after) (sym is) (c.ask.ensures pool))
