use Rattle.std.proofs.Common.{◌≡◌, sym, ap, subst, ◌∙◌, ◌+◌, ◌≤◌, [], ◌∷◌, ◌++◌, map, take, length, vec_len, vec_capacity, arith}
use Rattle.std.proofs.lemmas.List.{length-map, map_more, map_push, take_all}
use Rattle.mr_model.specs.Serving.{TakesRun}
use Rattle.mr_model.proofs.ServedTables.{takes_run_serves}
use Rattle.mr_service.specs.Asked.{command_seen, reply_of}
use Rattle.mr_service.specs.Replied.{RepliesToAll}
use Rattle.mr_service.proofs.RunsGrow as runs
use Rattle.mr_service.proofs.runs.run.Goals as goal

pub loop-command-init : goal.loop-command-init
loop-command-init g c =
    let n : vec_len c.in-Ok.replies ≡ 0 = c.in-Ok.ensures.len in
    let m : length c.args.commands.now ≤ vec_capacity c.in-Ok.replies = omega (arith, c.in-Ok.ensures.capacity) in (
      rw c.in-Ok.ensures.items (runs.under_way (g.K.Keeper.is_clean c.args.service.now) (g.K.Keeper.is_open c.args.service.now) g.K.Keeper.never_fails
          (g.K.Keeper.tables c.args.service.now) (g.K.Keeper.failures c.args.service.now)),
      n,
      m,
    )

pub loop-command-preserved : goal.loop-command-preserved
loop-command-preserved g c =
    let more : map command_seen (take (c.loop-command.command-index + 1) c.args.commands.now)
    ≡ map command_seen (take c.loop-command.command-index c.args.commands.now) ++ command_seen c.command-item.result ∷ [] =
    map_more command_seen c.args.commands.now c.loop-command.command-index c.command-item.result c.loop-command-test.true
    ∙ ap (λ x. map command_seen (take c.loop-command.command-index c.args.commands.now) ++ command_seen x ∷ []) (sym c.command-item.is) in
    let told : map reply_of c.put.new.list.items ≡ map reply_of c.loop-command.replies.items ++ reply_of c.ask-reply.result ∷ [] =
    ap (λ rs. map reply_of rs) c.put.ensures.items ∙ map_push reply_of c.loop-command.replies.items c.ask-reply.result in
    let n : vec_len c.put.new.list ≡ c.loop-command.command-index + 1 = c.put.ensures.len ∙ ap (λ k. k + 1) c.loop-command.invariant.1 in
    let before : length c.args.commands.now ≤ vec_capacity c.loop-command.replies = c.loop-command.invariant.2 in
    let kept : vec_capacity c.loop-command.replies ≤ vec_capacity c.put.new.list = c.put.ensures.capacity in
    let m : length c.args.commands.now ≤ vec_capacity c.put.new.list = omega arith in (
      rw (more, told) (runs.under_way_grows
          (g.K.Keeper.is_clean c.args.service.now) (g.K.Keeper.is_clean c.loop-command.service) (g.K.Keeper.is_clean c.ask-reply.new.self)
          (g.K.Keeper.is_open c.args.service.now) (g.K.Keeper.is_open c.loop-command.service) (g.K.Keeper.is_open c.ask-reply.new.self) g.K.Keeper.never_fails
          (g.K.Keeper.tables c.args.service.now) (g.K.Keeper.tables c.loop-command.service) (g.K.Keeper.tables c.ask-reply.new.self)
          (g.K.Keeper.failures c.args.service.now) (g.K.Keeper.failures c.loop-command.service) (g.K.Keeper.failures c.ask-reply.new.self)
          (map command_seen (take c.loop-command.command-index c.args.commands.now)) (map reply_of c.loop-command.replies.items)
          (command_seen c.command-item.result) (reply_of c.ask-reply.result)
          c.loop-command.invariant.0 c.ask-reply.ensures.clean c.ask-reply.ensures.open c.ask-reply.ensures.step c.ask-reply.ensures.counts c.ask-reply.ensures.sure
          c.ask-reply.ensures.replied c.ask-reply.ensures.lasts),
      n,
      m,
    )

pub returns-clause-serves : goal.returns-clause-serves
returns-clause-serves g c = λ k o.
    let all : take c.loop-command.command-index c.args.commands.now ≡ c.args.commands.now = take_all c.loop-command.command-index c.args.commands.now c.loop-command-test.false in
    let run : TakesRun (g.K.Keeper.tables c.args.service.now) (map command_seen c.args.commands.now) (map reply_of c.loop-command.replies.items) (g.K.Keeper.tables c.loop-command.service) =
    subst (λ cs. TakesRun (g.K.Keeper.tables c.args.service.now) (map command_seen cs) (map reply_of c.loop-command.replies.items) (g.K.Keeper.tables c.loop-command.service)) all
    (c.loop-command.invariant.0.takes k o) in
    takes_run_serves (g.K.Keeper.tables c.args.service.now) (g.K.Keeper.tables c.loop-command.service) (map command_seen c.args.commands.now) (map reply_of c.loop-command.replies.items) run

pub returns-clause-each : goal.returns-clause-each
returns-clause-each g c =
    let all : take c.loop-command.command-index c.args.commands.now ≡ c.args.commands.now = take_all c.loop-command.command-index c.args.commands.now c.loop-command-test.false in
    sym (length-map c.loop-command.replies.items reply_of)
    ∙ c.loop-command.invariant.0.each
    ∙ length-map (take c.loop-command.command-index c.args.commands.now) command_seen
    ∙ ap length all

pub returns-clause-replied : goal.returns-clause-replied
returns-clause-replied g c = λ k o.
    let all : take c.loop-command.command-index c.args.commands.now ≡ c.args.commands.now = take_all c.loop-command.command-index c.args.commands.now c.loop-command-test.false in
    subst (λ cs. RepliesToAll (g.K.Keeper.tables c.args.service.now) (map command_seen cs) (map reply_of c.loop-command.replies.items)) all
    (c.loop-command.invariant.0.replied k o)
