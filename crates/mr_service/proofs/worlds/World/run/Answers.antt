use Rattle.std.proofs.Common.{◌≡◌, sym, ap, subst, ◌∙◌, ◌+◌, ◌≤◌, [], ◌∷◌, ◌++◌, map, take, length, vec_len, vec_capacity, arith}
use Rattle.std.proofs.lemmas.List.{map_more, map_push, take_all}
use Rattle.mr_model.specs.Honest.{IsWorldRun, ended}
use Rattle.mr_service.specs.Stepping.{step_of, step_reply_of}
use Rattle.mr_service.proofs.WorldRuns.{world_run_grows}
use Rattle.mr_service.proofs.LawfulRuns.{run_is_lawful}
use Rattle.mr_service.proofs.worlds.World.run.Goals as goal

pub loop-step-init : goal.loop-step-init
loop-step-init c =
    let n : vec_len c.in-Ok.replies ≡ 0 = c.in-Ok.ensures.len in
    let m : length c.args.steps.now ≤ vec_capacity c.in-Ok.replies = omega (arith, c.in-Ok.ensures.capacity) in
    (λ w stands. (w, subst (λ rs. IsWorldRun w [] (map step_reply_of rs) w) (sym c.in-Ok.ensures.items) ended, stands), n, m)

pub loop-step-preserved : goal.loop-step-preserved
loop-step-preserved c =
    let more : map step_of (take (c.loop-step.step-index + 1) c.args.steps.now) ≡ map step_of (take c.loop-step.step-index c.args.steps.now) ++ step_of c.step-item.result ∷ [] =
    map_more step_of c.args.steps.now c.loop-step.step-index c.step-item.result c.loop-step-test.true
    ∙ ap (λ x. map step_of (take c.loop-step.step-index c.args.steps.now) ++ step_of x ∷ []) (sym c.step-item.is) in
    let said : map step_reply_of c.put.new.list.items ≡ map step_reply_of c.loop-step.replies.items ++ step_reply_of c.step-reply.result ∷ [] =
    ap (λ rs. map step_reply_of rs) c.put.ensures.items ∙ map_push step_reply_of c.loop-step.replies.items c.step-reply.result in
    let n : vec_len c.put.new.list ≡ c.loop-step.step-index + 1 = c.put.ensures.len ∙ ap (λ k. k + 1) c.loop-step.invariant.1 in
    let before : length c.args.steps.now ≤ vec_capacity c.loop-step.replies = c.loop-step.invariant.2 in
    let kept : vec_capacity c.loop-step.replies ≤ vec_capacity c.put.new.list = c.put.ensures.capacity in
    let m : length c.args.steps.now ≤ vec_capacity c.put.new.list = omega arith in (
      λ w stands.
          let (middle, run, there) = c.loop-step.invariant.0 w stands in
          let (end, st, after) = c.step-reply.ensures middle there in
          (end, rw (more, said) (world_run_grows (step_of c.step-item.result) (step_reply_of c.step-reply.result) run st), after),
      n,
      m,
    )

pub returns-clause-lawful : goal.returns-clause-lawful
returns-clause-lawful c = λ w h stands.
    let all : take c.loop-step.step-index c.args.steps.now ≡ c.args.steps.now = take_all c.loop-step.step-index c.args.steps.now c.loop-step-test.false in
    let (end, run, there) = c.loop-step.invariant.0 w stands in
    let whole : IsWorldRun w (map step_of c.args.steps.now) (map step_reply_of c.loop-step.replies.items) end =
    subst (λ ss. IsWorldRun w (map step_of ss) (map step_reply_of c.loop-step.replies.items) end) all run in
    (end, run_is_lawful w end (map step_of c.args.steps.now) (map step_reply_of c.loop-step.replies.items) h whole, there)
