use Rattle.std.proofs.Common.{ℕ, List, sym, subst, ◌∙◌, map, take, flat_map, add-one, arith}
use Rattle.std.proofs.KnownBytes.{Appends-nil, Appends-trans}
use Rattle.std.specs.Io.KnownBytes.{Appends}
use Rattle.mr_service.specs.Stepping.{step_reply_of}
use Rattle.mr_tasks.specs.Rehearsed.{step_reply_text}
use Rattle.mr_tasks.proofs.RunLaws.{prints_more, prints_all}
use Rattle.mr_tasks.proofs.run.print_all.Goals as goal

pub loop-reply-init : goal.loop-reply-init
loop-reply-init g c = Appends-nil (g.W.Write.contents c.args.out.now)

pub returns-in_default-clause-stopped : goal.returns-in_default-clause-stopped
returns-in_default-clause-stopped g c = λ refused. (
  c.loop-reply.reply-index,
  Appends-trans (g.W.Write.contents c.args.out.now) (g.W.Write.contents c.loop-reply.out) (g.W.Write.contents c.say.new.out) _ _
      c.loop-reply.invariant (c.say.ensures.told (λ fault. omega (arith, refused, fault))),
)

pub loop-reply-preserved : goal.loop-reply-preserved
loop-reply-preserved g c =
    let prints : Appends (g.W.Write.contents c.loop-reply.out) (g.W.Write.contents c.write_all.new.self) (step_reply_text (step_reply_of c.reply-item.result)) =
    subst (λ (t : List ℕ). Appends (g.W.Write.contents c.loop-reply.out) (g.W.Write.contents c.write_all.new.self) t)
    (c.as_slice.ensures.value ∙ c.in-Ok.ensures.text) c.in-Ok-write_all.ensures.bytes in
    subst (λ i. Appends (g.W.Write.contents c.args.out.now) (g.W.Write.contents c.write_all.new.self) (flat_map step_reply_text (take i (map step_reply_of c.args.replies.now))))
    (sym (add-one c.loop-reply.reply-index))
    (prints_more (g.W.Write.contents c.args.out.now) (g.W.Write.contents c.loop-reply.out) (g.W.Write.contents c.write_all.new.self) c.args.replies.now c.loop-reply.reply-index
    c.reply-item.result c.loop-reply-test.true c.reply-item.is c.loop-reply.invariant prints)

pub returns-clause-done : goal.returns-clause-done
returns-clause-done g c = λ _. prints_all (g.W.Write.contents c.args.out.now)
    (g.W.Write.contents c.loop-reply.out) c.args.replies.now c.loop-reply.reply-index c.loop-reply.invariant (let low = c.loop-reply-test.false in omega (arith, low))
