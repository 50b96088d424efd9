use Rattle.std.proofs.Common.{Some, rules, ap, sym, ◌∙◌}
use Rattle.mr_wire.specs.Fields.{slots_off}
use Rattle.mr_wire.proofs.LoopLaws.{slots_go_on, slots_end, slots_are_done}
use Rattle.mr_wire.proofs.fields.slots_off.Goals as goal

pub returns-in-None : goal.returns-in-None
returns-in-None c =
    slots_end c.loop.slots.items c.args.count c.loop.counter c.loop.rest.now (slots_off c.args.count c.args.text.now) c.loop-test.true (sym c.in-None.ensures.value) c.loop.invariant.total

pub loop-preserved : goal.loop-preserved
loop-preserved c =
    record {
      total = rw c.in_ok-push-in-Some.ensures.items (slots_go_on c.loop.slots.items c.args.count c.loop.counter c.loop.rest.now _ _
          (slots_off c.args.count c.args.text.now) c.loop-test.true (sym c.in-Some.ensures.value) c.loop.invariant.total);
      utf8 = search rules;
    }

pub returns : goal.returns
returns c =
    slots_are_done c.loop.slots.items c.args.count c.loop.counter c.loop.rest.now (slots_off c.args.count c.args.text.now) c.loop-test.false c.loop.invariant.total
    ∙ ap (λ ss. Some (ss, c.loop.rest.now)) (sym c.from_vec.ensures)
