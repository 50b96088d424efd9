use Rattle.std.proofs.Common.{◌+◌, ◌-◌, ap, ◌∙◌, map, arith}
use Rattle.std.proofs.lemmas.List.{map_push}
use Rattle.std.proofs.lemmas.Option.{MatchOption-at_some, MatchOption-at_none}
use Rattle.mr_service.specs.Asked.{words_of}
use Rattle.mr_tasks.specs.LineSteps.{cut_slots}
use Rattle.mr_tasks.proofs.CutSlots.{slots_begun, slots_more, slots_none, slots_all}
use Rattle.mr_tasks.proofs.words.Words.slots.Goals as goal

pub loop-i-init : goal.loop-i-init
loop-i-init c = slots_begun c.args.count (c.args.count - 0) c.args.self.now (map words_of c.new-slots.result.items) (ap (map words_of) c.new-slots.ensures.items) (omega arith)

pub returns-in-None : goal.returns-in-None
returns-in-None c =
    slots_none (c.args.count - c.loop-i.i) (c.args.count - (c.loop-i.i + 1)) c.loop-i.self (map words_of c.loop-i.slots.items) (cut_slots c.args.count c.args.self.now)
    (omega (arith, c.loop-i-test.true)) c.loop-i.invariant (MatchOption-at_none _ _ c.in-None.is c.in_ok-slot.ensures)

pub loop-i-preserved : goal.loop-i-preserved
loop-i-preserved c =
    slots_more (c.args.count - c.loop-i.i) (c.args.count - (c.loop-i.i + 1)) c.loop-i.self c.slot.new.self (words_of c.in-Some.slot) (map words_of c.loop-i.slots.items)
    (map words_of c.push.new.self.items) (cut_slots c.args.count c.args.self.now)
    (omega (arith, c.loop-i-test.true)) c.loop-i.invariant (MatchOption-at_some _ _ _ c.in-Some.is c.in_ok-slot.ensures)
    (ap (map words_of) c.in_ok-push-in-Some.ensures.items ∙ map_push words_of c.loop-i.slots.items c.in-Some.slot)

pub returns : goal.returns
returns c =
    slots_all (c.args.count - c.loop-i.i) c.loop-i.self (map words_of c.loop-i.slots.items) (cut_slots c.args.count c.args.self.now)
    (omega (arith, c.loop-i-test.false)) c.loop-i.invariant
