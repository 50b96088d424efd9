use Rattle.std.proofs.Common.{refl, sym, ap, subst, ◌∙◌, ℕ, ◌+◌, ◌==◌, ◌++◌, ◌∷◌, [], List, map, rules, tests}
use Rattle.std.proofs.lemmas.List.{map_push}
use Rattle.std.proofs.lemmas.Iterator.Consumers.{YieldsList-from_enumerate, YieldsList-at}
use Rattle.std.proofs.lemmas.Iterator.Splits.{YieldsList-from_slice_split}
use Rattle.mr_service.specs.Stepping.{step_of}
use Rattle.mr_tasks.specs.ScriptRead.{IsLineAs}
use Rattle.mr_tasks.specs.RehearsalScript.{script_lines, AreStepsOf, begun}
use Rattle.mr_tasks.proofs.ScriptLaws.{numbered, texts_of, passes_over, takes_step, ends_at_bad, texts_more, line_turn, lines_end}
use Rattle.mr_tasks.proofs.script.read_script.Goals as goal

pub loop-index-init : goal.loop-index-init
loop-index-init c = subst (λ items. AreStepsOf [] (map step_of items)) (sym c.new-steps.ensures.items) begun

pub loop-index-preserved-in-PassedOver : goal.loop-index-preserved-in-PassedOver
loop-index-preserved-in-PassedOver c =
    subst (λ (ls : List (List ℕ)). AreStepsOf ls (map step_of c.loop-index.steps.items)) (sym (texts_more c.loop-index.yielded (c.in-Some.index, c.in-Some.line)))
    (passes_over (texts_of (numbered c.loop-index.yielded)) (map step_of c.loop-index.steps.items) c.in-Some.line.now c.loop-index.invariant
    (subst (IsLineAs c.in-Some.line.now) c.in-PassedOver.is c.in_ok-line_of.ensures))

pub loop-index-preserved : goal.loop-index-preserved
loop-index-preserved c =
    let stands = subst (IsLineAs c.in-Some.line.now) c.in-Step.is c.in_ok-line_of.ensures in
    let way = takes_step (texts_of (numbered c.loop-index.yielded)) (map step_of c.loop-index.steps.items) c.in-Some.line.now (step_of c.in-Step.step) c.loop-index.invariant stands in
    let steps = ap (map step_of) c.in_ok-push-in-Step.ensures.items ∙ map_push step_of c.loop-index.steps.items c.in-Step.step in
    subst (λ (ls : List (List ℕ)). AreStepsOf ls (map step_of c.push.new.self.items)) (sym (texts_more c.loop-index.yielded (c.in-Some.index, c.in-Some.line)))
    (subst (λ ss. AreStepsOf (texts_of (numbered c.loop-index.yielded) ++ c.in-Some.line.now ∷ []) ss) (sym steps) way)

pub returns-in-Bad : goal.returns-in-Bad
returns-in-Bad c =
    let at = line_turn (script_lines c.args.bytes.now)
    (YieldsList-at c.into_iter-index-iterator.ensures.into_iter_gives
    (YieldsList-from_enumerate (YieldsList-at c.enumerate-index-items.ensures.source
    (YieldsList-from_slice_split _ (λ b. b == 10) c.args.bytes.now c.split.ensures.rest c.split.ensures.done c.split.ensures.closure (λ x r q k. search (rules, tests))))
    c.enumerate-index-items.ensures.count))
    c.loop-index.yielded _ c.loop-index.yielded_by _ _ (c.in-Some.index, c.in-Some.line) c.in-Some.is c.next.ensures.steps in
    ends_at_bad (script_lines c.args.bytes.now) (texts_of (numbered c.loop-index.yielded)) (map step_of c.loop-index.steps.items) c.in-Some.line.now
    c.in-Some.index (c.in-Some.index + 1) c.loop-index.invariant (subst (IsLineAs c.in-Some.line.now) c.in-Bad.is c.in_ok-line_of.ensures) at refl

pub returns : goal.returns
returns c =
    let all = lines_end (script_lines c.args.bytes.now)
    (YieldsList-at c.into_iter-index-iterator.ensures.into_iter_gives
    (YieldsList-from_enumerate (YieldsList-at c.enumerate-index-items.ensures.source
    (YieldsList-from_slice_split _ (λ b. b == 10) c.args.bytes.now c.split.ensures.rest c.split.ensures.done c.split.ensures.closure (λ x r q k. search (rules, tests))))
    c.enumerate-index-items.ensures.count))
    c.loop-index.yielded _ c.loop-index.yielded_by _ _ c.in-None.is c.next.ensures.steps in
    subst (λ (ls : List (List ℕ)). AreStepsOf ls (map step_of c.loop-index.steps.items)) all c.loop-index.invariant
