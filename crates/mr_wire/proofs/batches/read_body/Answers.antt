use Rattle.std.proofs.Common.{map, Some, subst, ap, ◌∙◌, arith}
use Rattle.std.proofs.lemmas.List.{map_push}
use Rattle.mr_base.specs.Batches.{item_of, ending_seen}
use Rattle.mr_base.specs.Versions.{version_of}
use Rattle.mr_wire.specs.BatchAnswers.{GivesSeen, body_seen}
use Rattle.mr_wire.specs.Lines.{line_seen}
use Rattle.mr_wire.proofs.LoopLaws.{body_goes_on, body_ends, body_refused, body_is_done}
use Rattle.mr_wire.proofs.batches.read_body.Goals as goal

pub returns-in-Ok-Last : goal.returns-in-Ok-Last
returns-in-Ok-Last c =
    let ends = body_ends (version_of c.args.version) (map item_of c.loop-line.items.items) c.loop-line.before c.loop-line.rest.now c.in-Some.line.now c.in-Some.behind.now _
    c.in-Some.ensures.value c.loop-line.invariant.total (ending_seen c.in-Ok-Last.ending) (c.in-Ok-Last.ensures ∙ ap (λ l. Some (line_seen l)) c.in-Ok-Last.field-0-is) in
    subst (λ exact. GivesSeen (λ x. body_seen x.0.items x.1) c.end_body.result exact) ends c.end_body.ensures

pub returns-in-Err : goal.returns-in-Err
returns-in-Err c = rw c.refuse.ensures (body_refused (version_of c.args.version) (map item_of c.loop-line.items.items) c.loop-line.before
    c.loop-line.rest.now c.in-Some.line.now c.in-Some.behind.now _ c.in-Some.ensures.value c.loop-line.invariant.total c.in-Err.fault c.in-Err.ensures)

pub loop-line-preserved : goal.loop-line-preserved
loop-line-preserved c = record {
  total = rw (c.in_ok-push-in-Ok-Item.ensures.items, map_push item_of c.loop-line.items.items c.in-Ok-Item.item)
      (body_goes_on (version_of c.args.version) (map item_of c.loop-line.items.items) c.loop-line.before c.loop-line.rest.now c.in-Some.line.now c.in-Some.behind.now _
      c.in-Some.ensures.value c.loop-line.invariant.total (item_of c.in-Ok-Item.item) (c.in-Ok-Item.ensures ∙ ap (λ l. Some (line_seen l)) c.in-Ok-Item.field-0-is));
  place = omega (arith, c.in-Some.ensures.shorter, c.loop-line.invariant.place);
}

pub returns : goal.returns
returns c = body_is_done (version_of c.args.version) (map item_of c.loop-line.items.items) _ c.loop-line.rest.now _ c.in_default.ensures.value c.loop-line.invariant.total
