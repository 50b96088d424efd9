use Rattle.std.proofs.Common.{rules, sym, subst}
use Rattle.std.proofs.lemmas.List.{map_push}
use Rattle.mr_base.specs.PositionCounts.{counts_of_pairs}
use Rattle.mr_wire.specs.LineAnswers.{GivesRead}
use Rattle.mr_wire.proofs.LoopLaws.{counts_at_end, counts_go_on, counts_end, counts_run_out}
use Rattle.mr_wire.proofs.positions.counts_in.Goals as goal

pub returns-then-eq : goal.returns-then-eq
returns-then-eq c =
    subst (λ o. GivesRead (λ v. counts_of_pairs v.items) c.if_last.result o)
    (counts_at_end (counts_of_pairs c.loop-line.counts.items) c.loop-line.rest.now c.in-Some.line.now c.in-Some.behind.now _ c.in-Some.ensures.value c.loop-line.invariant.total
    (sym c.if-eq.ensures)) c.if_last.ensures

pub returns-in-None : goal.returns-in-None
returns-in-None c = counts_end (counts_of_pairs c.loop-line.counts.items) c.loop-line.rest.now c.in-Some.line.now
    c.in-Some.behind.now _ c.in-Some.ensures.value c.loop-line.invariant.total (sym c.if-eq.ensures) (sym c.in-None.ensures)

pub loop-line-preserved : goal.loop-line-preserved
loop-line-preserved c = record {
  total = rw (c.in_ok-push-in-Some-count_in.ensures.items, map_push _ c.loop-line.counts.items c.in-Some-count_in.count)
      (counts_go_on (counts_of_pairs c.loop-line.counts.items) c.loop-line.rest.now c.in-Some.line.now c.in-Some.behind.now _ c.in-Some.ensures.value c.loop-line.invariant.total _
      (sym c.if-eq.ensures) (sym c.in-Some-count_in.ensures));
  utf8 = search rules;
}

pub returns : goal.returns
returns c = counts_run_out (counts_of_pairs c.loop-line.counts.items) c.loop-line.rest.now _ c.in_default.ensures.value c.loop-line.invariant.total
