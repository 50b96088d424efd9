use Rattle.std.proofs.Common.{◌<◌, ◌+◌, arith, true, false, Ok, Err, ap, sym, ◌∙◌, subst, inl, inr}
use Rattle.std.proofs.lemmas.Result.{err_from_is_err_and}
use Rattle.mr_model.specs.Exchange.{W}
use Rattle.mr_model.specs.Taking.{with_new_write}
use Rattle.mr_part.specs.Taken.{TakesItem}
use Rattle.mr_part.proofs.Judging.{small_server, write_judged}
use Rattle.mr_part.proofs.LearningKept.{shows-learned}
use Rattle.mr_part.proofs.batch.candidate.Candidate.take_write.Goals as goal

pub returns-in_err-judge_write-clause-takes : goal.returns-in_err-judge_write-clause-takes
returns-in_err-judge_write-clause-takes c = λ a items inside p sound named covers shows.
    let x = err_from_is_err_and c.from_residual.result c.from_residual.ensures.1 in
    let step = write_judged c.args.line a items inside c.args.self.now c.args.write.now p
    (Err c.in_err-judge_write.field-0.0) sound c.is_within_limits.ensures named covers shows c.in_err-judge_write.ensures.verdict in
    subst (λ r. TakesItem a inside c.args.line p (W c.args.write.now) r c.args.self.now) (sym (x.1 ∙ ap Err x.2)) (inl step)

pub returns-then-not-branch-clause-takes : goal.returns-then-not-branch-clause-takes
returns-then-not-branch-clause-takes c = λ a items inside p sound named covers shows.
    let verdict = ap Ok (sym c.if-not-branch.true) ∙ c.in_ok-judge_write.ensures.verdict in
    (p, write_judged c.args.line a items inside c.args.self.now c.args.write.now p (Ok false) sound c.is_within_limits.ensures named covers shows verdict, shows)

pub returns-in_err-add_write-clause-takes : goal.returns-in_err-add_write-clause-takes
returns-in_err-add_write-clause-takes c = λ a items inside p sound named covers shows.
    let x = err_from_is_err_and c.from_residual-in_err-add_write.result c.from_residual-in_err-add_write.ensures.1 in
    let w = c.args.write.now in
    let verdict = ap Ok (sym c.if-not-branch.false) ∙ c.in_ok-judge_write.ensures.verdict in
    let step = write_judged c.args.line a items inside c.args.self.now w p (Ok true) sound c.is_within_limits.ensures named covers shows verdict in
    let one : p.writes < p.writes + 1 = omega arith in
    subst (λ r. TakesItem a inside c.args.line p (W w) r c.add_write.new.self) (sym (x.1 ∙ ap Err x.2)) (inr (c.in_err-add_write.ensures.only, (with_new_write p w, step.0, one)))

pub returns-clause-takes : goal.returns-clause-takes
returns-clause-takes c = λ a items inside p sound named covers shows.
    let w = c.args.write.now in
    let good = c.is_within_limits.ensures in
    let verdict = ap Ok (sym c.if-not-branch.false) ∙ c.in_ok-judge_write.ensures.verdict in
    let step = write_judged c.args.line a items inside c.args.self.now w p (Ok true) sound good named covers shows verdict in
    let e = c.in_ok-add_write.ensures in
    (with_new_write p w, step.0, shows-learned a items inside c.args.self.now c.add_write.new.self p w sound (small_server w good) step.1 named covers shows e.summary e.rooms e.kept)
