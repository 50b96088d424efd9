use Rattle.std.proofs.Common.{true, false, Ok, Err, ap, sym, ◌∙◌, subst, inl}
use Rattle.std.proofs.lemmas.Bool.{true≢false}
use Rattle.std.proofs.lemmas.Result.{err_from_is_err_and}
use Rattle.mr_model.specs.Exchange.{C}
use Rattle.mr_model.specs.Taking.{with_new_commit}
use Rattle.mr_model.proofs.Orders.{commit_moved}
use Rattle.mr_part.specs.Taken.{TakesItem}
use Rattle.mr_part.proofs.Judging.{commit_judged}
use Rattle.mr_part.proofs.LearningKept.{move_found, shows-moved}
use Rattle.mr_part.proofs.batch.candidate.Candidate.take_commit.Goals as goal

pub returns-in_err-judge_commit-clause-takes : goal.returns-in_err-judge_commit-clause-takes
returns-in_err-judge_commit-clause-takes c = λ a items inside p sound named covers shows.
    let x = err_from_is_err_and c.from_residual.result c.from_residual.ensures.1 in
    let step = commit_judged c.args.line a items inside c.args.self.now c.args.seq c.args.id p
    (Err c.in_err-judge_commit.field-0.0) sound c.judge_commit.ensures.in_range named covers shows c.in_err-judge_commit.ensures.verdict in
    subst (λ r. TakesItem a inside c.args.line p (C c.args.seq c.args.id) r c.args.self.now) (sym (x.1 ∙ ap Err x.2)) (inl step)

pub returns-then-not-branch-clause-takes : goal.returns-then-not-branch-clause-takes
returns-then-not-branch-clause-takes c = λ a items inside p sound named covers shows.
    let verdict = ap Ok (sym c.if-not-branch.true) ∙ c.in_ok-judge_commit.ensures.verdict in
    (p, commit_judged c.args.line a items inside c.args.self.now c.args.seq c.args.id p (Ok false) sound c.judge_commit.ensures.in_range named covers shows verdict, shows)

-- a commit that is new finds its write
pub returns-then-not-add_commit-clause-takes : goal.returns-then-not-add_commit-clause-takes
returns-then-not-add_commit-clause-takes c = λ a items inside p sound named covers shows.
    let old = c.args.self.now in
    let id = c.args.id in
    let small = c.judge_commit.ensures.in_range in
    let verdict = ap Ok (sym c.if-not-branch.false) ∙ c.in_ok-judge_commit.ensures.verdict in
    let step = commit_judged c.args.line a items inside old c.args.seq id p (Ok true) sound small named covers shows verdict in
    let m = commit_moved p.replica id sound step.1 step.2 in
    let there = move_found a items inside old p c.args.seq id sound small step.1 step.2 named covers shows m in
    absurd (true≢false (sym there ∙ sym c.add_commit.ensures.found ∙ c.if-not-add_commit.true))

pub returns-clause-takes : goal.returns-clause-takes
returns-clause-takes c = λ a items inside p sound named covers shows.
    let old = c.args.self.now in
    let id = c.args.id in
    let small = c.judge_commit.ensures.in_range in
    let verdict = ap Ok (sym c.if-not-branch.false) ∙ c.in_ok-judge_commit.ensures.verdict in
    let step = commit_judged c.args.line a items inside old c.args.seq id p (Ok true) sound small named covers shows verdict in
    let m = commit_moved p.replica id sound step.1 step.2 in
    let e = c.add_commit.ensures in (
      with_new_commit p id,
      step.0,
      shows-moved a items inside old p c.args.seq id sound small step.1 step.2 named covers shows m c.add_commit.new.self e.summary e.rooms (e.kept c.if-not-add_commit.false),
    )
