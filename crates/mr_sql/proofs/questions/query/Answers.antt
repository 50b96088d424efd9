use Rattle.std.proofs.Common.{◌≡◌, true, ◌∙◌, ap, Err}
use Rattle.std.proofs.lemmas.Result.{err_from_is_err_and}
use Rattle.sqlite.specs.Held.{state}
use Rattle.mr_store.specs.Answers.{IsAnswerTo}
use Rattle.mr_rows.specs.Database.{tables_in}
use Rattle.mr_sql.specs.Numbers.{do_numbers_agree}
use Rattle.mr_sql.proofs.QuestionLemmas.{asked_with}
use Rattle.mr_sql.proofs.FailedReads.{alone_then, same_alone}
use Rattle.mr_rows.proofs.CauseLemmas.{same_reads}
use Rattle.mr_rows.specs.Database.{IsKept}
use Rattle.mr_sql.proofs.questions.query.Goals as goal

pub returns-in_err-check_numbers-clause-reads : goal.returns-in_err-check_numbers-clause-reads
returns-in_err-check_numbers-clause-reads g c =
    let p = err_from_is_err_and c.from_residual.result c.from_residual.ensures.1 in
    same_reads IsKept (state g.S.Store c.args.conn.now) (state g.S.Store c.check_numbers.new.conn) c.check_numbers.result
    _ c.from_residual.result _ c.in_err-check_numbers.field-0.0 (p.1 ∙ ap Err p.2) c.check_numbers.ensures.reads

pub returns-clause-reads : goal.returns-clause-reads
returns-clause-reads g c =
    (asked_with (state g.S.Store c.args.conn.now) (state g.S.Store c.check_numbers.new.conn) (state g.S.Store c.answer.new.conn) tt
    (do_numbers_agree (tables_in (state g.S.Store c.args.conn.now).now.trees) ≡ true) c.answer.result
    (λ db answer. IsAnswerTo c.args.question.now (tables_in db.trees) answer) c.in_ok-check_numbers.ensures.reads c.answer.ensures.reads).0

pub returns-clause-numbers : goal.returns-clause-numbers
returns-clause-numbers g c =
    (asked_with (state g.S.Store c.args.conn.now) (state g.S.Store c.check_numbers.new.conn) (state g.S.Store c.answer.new.conn) tt
    (do_numbers_agree (tables_in (state g.S.Store c.args.conn.now).now.trees) ≡ true) c.answer.result
    (λ db answer. IsAnswerTo c.args.question.now (tables_in db.trees) answer) c.in_ok-check_numbers.ensures.reads c.answer.ensures.reads).1

pub returns-in_err-check_numbers-clause-failed : goal.returns-in_err-check_numbers-clause-failed
returns-in_err-check_numbers-clause-failed g c =
    let p = err_from_is_err_and c.from_residual.result c.from_residual.ensures.1 in
    same_alone (state g.S.Store c.args.conn.now) (state g.S.Store c.check_numbers.new.conn) c.check_numbers.result c.from_residual.result
    c.in_err-check_numbers.field-0.0 c.in_err-check_numbers.was (p.1 ∙ ap Err p.2) c.check_numbers.ensures.failed

pub returns-clause-failed : goal.returns-clause-failed
returns-clause-failed g c =
    let a = state g.S.Store c.args.conn.now in
    alone_then {X = Unit {0}} a (state g.S.Store c.check_numbers.new.conn) (state g.S.Store c.answer.new.conn) tt
    (λ _. do_numbers_agree (tables_in a.now.trees) ≡ true) c.answer.result c.in_ok-check_numbers.ensures.reads c.answer.ensures.reads.0 c.answer.ensures.failed
