use Rattle.std.proofs.Common.{◌≡◌, ◌∙◌, ◌-◌, min, ap, sym, subst, length, drop}
use Rattle.std.proofs.lemmas.Result.{err_from_is_err_and}
use Rattle.std.specs.Prelude.{IfErr}
use Rattle.mr_base.specs.declared.refusals.Refusal.TheVariants.{OutOfMemory}
use Rattle.mr_tables.specs.declared.summary.Summary.{Summary}
use Rattle.mr_part.proofs.SharedLogs.{above_seen}
use Rattle.mr_part.proofs.part.Part.over_log.Goals as goal

pub returns-in_err-summary-clause-only : goal.returns-in_err-summary-clause-only
returns-in_err-summary-clause-only c = λ a h e.
    let p = err_from_is_err_and c.from_residual.result c.from_residual.ensures.1 in
    subst (λ r. IfErr r (λ e. e ≡ OutOfMemory)) (sym p.1) (p.2 ∙ c.in_err-summary.ensures.only a h e)

pub returns-clause-part : goal.returns-clause-part
returns-clause-part c = λ a h e log.
    let commits = c.args.commits in
    let (numbers, rooms) = c.in_ok-summary.ensures.rows a h e in
    let first : c.known_in-first.result ≡ min (commits - a.dropped) (length a.commits - a.dropped) = c.known_in-first.ensures
    ∙ ap (λ (s : Summary). min (commits - s.dropped) (s.commits - s.dropped)) numbers in
    let kept = c.behind.ensures ∙ ap (drop c.known_in-first.result) log ∙ above_seen a commits c.known_in-first.result h first in
    let board = c.all.ensures ∙ c.new.ensures.value in
    λ i. record { summary = numbers i; rooms = rooms i; kept = kept i; board = board i }
