use Rattle.std.proofs.Common.{◌≡◌, subst}
use Rattle.sqlite.specs.Held.{state}
use Rattle.sqlite.specs.State.{HasCleanDisk}
use Rattle.mr_sql.specs.Opened.{IsOfOpening, RefusesToResume}
use Rattle.mr_sql.proofs.files.take_copy.Goals as goal

pub returns-in-Err-clause-cause : goal.returns-in-Err-clause-cause
returns-in-Err-clause-cause g c r is =
    let same : c.in-Err.refusal ≡ r = cc in
    subst IsOfOpening same c.in-Err.ensures.cause

pub returns-in-Err-clause-refused : goal.returns-in-Err-clause-refused
returns-in-Err-clause-refused g c r is =
    let same : c.in-Err.refusal ≡ r = cc in
    let old = state g.S.Store c.args.conn in
    let new = state g.S.Store c.in-Err.conn in
    subst (λ e. HasCleanDisk new → HasCleanDisk old × RefusesToResume old.now.trees e new) same c.in-Err.ensures.refused

pub returns-then-is_first-clause-refused : goal.returns-then-is_first-clause-refused
returns-then-is_first-clause-refused g c r is = absurd (let never = is in cc)

pub returns-in-Err-clause-first : goal.returns-in-Err-clause-first
returns-in-Err-clause-first g c is = absurd (let never = is in cc)
