use Rattle.std.proofs.Common.{rules}
use Rattle.mr_rows.proofs.StepLemmas.{none_commits}
use Rattle.mr_rows.proofs.changes.apply.Goals as goal

pub returns-in_err-put_heads-clause-applied : goal.returns-in_err-put_heads-clause-applied
returns-in_err-put_heads-clause-applied g c =
    let survives = none_commits _ _ _ c.make_rows.ensures.survives c.put_heads.ensures.survives in
    search rules

pub returns-in_err-put_heads-clause-survives : goal.returns-in_err-put_heads-clause-survives
returns-in_err-put_heads-clause-survives g c =
    let survives = none_commits _ _ _ c.make_rows.ensures.survives c.put_heads.ensures.survives in
    search rules

pub returns-clause-applied : goal.returns-clause-applied
returns-clause-applied g c =
    let survives = none_commits _ _ _ c.make_rows.ensures.survives c.put_heads.ensures.survives in
    search rules

pub returns-clause-survives : goal.returns-clause-survives
returns-clause-survives g c =
    let survives = none_commits _ _ _ c.make_rows.ensures.survives c.put_heads.ensures.survives in
    search rules
