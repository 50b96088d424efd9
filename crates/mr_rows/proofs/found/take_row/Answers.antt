use Rattle.mr_rows.proofs.found.take_row.Goals as goal

pub returns-else-keep-clause-shown : goal.returns-else-keep-clause-shown
returns-else-keep-clause-shown g c = c.test_row.ensures.passes
