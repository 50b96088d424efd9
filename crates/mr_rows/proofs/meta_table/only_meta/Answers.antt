use Rattle.mr_rows.proofs.meta_table.only_meta.Goals as goal

pub returns-in-empty-clause-refused : goal.returns-in-empty-clause-refused
returns-in-empty-clause-refused c = tt
