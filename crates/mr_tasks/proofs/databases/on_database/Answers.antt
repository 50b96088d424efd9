use Rattle.std.proofs.Common.{inl}
use Rattle.mr_tasks.proofs.databases.on_database.Goals as goal

pub returns-then-only_reads : goal.returns-then-only_reads
returns-then-only_reads g c = inl c.on_copy.ensures
