use Rattle.std.proofs.Common.{◌∙◌, refl, rules}
use Rattle.sqlite.proofs.Callers.{memory_is_clean}
use Rattle.sqlite.specs.Steps.{over_memory}
use Rattle.sqlite.specs.Held.{state}
use Rattle.mr_first.specs.FirstParts.{AreFirstKeysRising}
use Rattle.mr_first.proofs.FilledDatabase.{put_into_none}
use Rattle.mr_sql.proofs.FirstTaken.{alone_first}
use Rattle.mr_sql.proofs.first_keeper.FirstKeeper+MemStore.from_tables.Goals as goal

pub returns-in-Ok-clause-made : goal.returns-in-Ok-clause-made
returns-in-Ok-clause-made c =
    let rising : AreFirstKeysRising c.args.tables.now = search rules in
    c.in-Ok.ensures.tables (memory_is_clean c.create_first.new.conn) c.in_ok-conn.ensures.empty.2 ∙ put_into_none c.args.tables.now rising

pub returns-in-Ok-clause-settled : goal.returns-in-Ok-clause-settled
returns-in-Ok-clause-settled c =
    alone_first (state over_memory c.create_first.new.conn) (c.in-Ok.ensures.kept (memory_is_clean c.create_first.new.conn) c.in_ok-conn.ensures.empty.2) (λ db left. left)

pub returns-then-not-are_keys_rising-clause-twice : goal.returns-then-not-are_keys_rising-clause-twice
returns-then-not-are_keys_rising-clause-twice c twice = refl
