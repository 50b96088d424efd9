use Rattle.std.proofs.Common.{refl}
use Rattle.sqlite.proofs.Callers.{memory_is_clean}
use Rattle.sqlite.specs.Steps.{over_memory}
use Rattle.sqlite.specs.Held.{state}
use Rattle.mr_sql.proofs.OpeningLemmas.{opening_stands}
use Rattle.mr_sql.proofs.TakenLemmas.{alone}
use Rattle.mr_sql.proofs.sql_keeper.SqlKeeper+MemStore.open_in_memory.Goals as goal

pub returns-in-Ok-clause-stands : goal.returns-in-Ok-clause-stands
returns-in-Ok-clause-stands c =
    opening_stands _ _ _ c.number.ensures.in_range c.number-2.ensures.in_range c.number.ensures.value c.number-2.ensures.value c.opening-row.ensures
    (c.in-Ok.ensures.tables (memory_is_clean c.create.new.conn) refl c.in_ok-conn.ensures.empty.2)

pub returns-in-Ok-clause-settled : goal.returns-in-Ok-clause-settled
returns-in-Ok-clause-settled c =
    let conn = c.create.new.conn in
    alone (state over_memory conn) (c.in-Ok.ensures.kept (memory_is_clean conn) refl c.in_ok-conn.ensures.empty.2) (λ db left. left)
