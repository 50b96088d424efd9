use Rattle.mr_model.proofs.TablesTell.{from_tables}
use Rattle.mr_model.proofs.TwinTables.{to_tables}
use Rattle.mr_model.proofs.EqualTables.{equal_replies, equal_after, equal_runs}
use Rattle.mr_model.proofs.KeyOrder.{tables_in_order}
use Rattle.mr_model.proofs.RowsOfKnown.{rows_of_known, same_in_key_order}
use Rattle.mr_model.proofs.LogOrder.{kept_is_the_log}
use Rattle.mr_model.proofs.tables.table_law.Goals as goal

pub returns-clause-kept : goal.returns-clause-kept
returns-clause-kept c a b ha hb = (from_tables a b ha hb, to_tables a b ha hb)

pub returns-clause-replies : goal.returns-clause-replies
returns-clause-replies c = equal_replies

pub returns-clause-after : goal.returns-clause-after
returns-clause-after c = equal_after

pub returns-clause-runs : goal.returns-clause-runs
returns-clause-runs c a b end commands replies ha hb e run = equal_runs a b end commands replies ha hb e run

pub returns-clause-keys : goal.returns-clause-keys
returns-clause-keys c = tables_in_order

pub returns-clause-rows : goal.returns-clause-rows
returns-clause-rows c = rows_of_known

pub returns-clause-same : goal.returns-clause-same
returns-clause-same c = same_in_key_order

pub returns-clause-log : goal.returns-clause-log
returns-clause-log c = kept_is_the_log
