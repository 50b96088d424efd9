use Rattle.std.proofs.Common.{◌≡◌, ◌∙◌, Option, Some, None, sym, rules}
use Rattle.std.proofs.lemmas.Bool.{true≢false}
use Rattle.std.specs.List.{find}
use Rattle.mr_model.specs.Queries.{log_id}
use Rattle.mr_model.specs.Tables.{LogRow}
use Rattle.mr_model.specs.Writes.{same_id}
use Rattle.mr_model.proofs.Members.{same_id_from}
use Rattle.mr_replica.proofs.Journals.{lacks}
use Rattle.mr_replica.proofs.shared_log.is_new.Goals as goal

pub returns-then-is_none-clause-absent : goal.returns-then-is_none-clause-absent
returns-then-is_none-clause-absent c = λ yes row h e.
    let none : find (λ (r : LogRow). same_id (log_id r) c.args.id) c.args.table.now.rows ≡ None = search rules in
    true≢false (sym (same_id_from (log_id row) c.args.id e) ∙ lacks (λ (r : LogRow). same_id (log_id r) c.args.id) c.args.table.now.rows none row h)
