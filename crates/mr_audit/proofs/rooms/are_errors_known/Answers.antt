use Rattle.std.proofs.Common.{rules, tests, bytes_eq}
use Rattle.std.proofs.lemmas.Iterator.{YieldsList-from_slice}
use Rattle.std.proofs.lemmas.Iterator.Search.{all_from_yields_List}
use Rattle.std.specs.List.{list_any}
use Rattle.mr_model.specs.Tables.{ErrorRow}
use Rattle.mr_audit.proofs.rooms.are_errors_known.Goals as goal

pub returns : goal.returns
returns c = λ rise.
    all_from_yields_List (λ (row : ErrorRow). list_any (bytes_eq row.room) c.args.rooms.now) _ _ _ c.all.ensures.ran (YieldsList-from_slice c.args.rows.now cc) (λ x b q k. search (rules, tests))
