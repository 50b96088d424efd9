-- What is found again behind a crash.
use Rattle.std.proofs.Common.{◌≡◌, inl, inr, length, ap, arith}
use Rattle.sqlite_trees.specs.Tree.{Trees}
use Rattle.sqlite_trees.specs.Objects.{catalog_tree}
use Rattle.sqlite_schema.specs.declared.schema.Schema.{Schema}
use Rattle.sqlite_catalog.specs.Listing.{IsSound}
use Rattle.sqlite_catalog.proofs.ReadLemmas.{lists_once}
use Rattle.mr_rows.specs.Schema.{first_schema, our_schema}
use Rattle.mr_sql.specs.Found.{IsResumed}

-- a database of ours that is taken stays as it is: trees list no schema with another number of tables
pub resumed_ours : (before after : Trees) → IsSound our_schema before → IsResumed before after → after ≡ before
resumed_ours before after ours (inl stays) = stays.1
resumed_ours before after ours (inr raised) =
    let same = ap (λ (s : Schema). length s.tables) (lists_once (before catalog_tree) our_schema first_schema ours.lists raised.0.lists) in absurd (omega (arith, same))
