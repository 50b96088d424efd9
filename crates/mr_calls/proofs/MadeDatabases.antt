-- What is made of a database without a table.
use Rattle.std.proofs.Common.{◌≢◌, ℕ, inl, inr, length, ap, arith}
use Rattle.sqlite_trees.specs.Tree.{Trees}
use Rattle.sqlite_trees.specs.Objects.{catalog_tree}
use Rattle.sqlite_schema.specs.declared.schema.Schema.{Schema}
use Rattle.sqlite_catalog.specs.Listing.{IsSound}
use Rattle.sqlite_catalog.proofs.ReadLemmas.{lists_once}
use Rattle.mr_model.specs.Replica.{opening}
use Rattle.mr_model.specs.Tables.{Stands}
use Rattle.mr_rows.specs.Schema.{no_schema, first_schema, our_schema}
use Rattle.mr_rows.specs.Database.{tables_in}
use Rattle.mr_sql.specs.Found.{IsAdopted}

-- trees list no schema with another number of tables
apart : (trees : Trees) (one other : Schema) → IsSound one trees → IsSound other trees → length one.tables ≢ length other.tables → ⊥
apart trees one other a b differ = differ (ap (λ (s : Schema). length s.tables) (lists_once (trees catalog_tree) one other a.lists b.lists))

-- it gets the tables of the opening replica
pub blank_adopted : (server primary : ℕ) (before after : Trees) → IsSound no_schema before → IsAdopted server primary before after → Stands (tables_in after) (opening server primary)
blank_adopted server primary before after blank (inl made) = made.1
blank_adopted server primary before after blank (inr (inl stays, names)) = absurd (apart before no_schema our_schema blank stays.0 (λ same. omega (arith, same)))
blank_adopted server primary before after blank (inr (inr raised, names)) = absurd (apart before no_schema first_schema blank raised.0 (λ same. omega (arith, same)))
