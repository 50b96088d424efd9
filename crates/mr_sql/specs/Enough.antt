-- Which tables are enough for a command.
use Rattle.std.specs.Prelude.{◌≡◌}
use Rattle.mr_model.specs.Scopes.{Scope, in_scope}
use Rattle.mr_model.specs.Tables.{Tables}
use Rattle.mr_tables.specs.declared.summary.Summary.{Summary}
use Rattle.mr_part.specs.NextId.{id_given}
use Rattle.mr_store.specs.Taken.{is_id_taken}

-- these have in scope what all tables have, and a row with the id that the command would give exactly if all tables have one
abbrev pub AreEnough : Scope → Tables → Tables → Type 0
AreEnough s all some =
    (in_scope s some ≡ in_scope s all) × ((own : Summary) → is_id_taken (id_given s own) some ≡ is_id_taken (id_given s own) all)
