-- Tables without rows.
use Rattle.std.specs.Prelude.{[]}
use Rattle.mr_model.specs.Tables.{Tables}
use Rattle.mr_rows.specs.Database.{first_meta}

abbrev pub no_tables : Tables
no_tables = record { meta = first_meta []; room = []; vector = []; log = []; booking = []; errorlog = []; cancelled = []; cancels = [] }
