-- The tables of the database. Each key is declared so that no column is another name of the rowid.
-- Those of the first schema come first, `write_log` and `undo` among them, which have no rows in the second: so a database that moved up
-- from the first schema has the tables of one that was made anew.
use Rattle.std.specs.Prelude.{◌≡◌, ◌⊎◌, true, false, List, [], ◌∷◌, None, codes, ℕ}
use Rattle.sqlite.specs.Collation.TheVariants.{Binary}
use Rattle.sqlite.specs.declared.types.Value.TheVariants.{Null}
use Rattle.sqlite.specs.Kind.{Kind}
use Rattle.sqlite.specs.Kind.TheVariants.{Integer, Text}
use Rattle.sqlite.specs.Table.{Table}
use Rattle.sqlite.specs.Schema.{Schema}
use Rattle.sqlite.specs.Change.{created}
use Rattle.sqlite_value.specs.Keys.{plain}
use Rattle.sqlite_schema.specs.declared.schema.Column.{Column}

abbrev pub column_of : List ℕ → Kind → Column
column_of name kind = record { name = name; kind = kind; is_strict = true; not_null = true; default = Null; collation = Binary }

abbrev pub int : List ℕ → Column
int name = column_of name Integer

abbrev pub text_column : List ℕ → Column
text_column name = column_of name Text

-- A table with one key; its columns are numbered from 1, and none are declared primary where the key is merely unique.
abbrev pub table_of : List ℕ → List Column → List ℕ → List ℕ → Table
table_of name columns primary key = record {
  name = name;
  tree = 0;
  columns = columns;
  key = None;
  primary = primary;
  uniques = key ∷ [];
  orders = plain ∷ [];
  checks = [];
  references = [];
  computed = [];
  stamps = record { places = []; terms = []; formats = [] };
  is_counted = false;
}

-- ---- the texts that make them

abbrev pub meta_text : List ℕ
meta_text = codes "CREATE TABLE meta (one INTEGER NOT NULL UNIQUE, schema INTEGER NOT NULL, server INTEGER NOT NULL, prim INTEGER NOT NULL, commits INTEGER NOT NULL, dropped INTEGER NOT NULL, clock INTEGER NOT NULL) STRICT"

abbrev pub room_text : List ℕ
room_text = codes "CREATE TABLE room (name TEXT NOT NULL PRIMARY KEY) STRICT"

abbrev pub vector_text : List ℕ
vector_text = codes "CREATE TABLE vector (server INTEGER NOT NULL UNIQUE, n INTEGER NOT NULL, tm INTEGER NOT NULL, committed INTEGER NOT NULL) STRICT"

abbrev pub write_log_text : List ℕ
write_log_text = codes "CREATE TABLE write_log (server INTEGER NOT NULL, n INTEGER NOT NULL, tm INTEGER NOT NULL, room TEXT NOT NULL, length INTEGER NOT NULL, choices TEXT NOT NULL, title TEXT NOT NULL, seq INTEGER NOT NULL, PRIMARY KEY (server, n)) STRICT"

abbrev pub undo_text : List ℕ
undo_text = codes "CREATE TABLE undo (server INTEGER NOT NULL, n INTEGER NOT NULL, place INTEGER NOT NULL, PRIMARY KEY (server, n)) STRICT"

abbrev pub booking_text : List ℕ
booking_text = codes "CREATE TABLE booking (room TEXT NOT NULL, day TEXT NOT NULL, start INTEGER NOT NULL, stop INTEGER NOT NULL, server INTEGER NOT NULL, n INTEGER NOT NULL, title TEXT NOT NULL, committed INTEGER NOT NULL, PRIMARY KEY (server, n)) STRICT"

abbrev pub error_text : List ℕ
error_text = codes "CREATE TABLE errorlog (room TEXT NOT NULL, day TEXT NOT NULL, start INTEGER NOT NULL, stop INTEGER NOT NULL, server INTEGER NOT NULL, n INTEGER NOT NULL, title TEXT NOT NULL, tm INTEGER NOT NULL, seq INTEGER NOT NULL, PRIMARY KEY (server, n)) STRICT"

abbrev pub log_text : List ℕ
log_text = codes "CREATE TABLE log (server INTEGER NOT NULL, n INTEGER NOT NULL, tm INTEGER NOT NULL, room TEXT NOT NULL, kind INTEGER NOT NULL, length INTEGER NOT NULL, choices TEXT NOT NULL, title TEXT NOT NULL, tserver INTEGER NOT NULL, tn INTEGER NOT NULL, place INTEGER NOT NULL, seq INTEGER NOT NULL, PRIMARY KEY (server, n)) STRICT"

abbrev pub cancelled_text : List ℕ
cancelled_text = codes "CREATE TABLE cancelled (room TEXT NOT NULL, day TEXT NOT NULL, start INTEGER NOT NULL, stop INTEGER NOT NULL, server INTEGER NOT NULL, n INTEGER NOT NULL, title TEXT NOT NULL, committed INTEGER NOT NULL, bserver INTEGER NOT NULL, bn INTEGER NOT NULL, PRIMARY KEY (server, n)) STRICT"

abbrev pub cancel_text : List ℕ
cancel_text = codes "CREATE TABLE cancel (server INTEGER NOT NULL, n INTEGER NOT NULL, room TEXT NOT NULL, tserver INTEGER NOT NULL, tn INTEGER NOT NULL, done INTEGER NOT NULL, tm INTEGER NOT NULL, seq INTEGER NOT NULL, PRIMARY KEY (server, n)) STRICT"

-- ---- the tables that these texts define

abbrev pub meta_table : Table
meta_table =
    table_of (codes "meta")
    (int (codes "one") ∷ int (codes "schema") ∷ int (codes "server") ∷ int (codes "prim") ∷ int (codes "commits") ∷ int (codes "dropped") ∷ int (codes "clock")
    ∷ [])
    [] (1 ∷ [])

abbrev pub room_table : Table
room_table = table_of (codes "room") (text_column (codes "name") ∷ []) (1 ∷ []) (1 ∷ [])

abbrev pub vector_table : Table
vector_table = table_of (codes "vector") (int (codes "server") ∷ int (codes "n") ∷ int (codes "tm") ∷ int (codes "committed") ∷ []) [] (1 ∷ [])

abbrev pub write_log_table : Table
write_log_table =
    table_of (codes "write_log")
    (int (codes "server") ∷ int (codes "n") ∷ int (codes "tm") ∷ text_column (codes "room") ∷ int (codes "length") ∷ text_column (codes "choices") ∷ text_column (codes "title")
    ∷ int (codes "seq") ∷ [])
    (1 ∷ 2 ∷ []) (1 ∷ 2 ∷ [])

abbrev pub undo_table : Table
undo_table = table_of (codes "undo") (int (codes "server") ∷ int (codes "n") ∷ int (codes "place") ∷ []) (1 ∷ 2 ∷ []) (1 ∷ 2 ∷ [])

abbrev pub booking_table : Table
booking_table =
    table_of (codes "booking")
    (text_column (codes "room") ∷ text_column (codes "day") ∷ int (codes "start") ∷ int (codes "stop") ∷ int (codes "server") ∷ int (codes "n") ∷ text_column (codes "title")
    ∷ int (codes "committed") ∷ [])
    (5 ∷ 6 ∷ []) (5 ∷ 6 ∷ [])

abbrev pub error_table : Table
error_table =
    table_of (codes "errorlog")
    (text_column (codes "room") ∷ text_column (codes "day") ∷ int (codes "start") ∷ int (codes "stop") ∷ int (codes "server") ∷ int (codes "n") ∷ text_column (codes "title")
    ∷ int (codes "tm") ∷ int (codes "seq") ∷ [])
    (5 ∷ 6 ∷ []) (5 ∷ 6 ∷ [])

abbrev pub log_table : Table
log_table =
    table_of (codes "log")
    (int (codes "server") ∷ int (codes "n") ∷ int (codes "tm") ∷ text_column (codes "room") ∷ int (codes "kind") ∷ int (codes "length") ∷ text_column (codes "choices")
    ∷ text_column (codes "title") ∷ int (codes "tserver") ∷ int (codes "tn") ∷ int (codes "place") ∷ int (codes "seq") ∷ [])
    (1 ∷ 2 ∷ []) (1 ∷ 2 ∷ [])

abbrev pub cancelled_table : Table
cancelled_table =
    table_of (codes "cancelled")
    (text_column (codes "room") ∷ text_column (codes "day") ∷ int (codes "start") ∷ int (codes "stop") ∷ int (codes "server") ∷ int (codes "n") ∷ text_column (codes "title")
    ∷ int (codes "committed") ∷ int (codes "bserver") ∷ int (codes "bn") ∷ [])
    (5 ∷ 6 ∷ []) (5 ∷ 6 ∷ [])

abbrev pub cancel_table : Table
cancel_table =
    table_of (codes "cancel")
    (int (codes "server") ∷ int (codes "n") ∷ text_column (codes "room") ∷ int (codes "tserver") ∷ int (codes "tn") ∷ int (codes "done") ∷ int (codes "tm")
    ∷ int (codes "seq") ∷ [])
    (1 ∷ 2 ∷ []) (1 ∷ 2 ∷ [])

-- ---- the schemas, table by table

abbrev pub no_schema : Schema
no_schema = record { tables = []; indexes = []; views = [] }

abbrev pub with_meta : Schema
with_meta = created no_schema meta_table

abbrev pub with_room_table : Schema
with_room_table = created with_meta room_table

abbrev pub with_vector : Schema
with_vector = created with_room_table vector_table

abbrev pub with_write_log : Schema
with_write_log = created with_vector write_log_table

abbrev pub with_undo : Schema
with_undo = created with_write_log undo_table

abbrev pub with_booking : Schema
with_booking = created with_undo booking_table

-- the whole first schema
abbrev pub first_schema : Schema
first_schema = created with_booking error_table

abbrev pub with_log : Schema
with_log = created first_schema log_table

abbrev pub with_cancelled : Schema
with_cancelled = created with_log cancelled_table

abbrev pub our_schema : Schema
our_schema = created with_cancelled cancel_table

-- ours, or the first
abbrev pub IsOfTwo : Schema → Type 0
IsOfTwo under = (under ≡ our_schema) ⊎ (under ≡ first_schema)
