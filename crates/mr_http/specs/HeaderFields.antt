-- Fields of a head as fields of the definitions.
use Rattle.std.specs.Prelude.{List, map}
use Rattle.httparse.specs.Grammar as grammar
use Rattle.httparse.specs.declared.borrowed.Header.{Header}
use Rattle.mr_model.specs.Http.{Field}

-- a field of the grammar: its name, and its value without the white space around it
abbrev pub field_of : grammar.Field → Field
field_of f = record { name = f.name; value = grammar.field_value f }

abbrev pub fields_of : List grammar.Field → List Field
fields_of fs = map field_of fs

-- a field as the parser answers it
abbrev pub header_field : Header → Field
header_field h = record { name = h.name.now; value = h.value.now }

abbrev pub header_fields : List Header → List Field
header_fields hs = map header_field hs
