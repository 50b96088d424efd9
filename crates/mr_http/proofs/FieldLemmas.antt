-- The fields that the parser answers are those of the grammar.
use Rattle.std.proofs.Common.{◌≡◌, ◌∙◌, ℕ, List, [], ◌∷◌, map, refl, sym, ap}
use Rattle.httparse.specs.Grammar as grammar
use Rattle.httparse.specs.Spans.{name_and_value}
use Rattle.httparse.specs.Borrowed.{header_parts, AreFields}
use Rattle.httparse.specs.declared.borrowed.Header.{Header}
use Rattle.mr_model.specs.Http.{Field}
use Rattle.mr_http.specs.HeaderFields.{field_of, fields_of, header_field, header_fields}

abbrev as_field : List ℕ × List ℕ → Field
as_field p = record { name = p.0; value = p.1 }

of_headers : (hs : List Header) → header_fields hs ≡ map as_field (map header_parts hs)
of_headers [] = refl
of_headers (h ∷ hs) = ap (λ l. header_field h ∷ l) (of_headers hs)

of_fields : (fs : List grammar.Field) → fields_of fs ≡ map as_field (map name_and_value fs)
of_fields [] = refl
of_fields (f ∷ fs) = ap (λ l. field_of f ∷ l) (of_fields fs)

pub same_fields : (hs : List Header) (fs : List grammar.Field) → AreFields hs fs → header_fields hs ≡ fields_of fs
same_fields hs fs h = of_headers hs ∙ ap (λ l. map as_field l) h ∙ sym (of_fields fs)
