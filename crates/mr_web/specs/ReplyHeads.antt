-- The head of a reply that is made for it.
use Rattle.std.specs.Prelude.{ℕ, Bool, [], ◌∷◌, ◌++◌, codes, decimal}
use Rattle.mr_model.specs.Texts.{Text}
use Rattle.mr_model.specs.Http.{reason, kind}

abbrev pub line_end : Text
line_end = 13 ∷ 10 ∷ []

abbrev pub status_line : ℕ → Text
status_line status = codes "HTTP/1.1 " ++ (decimal status ++ (codes " " ++ (reason status ++ line_end)))

abbrev pub kind_line : Bool → Text
kind_line is_json = codes "Content-Type: " ++ (kind is_json ++ line_end)

abbrev pub length_line : ℕ → Text
length_line n = codes "Content-Length: " ++ (decimal n ++ line_end)

abbrev pub last_lines : Text
last_lines = codes "Connection: close" ++ (line_end ++ line_end)

abbrev pub head_text : ℕ → Bool → ℕ → Text
head_text status is_json n = ((status_line status ++ kind_line is_json) ++ length_line n) ++ last_lines
