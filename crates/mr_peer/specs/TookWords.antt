-- The same text, word by word.
use Rattle.std.specs.Prelude.{ℕ, [], ◌∷◌, ◌++◌, bytes_eq, codes, Option}
use Rattle.mr_model.specs.Texts.{Text, only_if}
use Rattle.mr_wire.specs.Fields.{◌>>=◌, number_off, behind_word}
use Rattle.mr_peer.specs.Took.{greatest_told}

abbrev pub last_word : Text
last_word = codes "commits" ++ 10 ∷ []

unfoldable pub took_on : Text → Option (ℕ × ℕ)
took_on text = do
  rest ← behind_word (codes "took") text
  writes ← number_off 0 greatest_told rest
  next ← behind_word (codes "writes") writes.1
  commits ← number_off 0 greatest_told next
  only_if (bytes_eq commits.1 last_word) (writes.0, commits.0)
