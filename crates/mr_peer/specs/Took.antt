-- The text that tells how many writes and commits were taken.
use Rattle.std.specs.Prelude.{ℕ, Bool, ◌&&◌, bytes_eq, Option}
use Rattle.mr_model.specs.Texts.{Text, within, number_at, only_if}
use Rattle.mr_model.specs.Replies.{Took, reply_text}

-- 2 to the 64th, less 1
abbrev pub greatest_told : ℕ
greatest_told = 18_446_744_073_709_551_615

abbrev pub are_told : ℕ × ℕ → Bool
are_told n = within 0 greatest_told n.0 && within 0 greatest_told n.1

abbrev pub took_text : ℕ × ℕ → Text
took_text n = reply_text (Took n.0 n.1)

abbrev pub took_numbers : Text → ℕ × ℕ
took_numbers bytes = (number_at 1 bytes, number_at 3 bytes)

-- the numbers whose text this is, if it is one of numbers below 2 to the 64th
abbrev pub read_took : Text → Option (ℕ × ℕ)
read_took bytes = only_if (are_told (took_numbers bytes) && bytes_eq (took_text (took_numbers bytes)) bytes) (took_numbers bytes)
