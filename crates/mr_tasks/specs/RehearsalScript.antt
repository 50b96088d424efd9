-- The rehearsal script: the line of each step, and which steps a script stands for.
use Rattle.std.specs.Prelude.{◌≡◌, ℕ, ◌+◌, Bool, true, false, not, ◌&&◌, ◌||◌, ◌==◌, if◌then◌else◌, nat_le, List, [], ◌∷◌, ◌++◌, length, flat_map, codes, decimal, ◌⊎◌, Result, Ok, Err}
use Rattle.std.specs.List.{list_all, slice_split}
use Rattle.mr_model.specs.Texts.{Text, within, is_space, words}
use Rattle.mr_model.specs.Writes.{is_server}
use Rattle.mr_model.specs.Step.{Command, AddRoom, Submit, Submission, SlotWords}
use Rattle.mr_model.specs.World.{Step, Add, Make, Deliver}
use Rattle.mr_words.specs.CommandNames.{book_name}
use Rattle.mr_words.specs.CommandSpelling.{spelled, may_be_spelled}

-- ---- lines

-- what stands between the LFs of a script; behind the last LF there may be one more line, or nothing
abbrev pub script_lines : Text → List Text
script_lines bytes = slice_split (λ c. c == 10) bytes

-- an empty line and one that begins with # say nothing
abbrev pub is_passed_over : Text → Bool
is_passed_over [] = true
is_passed_over (c ∷ cs) = c == 35

-- bytes from 0x20 to 0x7E alone
abbrev pub is_printable : Text → Bool
is_printable t = list_all (λ c. within 32 126 c) t

-- one byte at least, and no space
abbrev pub is_word : Text → Bool
is_word [] = false
is_word (c ∷ cs) = list_all (λ d. not (is_space d)) (c ∷ cs)

-- ---- the line of a step

abbrev pub words_of_slot : SlotWords → List Text
words_of_slot s = s.day ∷ s.time ∷ []

-- the number of the alternatives stands before them, and the title behind them
abbrev pub booking_words : Submission → List Text
booking_words b =
    b.room ∷ b.length ∷ b.wish.day ∷ b.wish.time ∷ decimal (length b.alternatives) ∷ (flat_map words_of_slot b.alternatives ++ b.title ∷ [])

-- all bytes of a batch: more than any has
abbrev pub all_bytes : ℕ
all_bytes = 18_446_744_073_709_551_615

-- how many bytes of a batch are delivered
abbrev pub length_word : ℕ → Text
length_word n = if n == all_bytes then codes "all" else decimal n

-- a command to a replica in words, as in a command line but for the rows of rooms and bookings: the name of its line, and the words behind
-- the replica
abbrev pub script_spelled : Command → Text × List Text
script_spelled (AddRoom room) = (codes "room", room ∷ [])
script_spelled (Submit booking) = (book_name, booking_words booking)
script_spelled command = spelled command

abbrev pub step_words : Step → List Text
step_words (Add server) = codes "replica" ∷ decimal server ∷ []
step_words (Step.Do server command) = (script_spelled command).0 ∷ decimal server ∷ (script_spelled command).1
step_words (Make from to max_lines) = codes "batch" ∷ decimal from ∷ decimal to ∷ decimal max_lines ∷ []
step_words (Deliver batch to bytes) = codes "deliver" ∷ decimal batch ∷ decimal to ∷ length_word bytes ∷ []

abbrev pub step_line : Step → Text
step_line s = words (step_words s)

-- ---- the steps that have a line

abbrev pub are_slot_words : SlotWords → Bool
are_slot_words s = is_word s.day && is_word s.time

-- any title, an empty one too
abbrev pub is_submission : Submission → Bool
is_submission b =
    is_word b.room && is_word b.length && are_slot_words b.wish && nat_le (length b.alternatives) 99
    && list_all are_slot_words b.alternatives

-- a number of bytes, or all
abbrev pub is_byte_count : ℕ → Bool
is_byte_count n = within 0 999_999_999 n || n == all_bytes

-- each of its words is one, and its numbers are within their limits
abbrev pub has_words : Command → Bool
has_words (AddRoom room) = is_word room
has_words (Submit booking) = is_submission booking
has_words command = may_be_spelled command && list_all is_word (spelled command).1

abbrev pub has_line : Step → Bool
has_line (Add server) = is_server server
has_line (Step.Do server command) = has_words command && is_server server
has_line (Make from to max_lines) = is_server from && (is_server to && within 1 100_000 max_lines)
has_line (Deliver batch to bytes) = within 0 999_999_999 batch && (is_server to && is_byte_count bytes)

-- the line is of the table, and this is its step
pub record IsScriptLine (line : Text) (step : Step) : Type 0 where
  pub spelled : line ≡ step_line step
  pub of_table : has_line step ≡ true
  pub plain : is_printable line ≡ true

-- ---- a whole script

-- the line is neither passed over nor of the table
pub record IsBad (line : Text) : Type 0 where
  pub not_passed : is_passed_over line ≡ false
  pub not_of_table : (step : Step) → ¬ IsScriptLine line step

-- the steps before a line and after it
abbrev pub TakesLine : List Step → Text → List Step → Type 0
TakesLine before line after =
    ((is_passed_over line ≡ true) × (after ≡ before)) ⊎ ((step : Step) × IsScriptLine line step × (after ≡ before ++ step ∷ []))

-- the lines of a script as far as it was read, and the steps that they stand for
pub data AreStepsOf : List Text → List Step → Type 0 where
  begun : AreStepsOf [] []
  taken : {lines : List Text} {before after : List Step} {line : Text} → AreStepsOf lines before → TakesLine before line after
      → AreStepsOf (lines ++ line ∷ []) after

-- the first bad line, counted from 1
pub record IsBadLine (lines : List Text) (number : ℕ) : Type 0 where
  pub before : List Text
  pub line : Text
  pub behind : List Text
  pub steps : List Step
  pub stands_at : lines ≡ before ++ line ∷ behind
  pub counted : length before + 1 ≡ number
  pub read_before : AreStepsOf before steps
  pub bad : IsBad line

-- the steps that a script stands for, or the number of its first bad line
abbrev pub ReadsAsScript : Text → Result (List Step) ℕ → Type 0
ReadsAsScript bytes (Ok steps) = AreStepsOf (script_lines bytes) steps
ReadsAsScript bytes (Err number) = IsBadLine (script_lines bytes) number

-- a script is read in one way
abbrev pub ReadsOneWay : Type 0
ReadsOneWay = (bytes : Text) (x y : Result (List Step) ℕ) → ReadsAsScript bytes x → ReadsAsScript bytes y → x ≡ y
