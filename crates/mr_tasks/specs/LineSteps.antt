-- How a line of a script is read.
use Rattle.std.specs.Prelude.{ℕ, zero, suc, ◌&&◌, if◌then◌else◌, nat_le, List, [], ◌∷◌, ◌++◌, length, map, codes, bytes_eq, Option, Some, None}
use Rattle.std.specs.List.{list_all, list_any, slice_split}
use Rattle.mr_model.specs.Texts.{Text, is_space, first_word, after_word, only_if}
use Rattle.mr_model.specs.Step.{Command, Submit, Submission, SlotWords}
use Rattle.mr_model.specs.World.{Step, Add, Make, Deliver}
use Rattle.mr_base.specs.Readings.{number_from_to}
use Rattle.mr_wire.specs.Fields.{◌>>=◌}
use Rattle.mr_words.specs.CommandNames.{book_name}
use Rattle.mr_words.specs.CommandTable.{NamedRows, add_room_asked, with_first_word, in_row, line_count_in, server_in, shared_commands}
use Rattle.mr_tasks.specs.RehearsalScript.{is_word, all_bytes}

-- the first word, and what follows the space behind it
abbrev pub cut_first_word : Text → Option (Text × Text)
cut_first_word t = only_if (is_word (first_word t) && list_any is_space t) (first_word t, after_word t)

-- a server's word, and what follows
abbrev pub cut_server : Text → Option (ℕ × Text)
cut_server t = cut_first_word t >>= λ p. (server_in p.0 >>= λ s. Some (s, p.1))

-- two words, and what follows
abbrev pub cut_slot : Text → Option (SlotWords × Text)
cut_slot t = cut_first_word t >>= λ p. (cut_first_word p.1 >>= λ q. Some (record { day = p.0; time = q.0 }, q.1))

abbrev pub with_slot : SlotWords → Option (List SlotWords × Text) → Option (List SlotWords × Text)
with_slot s o = o >>= λ p. Some (s ∷ p.0, p.1)

-- that many slots, and what follows
abbrev pub cut_slots : ℕ → Text → Option (List SlotWords × Text)
cut_slots zero t = Some ([], t)
cut_slots (suc k) t = cut_slot t >>= λ p. with_slot p.0 (cut_slots k p.1)

abbrev pub number_of_slots : Text → Option (ℕ × Text)
number_of_slots t = cut_first_word t >>= λ p. (number_from_to 0 99 p.0 >>= λ k. Some (k, p.1))

abbrev pub submission_cut : Text → Option Submission
submission_cut t =
    cut_first_word t >>= λ room. (cut_first_word room.1 >>= λ minutes. (cut_slot minutes.1 >>= λ wish. (number_of_slots wish.1 >>= λ k.
    (cut_slots k.0 k.1 >>= λ others.
    Some (record { room = room.0; title = others.1; length = minutes.0; wish = wish.0; alternatives = others.0 })))))

-- the step of a line that books, from what stands behind `book`
abbrev pub book_step : Text → Option Step
book_step t = cut_server t >>= λ p. (submission_cut p.1 >>= λ booking. Some (Step.Do p.0 (Submit booking)))

-- ---- the other lines, from the words behind their names

abbrev pub replica_step : List Text → Option Step
replica_step (server ∷ []) = server_in server >>= λ s. Some (Add s)
replica_step _ = None

abbrev pub batch_step : List Text → Option Step
batch_step (from ∷ to ∷ lines ∷ []) = server_in from >>= λ f. (server_in to >>= λ t. (line_count_in lines >>= λ n. Some (Make f t n)))
batch_step _ = None

abbrev pub batch_number_in : Text → Option ℕ
batch_number_in t = number_from_to 0 999_999_999 t

-- how many bytes of a batch
abbrev pub byte_count_in : Text → Option ℕ
byte_count_in t = if bytes_eq t (codes "all") then Some all_bytes else number_from_to 0 999_999_999 t

abbrev pub deliver_step : List Text → Option Step
deliver_step (batch ∷ to ∷ bytes ∷ []) = batch_number_in batch >>= λ b. (server_in to >>= λ t. (byte_count_in bytes >>= λ n. Some (Deliver b t n)))
deliver_step _ = None

-- commands to a replica, by the words behind its number
abbrev pub script_commands : NamedRows Command
script_commands = (codes "room", add_room_asked) ∷ shared_commands

-- a replica's number, and the words of a command to it
abbrev pub at_server : (List Text → Option Command) → List Text → Option Step
at_server command_of words = with_first_word server_in Step.Do command_of words

-- rows that no command line has
abbrev pub own_rows : NamedRows Step
own_rows = (codes "replica", replica_step) ∷ (codes "batch", batch_step) ∷ (codes "deliver", deliver_step) ∷ []

abbrev pub script_rows : NamedRows Step
script_rows = own_rows ++ map (λ command. (command.0, at_server command.1)) script_commands

-- no row has more than three words behind its name, and each has a byte at least
abbrev pub row_step : List Text → Option Step
row_step [] = None
row_step (name ∷ words) = if nat_le (length words) 3 && list_all is_word words then in_row script_rows name words else None

-- ---- any line

-- the step of a line, if it is of the table
abbrev pub step_in : Text → Option Step
step_in line = cut_first_word line >>= λ p. (if bytes_eq p.0 (book_name) then book_step p.1 else row_step (slice_split is_space line))
