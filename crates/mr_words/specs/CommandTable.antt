-- The table of command lines: what is asked for by the words after the program's name.
use Rattle.std.specs.Prelude.{ℕ, Bool, false, not, ◌==◌, if◌then◌else◌, List, [], ◌∷◌, ◌++◌, map, codes, bytes_eq, Option, Some, None}
use Rattle.std.specs.List.{list_all, before_first, after_first}
use Rattle.mr_model.specs.Texts.{Text}
use Rattle.mr_model.specs.Replies.{CalendarPart, Full, Committed}
use Rattle.mr_model.specs.View.{AskSheet, AskCalendar, AskOutcome, AskErrors}
use Rattle.mr_model.specs.Step.{Command, AddRoom, Submit, Cancel, Commit, Truncate, AskPosition, SlotWords}
use Rattle.mr_model.specs.Step as step
use Rattle.mr_base.specs.Readings.{number_from_to}
use Rattle.mr_wire.specs.Fields.{◌>>=◌}
use Rattle.mr_words.specs.CommandNames.{init_name, export_name, import_name, rehearse_name, serve_name, exchange_name, bridge_name, add_room_name, book_name, cancel_name, commit_name, truncate_name, position_name, sheet_name, calendar_name, outcome_name, errors_name}

-- what a command line asks for; databases and files by their paths
pub data Invoked : Type 0 where
  -- a database, its server and the primary
  Init : Text → ℕ → ℕ → Invoked
  -- a database, and the command to its replica
  Ask : Text → Command → Invoked
  -- a database, the file of the position, the file of the batch, and how many item lines that may have
  Export : Text → Text → Text → ℕ → Invoked
  -- a database, and the file of the batch
  Import : Text → Text → Invoked
  -- the file of the script
  Rehearse : Text → Invoked
  -- a database, the port to serve it at, and how many connections to serve
  Serve : Text → ℕ → ℕ → Invoked
  -- a database, and a peer's address
  Exchange : Text → Text → Invoked
  -- a database, and another
  Bridge : Text → Text → Invoked

-- ---- single words

abbrev pub server_in : Text → Option ℕ
server_in word = number_from_to 1 99 word

-- how many writes to commit, or up to which commit to drop them
abbrev pub commit_number_in : Text → Option ℕ
commit_number_in word = number_from_to 0 999_999_999_999 word

abbrev pub line_count_in : Text → Option ℕ
line_count_in word = number_from_to 1 100_000 word

abbrev pub port_in : Text → Option ℕ
port_in word = number_from_to 1 65_535 word

-- how many connections to serve
abbrev pub connections_in : Text → Option ℕ
connections_in word = number_from_to 0 999_999_999 word

abbrev pub part_in : Text → Option CalendarPart
part_in word = if bytes_eq word (codes "full") then Some Full else (if bytes_eq word (codes "committed") then Some Committed else None)

-- the byte T
abbrev pub is_t : ℕ → Bool
is_t c = c == 84

-- a day and a time, parted by the first T; where there is none, the whole word is the day and the time is empty
abbrev pub slot_in_word : Text → SlotWords
slot_in_word word = record { day = before_first is_t word; time = after_first is_t word }

-- ---- commands to a replica, from the words behind the database

abbrev pub add_room_asked : List Text → Option Command
add_room_asked (room ∷ []) = Some (AddRoom room)
add_room_asked _ = None

abbrev pub booking_asked : List Text → Option Command
booking_asked (room ∷ minutes ∷ day ∷ time ∷ title ∷ alternatives) =
    Some (Submit (record {
      room = room;
      title = title;
      length = minutes;
      wish = record { day = day; time = time };
      alternatives = map slot_in_word alternatives;
    }))
booking_asked _ = None

abbrev pub cancel_asked : List Text → Option Command
cancel_asked (room ∷ id ∷ []) = Some (Cancel room id)
cancel_asked _ = None

abbrev pub commit_asked : List Text → Option Command
commit_asked (count ∷ []) = commit_number_in count >>= λ n. Some (Commit n)
commit_asked _ = None

abbrev pub truncation_asked : List Text → Option Command
truncation_asked (count ∷ []) = commit_number_in count >>= λ n. Some (Truncate n)
truncation_asked _ = None

abbrev pub position_asked : List Text → Option Command
position_asked [] = Some AskPosition
position_asked _ = None

abbrev pub sheet_asked : List Text → Option Command
sheet_asked (room ∷ day ∷ []) = Some (step.Ask room (AskSheet day))
sheet_asked _ = None

abbrev pub calendar_asked : List Text → Option Command
calendar_asked (room ∷ part ∷ []) = part_in part >>= λ p. Some (step.Ask room (AskCalendar p))
calendar_asked _ = None

abbrev pub outcome_asked : List Text → Option Command
outcome_asked (room ∷ id ∷ []) = Some (step.Ask room (AskOutcome id))
outcome_asked _ = None

abbrev pub errors_asked : List Text → Option Command
errors_asked (room ∷ []) = Some (step.Ask room AskErrors)
errors_asked _ = None

-- ---- rows, from the words behind their names

abbrev pub init_row : List Text → Option Invoked
init_row (database ∷ server ∷ primary ∷ []) = server_in server >>= λ s. (server_in primary >>= λ p. Some (Init database s p))
init_row _ = None

abbrev pub export_row : List Text → Option Invoked
export_row (database ∷ position ∷ out ∷ lines ∷ []) = line_count_in lines >>= λ n. Some (Export database position out n)
export_row _ = None

abbrev pub import_row : List Text → Option Invoked
import_row (database ∷ batch ∷ []) = Some (Import database batch)
import_row _ = None

abbrev pub rehearse_row : List Text → Option Invoked
rehearse_row (script ∷ []) = Some (Rehearse script)
rehearse_row _ = None

abbrev pub serve_row : List Text → Option Invoked
serve_row (database ∷ port ∷ count ∷ []) = port_in port >>= λ p. (connections_in count >>= λ n. Some (Serve database p n))
serve_row _ = None

abbrev pub exchange_row : List Text → Option Invoked
exchange_row (database ∷ url ∷ []) = Some (Exchange database url)
exchange_row _ = None

abbrev pub bridge_row : List Text → Option Invoked
bridge_row (database ∷ other ∷ []) = Some (Bridge database other)
bridge_row _ = None

-- the first word, read like this, and what the others stand for
abbrev pub with_first_word : {A B C : Type 0} → (Text → Option A) → (A → B → C) → (List Text → Option B) → List Text → Option C
with_first_word first both others [] = None
with_first_word first both others (word ∷ words) = first word >>= λ a. (others words >>= λ b. Some (both a b))

-- a database, and the words of a command to its replica
abbrev pub asking : (List Text → Option Command) → List Text → Option Invoked
asking command_of words = with_first_word Some Ask command_of words

-- ---- the table

-- rows by their names, each with what the words behind the name stand for
abbrev pub NamedRows : Type 0 → Type 0
NamedRows A = List (Text × (List Text → Option A))

-- what the words stand for in the first row of this name
abbrev pub in_row : {A : Type 0} → NamedRows A → Text → List Text → Option A
in_row [] name words = None
in_row (row ∷ rows) name words = if bytes_eq name row.0 then row.1 words else in_row rows name words

-- commands to a replica, by the words behind the database, that have the same words in a script behind the replica's number
abbrev pub shared_commands : NamedRows Command
shared_commands =
    (cancel_name, cancel_asked)
    ∷ (commit_name, commit_asked)
    ∷ (truncate_name, truncation_asked)
    ∷ (position_name, position_asked)
    ∷ (sheet_name, sheet_asked)
    ∷ (calendar_name, calendar_asked)
    ∷ (outcome_name, outcome_asked)
    ∷ (errors_name, errors_asked)
    ∷ []

-- all commands to a replica
abbrev pub commands : NamedRows Command
commands = (add_room_name, add_room_asked) ∷ (book_name, booking_asked) ∷ shared_commands

-- what is done with databases and files otherwise
abbrev pub other_rows : NamedRows Invoked
other_rows =
    (init_name, init_row)
    ∷ (export_name, export_row)
    ∷ (import_name, import_row)
    ∷ (rehearse_name, rehearse_row)
    ∷ (serve_name, serve_row)
    ∷ (exchange_name, exchange_row)
    ∷ (bridge_name, bridge_row)
    ∷ []

abbrev pub table : NamedRows Invoked
table = other_rows ++ map (λ command. (command.0, asking command.1)) commands

-- what the words ask for, if they are of the table
abbrev pub invocation_of : List Text → Option Invoked
invocation_of [] = None
invocation_of (name ∷ words) = in_row table name words

-- ---- words that are not read as flags

abbrev pub has_hyphen : Text → Bool
has_hyphen [] = false
has_hyphen (c ∷ cs) = c == 45

-- no word begins with a hyphen
abbrev pub has_no_flag : List Text → Bool
has_no_flag words = list_all (λ word. not (has_hyphen word)) words
