-- The other way round: the command line that asks for something.
use Rattle.std.specs.Prelude.{◌≡◌, ◌≤◌, Bool, true, false, not, nat_le, List, [], ◌∷◌, ◌++◌, map, decimal, Some, ⊤}
use Rattle.std.specs.List.{list_all, list_any}
use Rattle.mr_model.specs.Texts.{Text}
use Rattle.mr_model.specs.Replies.{part_text}
use Rattle.mr_model.specs.View.{AskSheet, AskCalendar, AskOutcome, AskErrors}
use Rattle.mr_model.specs.Step.{Command, AddRoom, Submit, Cancel, Receive, Commit, Truncate, AskPosition, BatchFor, SlotWords}
use Rattle.mr_model.specs.Step as step
use Rattle.mr_words.specs.CommandNames.{init_name, export_name, import_name, rehearse_name, serve_name, exchange_name, bridge_name, add_room_name, book_name, cancel_name, commit_name, truncate_name, position_name, sheet_name, calendar_name, outcome_name, errors_name}
use Rattle.mr_words.specs.CommandTable.{Invoked, Init, Ask, Export, Import, Rehearse, Serve, Exchange, Bridge, invocation_of, is_t}

abbrev pub slot_word : SlotWords → Text
slot_word s = s.day ++ 84 ∷ s.time

-- a command to a replica in words: the name of its row, and the words behind the database
abbrev pub spelled : Command → Text × List Text
spelled (AddRoom room) = (add_room_name, room ∷ [])
spelled (Submit s) = (book_name, s.room ∷ s.length ∷ s.wish.day ∷ s.wish.time ∷ s.title ∷ map slot_word s.alternatives)
spelled (Cancel room id) = (cancel_name, room ∷ id ∷ [])
spelled (Commit count) = (commit_name, decimal count ∷ [])
spelled (Truncate count) = (truncate_name, decimal count ∷ [])
spelled AskPosition = (position_name, [])
spelled (step.Ask room (AskSheet day)) = (sheet_name, room ∷ day ∷ [])
spelled (step.Ask room (AskCalendar part)) = (calendar_name, room ∷ part_text part ∷ [])
spelled (step.Ask room (AskOutcome id)) = (outcome_name, room ∷ id ∷ [])
spelled (step.Ask room AskErrors) = (errors_name, room ∷ [])
spelled (Receive bytes) = ([], [])
spelled (BatchFor position max_lines) = ([], [])

-- words may ask for it: a number is within its limits, and no T is in the day of an alternative
abbrev pub may_be_spelled : Command → Bool
may_be_spelled (Submit s) = list_all (λ a. not (list_any is_t a.day)) s.alternatives
may_be_spelled (Commit count) = nat_le count 999_999_999_999
may_be_spelled (Truncate count) = nat_le count 999_999_999_999
may_be_spelled (Receive bytes) = false
may_be_spelled (BatchFor position max_lines) = false
may_be_spelled _ = true

abbrev pub command_line : Invoked → List Text
command_line (Init database server primary) = init_name ∷ database ∷ decimal server ∷ decimal primary ∷ []
command_line (Export database position out lines) = export_name ∷ database ∷ position ∷ out ∷ decimal lines ∷ []
command_line (Import database batch) = import_name ∷ database ∷ batch ∷ []
command_line (Rehearse script) = rehearse_name ∷ script ∷ []
command_line (Serve database port count) = serve_name ∷ database ∷ decimal port ∷ decimal count ∷ []
command_line (Exchange database url) = exchange_name ∷ database ∷ url ∷ []
command_line (Bridge database other) = bridge_name ∷ database ∷ other ∷ []
command_line (Ask database command) = (spelled command).0 ∷ database ∷ (spelled command).1

-- it may be asked by a command line: numbers are within their limits, and a command may be spelled
abbrev pub MayBeAsked : Invoked → Type 0
MayBeAsked (Init database server primary) = (1 ≤ server) × (server ≤ 99) × (1 ≤ primary) × (primary ≤ 99)
MayBeAsked (Export database position out lines) = (1 ≤ lines) × (lines ≤ 100_000)
MayBeAsked (Serve database port count) = (1 ≤ port) × (port ≤ 65_535) × (count ≤ 999_999_999)
MayBeAsked (Ask database command) = may_be_spelled command ≡ true
MayBeAsked _ = ⊤

-- its command line asks for it
abbrev pub LinesReadBack : Type 0
LinesReadBack = (asked : Invoked) → MayBeAsked asked → invocation_of (command_line asked) ≡ Some asked
