-- Commands and replies, as values of the definitions.
use Rattle.std.specs.Prelude.{map, Result, Ok, Err}
use Rattle.std.specs.String.{string_bytes}
use Rattle.mr_model.specs.View.{AskSheet, AskCalendar, AskOutcome, AskErrors}
use Rattle.mr_model.specs.Step as model
use Rattle.mr_model.specs.Replies as replies
use Rattle.mr_model.specs.Queries as queries
use Rattle.mr_model.specs.Queries.{row_entry, line_logging}
use Rattle.mr_base.specs.declared.refusals.Refusal.{Refusal}
use Rattle.mr_base.specs.RefusalViews.{refusal_of}
use Rattle.mr_service.specs.declared.commands.Command.{Command}
use Rattle.mr_service.specs.declared.commands.Command.TheVariants as command
use Rattle.mr_service.specs.declared.commands.Local.{Local}
use Rattle.mr_service.specs.declared.commands.Local.TheVariants as local
use Rattle.mr_service.specs.declared.commands.CalendarPart.{CalendarPart}
use Rattle.mr_service.specs.declared.commands.CalendarPart.TheVariants as part
use Rattle.mr_service.specs.declared.commands.Submission.{Submission}
use Rattle.mr_service.specs.declared.commands.SlotWords.{SlotWords}
use Rattle.mr_service.specs.declared.replies.Reply.{Reply}
use Rattle.mr_service.specs.declared.replies.Reply.TheVariants as reply
use Rattle.mr_service.specs.declared.replies.LogLine.{LogLine}
use Rattle.mr_service.specs.declared.replies.LogLine.TheVariants as log_line
use Rattle.mr_service.specs.declared.replies.Outcome.{Outcome}
use Rattle.mr_service.specs.declared.replies.Outcome.TheVariants as outcome

-- ---- commands

abbrev pub words_of : SlotWords → model.SlotWords
words_of w = record { day = string_bytes w.day; time = string_bytes w.time }

abbrev pub submission_of : Submission → model.Submission
submission_of s =
    record {
      room = string_bytes s.room;
      title = string_bytes s.title;
      length = string_bytes s.length;
      wish = words_of s.wish;
      alternatives = map words_of s.alternatives.items;
    }

abbrev pub part_seen : CalendarPart → replies.CalendarPart
part_seen part.Full = replies.Full
part_seen part.Committed = replies.Committed

abbrev pub local_of : Local → model.Command
local_of (local.AddRoom room) = model.AddRoom (string_bytes room)
local_of (local.Submit s) = model.Submit (submission_of s)
local_of (local.Cancel room id) = model.Cancel (string_bytes room) (string_bytes id)
local_of (local.Commit k) = model.Commit k
local_of (local.Truncate d) = model.Truncate d
local_of local.Position = model.AskPosition
local_of (local.BatchFor position max_lines) = model.BatchFor position.items max_lines
local_of (local.Calendar room part) = model.Ask (string_bytes room) (AskCalendar (part_seen part))
local_of (local.Sheet room day) = model.Ask (string_bytes room) (AskSheet (string_bytes day))
local_of (local.Outcome room id) = model.Ask (string_bytes room) (AskOutcome (string_bytes id))
local_of (local.Errors room) = model.Ask (string_bytes room) AskErrors

abbrev pub command_seen : Command → model.Command
command_seen (command.Local l) = local_of l
command_seen (command.Receive bytes) = model.Receive bytes.items

-- ---- replies

abbrev pub outcome_seen : Outcome → replies.Outcome
outcome_seen (outcome.Booked b) = replies.Booked b.id b.is_committed b.day b.start b.stop
outcome_seen (outcome.Logged id is_committed) = replies.NotBooked id is_committed
outcome_seen (outcome.Cancelled id is_committed by by_committed) = replies.Cancelled id is_committed by_committed by
outcome_seen (outcome.Cancels id is_committed target) = replies.CancelDone id is_committed target
outcome_seen (outcome.Void id is_committed target) = replies.CancelVoid id is_committed target

abbrev pub log_line_seen : LogLine → queries.LogLine
log_line_seen (log_line.Request row) = queries.OfLogged row
log_line_seen (log_line.VoidCancel row) = queries.OfVoid row

abbrev pub reply_of : Reply → replies.Reply
reply_of reply.RoomAdded = replies.RoomAdded
reply_of (reply.Outcome o) = replies.OutcomeIs (outcome_seen o)
reply_of (reply.Took writes commits) = replies.Took writes commits
reply_of (reply.Committed n) = replies.CommittedIs n
reply_of (reply.Dropped n) = replies.DroppedIs n
reply_of (reply.Position p) = replies.PositionIs p
reply_of (reply.Batch b) = replies.BatchIs b
reply_of (reply.Sheet room day rows) = replies.Sheet room day (map row_entry rows.items)
reply_of (reply.Calendar room part rows) = replies.Calendar room (part_seen part) (map row_entry rows.items)
reply_of (reply.Errors room lines) = replies.Errors room (map line_logging (map log_line_seen lines.items))
reply_of (reply.Refused e) = replies.Refused (refusal_of e)

-- what is replied where a call answers this
abbrev pub reply_in : Result Reply Refusal → replies.Reply
reply_in (Ok r) = reply_of r
reply_in (Err e) = replies.Refused (refusal_of e)
