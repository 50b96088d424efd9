-- What the tables answer to a question.
use Rattle.std.specs.List.Sorted.{IsPermutation}
use Rattle.mr_model.specs.Tables.{Tables}
use Rattle.mr_replica.specs.Picked.{picked_errors, picked_cancelled, picked_cancels, AreBookings, IsPlaceOf}
use Rattle.mr_replica.specs.declared.questions.Question.{Question}
use Rattle.mr_replica.specs.declared.questions.Question.TheVariants as asked
use Rattle.mr_replica.specs.declared.questions.Answer.{Answer}
use Rattle.mr_replica.specs.declared.questions.Answer.TheVariants as told

-- the answer has the question's name, whatever its rows
abbrev pub IsNamedAs : Question → Answer → Type 0
IsNamedAs asked.Rooms (told.Rooms rooms) = Unit {0}
IsNamedAs (asked.Bookings room day) (told.Bookings rows) = Unit {0}
IsNamedAs (asked.PlaceOf room id) (told.PlaceOf row) = Unit {0}
IsNamedAs (asked.Errors room) (told.Errors rows) = Unit {0}
IsNamedAs (asked.Cancelled room) (told.Cancelled rows) = Unit {0}
IsNamedAs (asked.Cancels room) (told.Cancels rows) = Unit {0}
IsNamedAs question answer = ⊥

-- the answer has the rows of these tables that the question asks for
abbrev pub IsAnswerTo : Question → Tables → Answer → Type 0
IsAnswerTo asked.Rooms t (told.Rooms rooms) = IsPermutation t.room rooms.items
IsAnswerTo (asked.Bookings room day) t (told.Bookings rows) = AreBookings room.now day t rows.items
IsAnswerTo (asked.PlaceOf room id) t (told.PlaceOf row) = IsPlaceOf room.now id t row
IsAnswerTo (asked.Errors room) t (told.Errors rows) = IsPermutation (picked_errors room.now t) rows.items
IsAnswerTo (asked.Cancelled room) t (told.Cancelled rows) = IsPermutation (picked_cancelled room.now t) rows.items
IsAnswerTo (asked.Cancels room) t (told.Cancels rows) = IsPermutation (picked_cancels room.now t) rows.items
IsAnswerTo question t answer = ⊥
