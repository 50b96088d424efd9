use Rattle.std.proofs.Common.{refl}
use Rattle.mr_tasks.proofs.EndLaws.{as_about_room}
use Rattle.mr_tasks.proofs.tasks.asks_of_room.Goals as goal

pub returns-in-Calendar : goal.returns-in-Calendar
returns-in-Calendar c = λ _. as_about_room c.in-Calendar.is (_, _, refl)

pub returns-in-Sheet : goal.returns-in-Sheet
returns-in-Sheet c = λ _. as_about_room c.in-Sheet.is (_, _, refl)

pub returns-in-Outcome : goal.returns-in-Outcome
returns-in-Outcome c = λ _. as_about_room c.in-Outcome.is (_, _, refl)
