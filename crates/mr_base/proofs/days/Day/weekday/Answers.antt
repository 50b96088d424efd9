use Rattle.std.proofs.Common.{◌≡◌, ◌∙◌, pos, arith}
use Rattle.std.proofs.lemmas.Int.{ints}
use Rattle.mr_model.proofs.WordsReadBack.{days-le}
use Rattle.mr_base.proofs.CalendarDays.{date_ranges, civil-is_date, weekday-number}
use Rattle.mr_base.proofs.days.Day.weekday.Goals as goal

pub date-requires : goal.date-requires
date-requires c = civil-is_date c.self.inside.year c.self.inside.month c.self.inside.day c.self.invariant

pub returns : goal.returns
returns c =
    let r = date_ranges c.self.inside.year c.self.inside.month c.self.inside.day c.self.invariant in
    let most = days-le c.self.inside.year c.self.inside.month in
    let year : c.date.result.year ≡ pos c.self.inside.year = omega (arith, ints) in
    let month : c.date.result.month ≡ c.self.inside.month = omega (arith, ints) in
    let day : c.date.result.day ≡ c.self.inside.day = omega (arith, ints) in
    rw (← c.self.view_is) (c.weekday.ensures ∙ rw (year, month, day) (weekday-number _ _ _ r.from r.to r.january r.december r.first))
