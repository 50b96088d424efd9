-- Slots that overlap, days with their weekdays, and writes executed on a board, computed by the definitions.
use Rattle.std.specs.Prelude.{◌≡◌, ℕ, true, false, [], ◌∷◌, map, codes, Option, Some, None, refl}
use Rattle.std.specs.Fmt.{digits}
use Rattle.mr_model.specs.Texts.{Text, numbers_on}
use Rattle.mr_model.specs.Calendar.{Date, days_in_february, days_in_month, read_date, weekday_name}
use Rattle.mr_model.specs.Slots.{Slot, overlaps}
use Rattle.mr_model.specs.Writes.{Books, Cancels, Write}
use Rattle.mr_model.specs.Replay.{Taken, Logged, Done, Void}
use Rattle.mr_model.specs.Board.{board_replay}

abbrev day : Date
day = record { year = 1995; month = 12; day = 18 }

abbrev from_minute : ℕ → Slot
from_minute start = record { day = day; start = start }

-- ---- overlap

-- one minute in both, and none
one_minute : overlaps (from_minute 0) 11 (from_minute 10) 5 ≡ true
one_minute = refl

touching : overlaps (from_minute 0) 10 (from_minute 10) 5 ≡ false
touching = refl

-- a slot without a minute overlaps nothing, though it lies within another
no_minute : overlaps (from_minute 10) 0 (from_minute 5) 30 ≡ false
no_minute = refl

no_minute_behind : overlaps (from_minute 5) 30 (from_minute 10) 0 ≡ false
no_minute_behind = refl

-- a length past midnight does not reach the next day
next_day : overlaps (from_minute 1439) 60 (record { day = record { year = 1995; month = 12; day = 19 }; start = 0 }) 60 ≡ false
next_day = refl

-- ---- days

abbrev weekday_in : Option Date → Text
weekday_in None = codes "none"
weekday_in (Some d) = weekday_name d

weekdays :
    map (λ s. weekday_in (read_date (codes s))) ("1990-01-01" ∷ "1990-01-07" ∷ "1996-02-29" ∷ "1999-12-31" ∷ "2000-02-29" ∷ "2000-03-01" ∷ "2099-12-31" ∷ [])
    ≡ map codes ("Monday" ∷ "Sunday" ∷ "Thursday" ∷ "Friday" ∷ "Tuesday" ∷ "Wednesday" ∷ "Thursday" ∷ [])
unfolding digits
weekdays = refl

-- days outside the years, outside their month, and in other spellings
no_days :
    map (λ s. weekday_in (read_date (codes s))) ("1989-12-31" ∷ "2100-01-01" ∷ "1995-00-18" ∷ "1995-04-31" ∷ "1995-12-00" ∷ "1995-2-01" ∷ "1995/12/18" ∷ "1995-12-18 " ∷ "" ∷ [])
    ≡ map codes ("none" ∷ "none" ∷ "none" ∷ "none" ∷ "none" ∷ "none" ∷ "none" ∷ "none" ∷ "none" ∷ [])
unfolding digits
no_days = refl

-- how long the months are, and the February of some years
months : map (days_in_month 1999) (numbers_on 1 12) ≡ 31 ∷ 28 ∷ 31 ∷ 30 ∷ 31 ∷ 30 ∷ 31 ∷ 31 ∷ 30 ∷ 31 ∷ 30 ∷ 31 ∷ []
months = refl

februaries : map days_in_february (1996 ∷ 1998 ∷ 2000 ∷ 2096 ∷ 2099 ∷ []) ≡ 29 ∷ 28 ∷ 29 ∷ 29 ∷ 28 ∷ []
februaries = refl

-- ---- a board

abbrev alpha : Write
alpha = record {
  stamp = record { server = 2; n = 1; time = 1 };
  room = codes "oak";
  action = Books (record { title = codes "Alpha"; length = 60; wish = record { day = day; start = 540 }; alternatives = record { day = day; start = 600 } ∷ [] });
}

abbrev beta : Write
beta = record {
  stamp = record { server = 2; n = 2; time = 2 };
  room = codes "oak";
  action = Books (record { title = codes "Beta"; length = 60; wish = record { day = day; start = 600 }; alternatives = [] });
}

abbrev xray : Write
xray = record {
  stamp = record { server = 1; n = 1; time = 1 };
  room = codes "oak";
  action = Books (record { title = codes "Xray"; length = 30; wish = record { day = day; start = 540 }; alternatives = [] });
}

abbrev other : Write
other = record {
  stamp = record { server = 3; n = 1; time = 1 };
  room = codes "elm";
  action = Books (record { title = codes "Other"; length = 60; wish = record { day = day; start = 540 }; alternatives = [] });
}

-- two requests at their wishes
two_requests : board_replay (alpha ∷ beta ∷ []) ≡ Taken 0 ∷ Taken 0 ∷ []
two_requests = refl

-- with an early one before them the first goes to its alternative, and the second finds that taken; another room is apart
early_request : board_replay (xray ∷ alpha ∷ other ∷ beta ∷ []) ≡ Taken 0 ∷ Taken 1 ∷ Taken 0 ∷ Logged ∷ []
early_request = refl

abbrev cancel_of : ℕ → ℕ → Write
cancel_of n time = record { stamp = record { server = 1; n = n; time = time }; room = codes "oak"; action = Cancels (record { server = 2; n = 1 }) }

-- a cancel frees the slot of its target, once; in another room, and before its target, it finds nothing
cancelled_once : board_replay (alpha ∷ cancel_of 2 2 ∷ xray ∷ cancel_of 3 3 ∷ []) ≡ Taken 0 ∷ Done ∷ Taken 0 ∷ Void ∷ []
cancelled_once = refl

cancelled_elsewhere : board_replay (alpha ∷ record (cancel_of 2 2) { room = codes "elm" } ∷ xray ∷ []) ≡ Taken 0 ∷ Void ∷ Logged ∷ []
cancelled_elsewhere = refl

cancelled_before : board_replay (cancel_of 2 1 ∷ alpha ∷ xray ∷ []) ≡ Void ∷ Taken 0 ∷ Logged ∷ []
cancelled_before = refl
