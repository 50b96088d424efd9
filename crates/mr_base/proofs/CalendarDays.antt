-- The months and the numbers of days are those of the calendar crate.
use Rattle.std.proofs.Common.{◌≡◌, refl, sym, ap, ◌∙◌, subst, ℕ, zero, suc, ◌+◌, ◌-◌, ◌%◌, ◌<◌, ◌≤◌, Bool, true, false, not, ◌&&◌, ◌||◌, cond, eqb, [], ◌∷◌, take, arith, eqb-true, pos, to_z, w8, w16}
use Rattle.std.proofs.lemmas.Bool.{agree_below, agree_below_at}
use Rattle.std.proofs.lemmas.Bool.Decides.{nat_tests}
use Rattle.std.proofs.lemmas.Int.{ints}
use Rattle.std.specs.List.{sum}
use Rattle.jiff_core.specs.Calendar as civil
use Rattle.jiff_core.specs.Calendar.{days_of_months, day_of_year, day_count, days_from_civil, weekday_number}
use Rattle.jiff_core.proofs.SignedLemmas.{signed_arith}
use Rattle.jiff_core.proofs.CalendarLemmas.{day_count-next_year, day_count-day_of_year, days_from_civil-day_count, weekday_number-parts}
use Rattle.jiff_core.proofs.MarchLemmas.{day_count-early}
use Rattle.mr_model.proofs.WordsReadBack.{days-le}
use Rattle.mr_model.specs.Texts.{within}
use Rattle.mr_model.specs.Calendar.{is_date, is_leap_year, month_lengths, days_in_month, days_in_year, days_in_years, number_of_day}

-- ---- years

-- two ways to say which years are leap years
by_fourths : (a b c : Bool) → (c ≡ true → a ≡ true) → ((a && not b) || c) ≡ (a && (not b || c))
by_fourths true b c h = refl
by_fourths false b true h = sym (h refl)
by_fourths false b false h = refl

four_hundredth : (y : ℕ) → eqb (y % 400) 0 ≡ true → eqb (y % 4) 0 ≡ true
four_hundredth y e = let z : y % 400 ≡ 0 = eqb-true (y % 400) 0 e in let f : y % 4 ≡ 0 = omega (arith, z) in ap (λ r. eqb r 0) f

pub leap : (y : ℕ) → is_leap_year y ≡ civil.is_leap_year (pos y)
leap y = by_fourths (eqb (y % 4) 0) (eqb (y % 100) 0) (eqb (y % 400) 0) (four_hundredth y)

year-by_leap : (b : Bool) → sum (31 ∷ cond b 29 28 ∷ 31 ∷ 30 ∷ 31 ∷ 30 ∷ 31 ∷ 31 ∷ 30 ∷ 31 ∷ 30 ∷ 31 ∷ []) ≡ cond b 366 365
year-by_leap true = refl
year-by_leap false = refl

-- a year has as many days
pub year-days : (y : ℕ) → days_in_year y ≡ civil.days_in_year (pos y)
year-days y = year-by_leap (is_leap_year y) ∙ ap (λ b. cond b 366 365) (leap y)

-- ---- months, one by one for the years 1990 to 2099

month_ok : ℕ → ℕ → Bool
month_ok n m = eqb (civil.days_in_month (pos (1990 + n)) (m + 1)) (days_in_month (1990 + n) (m + 1))

year_ok : ℕ → Bool
year_ok n = agree_below (month_ok n) (λ m. true) 12

all_years : agree_below year_ok (λ n. true) 110 ≡ true
unfolding year_ok month_ok
all_years = refl

-- a month has as many days
pub month-days : (y m : ℕ) → 1990 ≤ y → y ≤ 2099 → 1 ≤ m → m ≤ 12 → civil.days_in_month (pos y) m ≡ days_in_month y m
unfolding year_ok month_ok
month-days y m low high lo hi =
    let year : 1990 + (y - 1990) ≡ y = omega arith in
    let month : m - 1 + 1 ≡ m = omega arith in
    let at = agree_below_at (month_ok (y - 1990)) (λ k. true) 12 (m - 1) (agree_below_at year_ok (λ n. true) 110 (y - 1990) all_years (omega arith)) (omega arith) in
    subst (λ k. civil.days_in_month (pos y) k ≡ days_in_month y k) month
    (subst (λ k. civil.days_in_month (pos k) (m - 1 + 1) ≡ days_in_month k (m - 1 + 1)) year
    (eqb-true (civil.days_in_month (pos (1990 + (y - 1990))) (m - 1 + 1)) (days_in_month (1990 + (y - 1990)) (m - 1 + 1)) at))

-- ---- days

-- the parts of a date are in their ranges
pub record DateRanges (y m d : ℕ) : Type 0 where
  pub from : 1990 ≤ y
  pub to : y ≤ 2099
  pub january : 1 ≤ m
  pub december : m ≤ 12
  pub first : 1 ≤ d
  pub last : d ≤ days_in_month y m

in_ranges : (y m d n : ℕ) → (within 1990 2099 y && within 1 12 m && within 1 n d) ≡ true → (1990 ≤ y) × (y ≤ 2099) × (1 ≤ m) × (m ≤ 12) × (1 ≤ d) × (d ≤ n)
in_ranges y m d n h = grind (arith, nat_tests)

pub date_ranges : (y m d : ℕ) → is_date (record { year = y; month = m; day = d }) ≡ true → DateRanges y m d
date_ranges y m d h =
    let k = in_ranges y m d (days_in_month y m) h in
    record { from = k.0; to = k.1; january = k.2; december = k.3; first = k.4; last = k.5 }

-- the casts of the parts keep them
signed : (y m d : ℕ) → y ≤ 2099 → m ≤ 12 → d ≤ 31 → (to_z w16 y ≡ pos y) × (to_z w8 m ≡ pos m) × (to_z w8 d ≡ pos d)
signed y m d to december last = (omega (arith, ints), omega (arith, ints), omega (arith, ints))

-- a date within the calendar is one of the calendar crate
pub civil-is_date : (y m d : ℕ) → is_date (record { year = y; month = m; day = d }) ≡ true → civil.IsDate (to_z w16 y) (to_z w8 m) (to_z w8 d)
civil-is_date y m d h =
    let r = date_ranges y m d h in
    let days : civil.days_in_month (pos y) m ≡ days_in_month y m = month-days y m r.from r.to r.january r.december in
    let most : days_in_month y m ≤ 31 = days-le y m in
    let casts = signed y m d r.to r.december (omega (arith, most)) in
    let is : civil.IsDate (pos y) (pos m) (pos d) = omega (arith, ints, days) in
    rw (casts.0, casts.1, casts.2) is

tested : (y m d n : ℕ) → 1990 ≤ y → y ≤ 2099 → 1 ≤ m → m ≤ 12 → 1 ≤ d → d ≤ n → (within 1990 2099 y && within 1 12 m && within 1 n d) ≡ true
tested y m d n a b c e f g = grind (arith, nat_tests)

-- and one of the calendar crate in these years is within the calendar
pub is_date-civil : (y m d : ℕ) → 1990 ≤ y → y ≤ 2099 → m ≤ 12 → d ≤ 31 → civil.IsDate (to_z w16 y) (to_z w8 m) (to_z w8 d) → is_date (record { year = y; month = m; day = d }) ≡ true
is_date-civil y m d from to december short h =
    let casts = signed y m d to december short in
    let is : civil.IsDate (pos y) (pos m) (pos d) = rw (casts.0, casts.1, casts.2) at h in
    let january : 1 ≤ m = omega (arith, ints) in
    let days : civil.days_in_month (pos y) m ≡ days_in_month y m = month-days y m from to january december in
    tested y m d (days_in_month y m) from to january december (omega (arith, ints)) (omega (arith, ints, days))

-- ---- the numbers of days

before_ok : ℕ → ℕ → Bool
unfolding days_of_months
before_ok n m = eqb (days_of_months (pos (1990 + n)) m) (sum (take m (month_lengths (1990 + n))))

before_year_ok : ℕ → Bool
before_year_ok n = agree_below (before_ok n) (λ m. true) 12

all_before : agree_below before_year_ok (λ n. true) 110 ≡ true
unfolding before_year_ok before_ok days_of_months
all_before = refl

-- the first months of a year have as many days
months-before : (y m : ℕ) → 1990 ≤ y → y ≤ 2099 → m < 12 → days_of_months (pos y) m ≡ sum (take m (month_lengths y))
unfolding before_year_ok before_ok
months-before y m low high short =
    let year : 1990 + (y - 1990) ≡ y = omega arith in
    let at = agree_below_at (before_ok (y - 1990)) (λ k. true) 12 m (agree_below_at before_year_ok (λ n. true) 110 (y - 1990) all_before (omega arith)) short in
    subst (λ k. days_of_months (pos k) m ≡ sum (take m (month_lengths k))) year
    (eqb-true (days_of_months (pos (1990 + (y - 1990))) m) (sum (take m (month_lengths (1990 + (y - 1990))))) at)

-- where the calendar crate has the first of these days
day_count-1990 : day_count (pos 1990) 1 1 ≡ 4_379_258
day_count-1990 = day_count-early (pos 1990) 11989 1 1 refl (omega arith) (omega arith) (omega arith)

-- the first days of the years lie as far apart
day_count-years : (n : ℕ) → day_count (pos (n + 1990)) 1 1 ≡ days_in_years n + 4_379_258
day_count-years zero = day_count-1990
day_count-years (suc n) =
    let e : 1990 + n ≡ n + 1990 = omega arith in
    let days : days_in_year (1990 + n) ≡ civil.days_in_year (pos (n + 1990)) = ap days_in_year e ∙ year-days (n + 1990) in
    omega (arith, days, day_count-years n, day_count-next_year (pos (n + 1990)) (pos (suc n + 1990)) (omega (arith, signed_arith)) (omega (arith, signed_arith)))

-- from 1990-01-01 on, a Monday, the weekday is the number's remainder
pub weekday-number : (y m d : ℕ) → 1990 ≤ y → y ≤ 2099 → 1 ≤ m → m ≤ 12 → 1 ≤ d → weekday_number (days_from_civil (pos y) m d) ≡ number_of_day (record { year = y; month = m; day = d }) % 7
weekday-number y m d low high lo hi first =
    let e : (y - 1990) + 1990 ≡ y = omega arith in
    let years : day_count (pos y) 1 1 ≡ days_in_years (y - 1990) + 4_379_258 = subst (λ k. day_count (pos k) 1 1 ≡ days_in_years (y - 1990) + 4_379_258) e (day_count-years (y - 1990)) in
    let count : day_count (pos y) m d + 1 ≡ day_count (pos y) 1 1 + day_of_year (pos y) m d = day_count-day_of_year (pos y) m d first in
    let months : days_of_months (pos y) (m - 1) ≡ sum (take (m - 1) (month_lengths y)) = months-before y (m - 1) low high (omega arith) in
    by_parts (days_in_years (y - 1990)) (sum (take (m - 1) (month_lengths y))) years count months
  where
    by_parts : (years months : ℕ) → day_count (pos y) 1 1 ≡ years + 4_379_258 → day_count (pos y) m d + 1 ≡ day_count (pos y) 1 1 + (days_of_months (pos y) (m - 1) + d)
        → days_of_months (pos y) (m - 1) ≡ months → weekday_number (days_from_civil (pos y) m d) ≡ (years + months + (d - 1)) % 7
    by_parts years months a b c = omega (arith, weekday_number-parts (days_from_civil (pos y) m d), days_from_civil-day_count (pos y) m d)
