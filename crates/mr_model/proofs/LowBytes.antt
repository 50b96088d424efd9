-- Texts of bytes below 128, as days, times and words are.
use Rattle.std.proofs.Common.{◌≡◌, ℕ, ◌+◌, ◌/◌, ◌%◌, ◌<◌, ◌≤◌, true, List, [], ◌∷◌, arith, lit<}
use Rattle.std.specs.List.{AllByRecursion}
use Rattle.mr_model.specs.Texts.{Text, words}
use Rattle.mr_model.specs.Calendar.{Date, is_date, date_text, time_text}
use Rattle.mr_model.proofs.WordsReadBack.{all_append, date_facts}

abbrev pub Low : Text → Type 0
Low t = AllByRecursion (λ c. c < 128) t

two_low : (n : ℕ) → n < 100 → (48 + n / 10 < 128) × (48 + n % 10 < 128)
two_low n h = (omega (arith, h), omega (arith, h))

pub date_low : (d : Date) → is_date d ≡ true → Low (date_text d)
date_low d ok =
    let f = date_facts d ok in
    let y : d.year < 2100 = f.to_2099 in
    let century = two_low (d.year / 100) (omega (arith, y)) in
    let year = two_low (d.year % 100) (omega arith) in
    let month = two_low d.month f.month in
    let day = two_low d.day f.day in
    (century.0, (century.1, (year.0, (year.1, (lit< tt, (month.0, (month.1, (lit< tt, (day.0, (day.1, tt))))))))))

pub time_low : (n : ℕ) → n ≤ 1439 → Low (time_text n)
time_low n h =
    let hour = two_low (n / 60) (omega (arith, h)) in
    let minute = two_low (n % 60) (omega arith) in
    (hour.0, (hour.1, (lit< tt, (minute.0, (minute.1, tt)))))

pub words_low : (ws : List Text) → AllByRecursion Low ws → Low (words ws)
words_low [] h = tt
words_low (w ∷ []) h = h.0
words_low (w ∷ v ∷ ws) h = all_append (λ c. c < 128) w (32 ∷ words (v ∷ ws)) h.0 (lit< tt, words_low (v ∷ ws) h.1)
