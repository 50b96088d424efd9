-- What is read of a word: the value that is spelled so, if there is one. Behind it, the same value by its bytes.
use Rattle.std.specs.Prelude.{ℕ, ◌+◌, ◌-◌, ◌*◌, Bool, not, ◌&&◌, ◌||◌, ◌==◌, nat_le, nat_lt, if◌then◌else◌, length, slice_index, decimal, bytes_eq, Option, Some, None}
use Rattle.std.specs.Char.{is_ascii_digit}
use Rattle.std.specs.List.{list_all, before_first, after_first}
use Rattle.mr_model.specs.Texts.{Text, within, number_in, only_if}
use Rattle.mr_model.specs.Calendar.{Date, is_date}
use Rattle.mr_model.specs.Writes.{Id, id_in, is_id_text}

-- the number from low to high that is written so in decimal, without leading zeros
abbrev pub number_from_to : ℕ → ℕ → Text → Option ℕ
number_from_to low high text =
    only_if (within low high (number_in text) && bytes_eq (decimal (number_in text)) text) (number_in text)

-- the id that is written so
abbrev pub read_id : Text → Option Id
read_id text = only_if (is_id_text text) (id_in text)

-- ---- by the bytes

-- digits, at least one, and the first is 0 only where it is the only one
abbrev pub is_number : Text → Bool
is_number text =
    list_all is_ascii_digit text && nat_le 1 (length text) && (not (slice_index text 0 == 48) || length text == 1)

abbrev pub number_by_digits : ℕ → ℕ → Text → Option ℕ
number_by_digits low high text = only_if (is_number text && within low high (number_in text)) (number_in text)

abbrev pub id_of_parts : Option ℕ → Option ℕ → Option Id
id_of_parts (Some server) (Some n) = Some (record { server = server; n = n })
id_of_parts (Some server) None = None
id_of_parts None _ = None

-- a server, a hyphen and a count
abbrev pub id_by_parts : Text → Option Id
id_by_parts text =
    id_of_parts (number_from_to 1 99 (before_first (λ c. c == 45) text))
    (number_from_to 1 999_999_999 (after_first (λ c. c == 45) text))

-- the number of two digits
abbrev pub pair_in : ℕ → ℕ → Option ℕ
pair_in tens ones = only_if (within 48 57 tens && within 48 57 ones) (10 * (tens - 48) + (ones - 48))

abbrev pub date_if : ℕ → ℕ → ℕ → Option Date
date_if year month day = only_if (is_date (record { year = year; month = month; day = day })) (record { year = year; month = month; day = day })

abbrev pub date_of_parts : Option ℕ → Option ℕ → Option ℕ → Option ℕ → Option Date
date_of_parts (Some century) (Some year) (Some month) (Some day) = date_if (century * 100 + year) month day
date_of_parts _ _ _ _ = None

-- four pairs of digits, with a hyphen behind the second and the third
abbrev pub date_by_digits : Text → Option Date
date_by_digits s =
    if (length s == 10) && (slice_index s 4 == 45) && (slice_index s 7 == 45)
    then date_of_parts (pair_in (slice_index s 0) (slice_index s 1)) (pair_in (slice_index s 2) (slice_index s 3))
    (pair_in (slice_index s 5) (slice_index s 6)) (pair_in (slice_index s 8) (slice_index s 9))
    else None

abbrev pub minute_of_parts : Option ℕ → Option ℕ → Option ℕ
minute_of_parts (Some hour) (Some minute) = only_if (nat_lt hour 24 && nat_lt minute 60) (hour * 60 + minute)
minute_of_parts (Some hour) None = None
minute_of_parts None _ = None

-- two pairs of digits with a colon between them
abbrev pub minute_by_digits : Text → Option ℕ
minute_by_digits s =
    if (length s == 5) && (slice_index s 2 == 58)
    then minute_of_parts (pair_in (slice_index s 0) (slice_index s 1)) (pair_in (slice_index s 3) (slice_index s 4))
    else None
