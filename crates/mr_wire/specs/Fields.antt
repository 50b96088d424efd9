-- The fields of a line, each taken off the front of a text, and the lines that are made of them.
use Rattle.std.specs.Prelude.{ℕ, zero, suc, not, ◌&&◌, nat_lt, if◌then◌else◌, List, [], ◌∷◌, ◌++◌, length, codes, bytes_eq, Option, Some, None}
use Rattle.mr_model.specs.Texts.{Text, whole_lines, only_if}
use Rattle.mr_model.specs.Calendar.{read_date, read_time}
use Rattle.mr_model.specs.Slots.{Slot}
use Rattle.mr_model.specs.Writes.{Id, Stamp, Books, Cancels, Write, is_room_name, is_title, greatest_alternatives}
use Rattle.mr_model.specs.Requests.{is_length_for}
use Rattle.mr_model.specs.Exchange.{Version, First, Second, Heading, Item, W, C, BodyLine, ItemLine, LastLine, Complete, More, version_word}
use Rattle.mr_model.specs.Positions.{Count, Position, is_position, position_word}
use Rattle.mr_wire.specs.Words.{cut}
use Rattle.mr_base.specs.Readings.{number_from_to}

infixl 10 ◌>>=◌
abbrev pub ◌>>=◌ : {A B : Type 0} → Option A → (A → Option B) → Option B
(Some x) >>= f = f x
None >>= f = None

-- a number and its space
unfoldable pub number_off : ℕ → ℕ → Text → Option (ℕ × Text)
number_off low high text = do
  word ← cut 32 text
  n ← number_from_to low high word.0
  Some (n, word.1)

-- the day and the time of a slot, each with its space
unfoldable pub slot_off : Text → Option (Slot × Text)
slot_off text = do
  word ← cut 32 text
  day ← read_date word.0
  next ← cut 32 word.1
  start ← read_time next.0
  Some (record { day = day; start = start }, next.1)

-- so many slots
unfoldable pub slots_off : ℕ → Text → Option (List Slot × Text)
slots_off zero text = Some ([], text)
slots_off (suc k) text = do
  slot ← slot_off text
  others ← slots_off k slot.1
  Some (slot.0 ∷ others.0, others.1)

unfoldable pub stamp_off : Text → Option (Stamp × Text)
stamp_off text = do
  server ← number_off 1 99 text
  n ← number_off 1 999_999_999 server.1
  time ← number_off 1 999_999_999_999 n.1
  Some (record { server = server.0; n = n.0; time = time.0 }, time.1)

-- a stamp and the name of a room, with which each write's line goes on behind its word
unfoldable pub front_off : Text → Option (Stamp × Text × Text)
front_off text = do
  stamp ← stamp_off text
  room ← cut 32 stamp.1
  only_if (is_room_name room.0) (stamp.0, room.0, room.1)

-- how many alternatives a booking of this version may have
abbrev pub most_alternatives : Version → ℕ
most_alternatives First = 8
most_alternatives Second = 16

-- the wish, the number of alternatives, of which there may be so many, and the alternatives
unfoldable pub choices_off : ℕ → Text → Option ((Slot × List Slot) × Text)
choices_off most text = do
  wish ← slot_off text
  few ← number_off 0 most wish.1
  others ← slots_off few.0 few.1
  Some ((wish.0, others.0), others.1)

-- the booking of these parts, where they are within the limits
unfoldable pub booking_with : Stamp → Text → ℕ → Slot → List Slot → Text → Option Write
booking_with stamp room minutes wish others title =
    only_if
    (is_title title && (is_length_for minutes (wish ∷ others) && not (nat_lt greatest_alternatives (length others))))
    (record {
      stamp = stamp;
      room = room;
      action = Books (record { title = title; length = minutes; wish = wish; alternatives = others });
    })

-- what stands behind the W of a booking's line
unfoldable pub parse_booking : Version → Text → Option Write
parse_booking v text = do
  front ← front_off text
  minutes ← number_off 1 1440 front.2
  choices ← choices_off (most_alternatives v) minutes.1
  booking_with front.0 front.1 minutes.0 choices.0.0 choices.0.1 choices.1

-- a server, and a number that ends the line
unfoldable pub server_and : ℕ → Text → Option (ℕ × ℕ)
server_and high text = do
  server ← number_off 1 99 text
  n ← number_from_to 1 high server.1
  Some (server.0, n)

-- the identity of a write that ends the line
unfoldable pub parse_id : Text → Option Id
parse_id text = do
  parts ← server_and 999_999_999 text
  Some (record { server = parts.0; n = parts.1 })

-- the stamp, the room and the target of a cancel
unfoldable pub cancel_parts : Text → Option (Stamp × Text × Id)
cancel_parts text = do
  front ← front_off text
  target ← parse_id front.2
  Some (front.0, front.1, target)

-- what stands behind the X of a cancel's line; the first version has none
abbrev pub parse_cancel : Version → Text → Option Write
parse_cancel First text = None
parse_cancel Second text = cancel_parts text >>= λ c. Some (record { stamp = c.0; room = c.1; action = Cancels c.2 })

-- what stands behind the C of a commit's line
unfoldable pub commit_of : Text → Option Item
commit_of text = do
  seq ← number_off 1 999_999_999_999 text
  id ← parse_id seq.1
  Some (C seq.0 id)

-- what stands behind the word, where a text begins with it
unfoldable pub behind_word : Text → Text → Option Text
behind_word word text = do
  first ← cut 32 text
  only_if (bytes_eq first.0 word) first.1

-- the version that has this word, of the words of the first and of the second
unfoldable pub version_among : Text → Text → Text → Option Version
version_among first second word = if bytes_eq word first then Some First else (if bytes_eq word second then Some Second else None)

-- one of these two words, and two servers
unfoldable pub servers_under : Text → Text → Text → Option (Version × ℕ × ℕ)
servers_under first second text = do
  word ← cut 32 text
  version ← version_among first second word.0
  servers ← server_and 99 word.1
  Some (version, servers.0, servers.1)

unfoldable pub heading_of : Text → Option Heading
heading_of text = do
  found ← servers_under (version_word First) (version_word Second) text
  Some (record { version = found.0; header = record { from = found.1; primary = found.2 } })

-- a line by its first word
unfoldable pub worded_line : Version → Text → Text → Option BodyLine
worded_line v word rest =
    if bytes_eq word (codes "W") then (parse_booking v rest >>= λ w. Some (ItemLine (W w)))
    else (if bytes_eq word (codes "X") then (parse_cancel v rest >>= λ w. Some (ItemLine (W w)))
    else (if bytes_eq word (codes "C") then (commit_of rest >>= λ c. Some (ItemLine c)) else None))

-- a line of one word
unfoldable pub bare_line : Text → Option BodyLine
bare_line text =
    if bytes_eq text (codes "E") then Some (LastLine Complete)
    else (if bytes_eq text (codes "M") then Some (LastLine More) else None)

abbrev pub line_by : Version → Text → Option (Text × Text) → Option BodyLine
line_by v text (Some (word, rest)) = worded_line v word rest
line_by v text None = bare_line text

-- a line below the header
abbrev pub parse_line : Version → Text → Option BodyLine
parse_line v text = line_by v text (cut 32 text)

-- ---- positions

unfoldable pub servers_of : Text → Option (Version × ℕ × ℕ)
servers_of text = servers_under (position_word First) (position_word Second) text

unfoldable pub parse_commits : Text → Option ℕ
parse_commits text = do
  rest ← behind_word (codes "K") text
  number_from_to 0 999_999_999_999 rest

unfoldable pub parse_count : Text → Option Count
parse_count text = do
  rest ← behind_word (codes "V") text
  c ← server_and 999_999_999 rest
  Some (record { server = c.0; count = c.1 })

abbrev pub no_more : List Text → Option (List Count)
no_more [] = Some []
no_more (l ∷ ls) = None

-- these counts, and those that are read behind them
abbrev pub with_counts : List Count → Option (List Count) → Option (List Count)
with_counts front read = read >>= λ cs. Some (front ++ cs)

-- the counts up to the last line
abbrev pub counts_until_end : List Text → Option (List Count)
counts_until_end [] = None
counts_until_end (l ∷ ls) =
    if bytes_eq l (codes "E") then no_more ls
    else (parse_count l >>= λ c. (counts_until_end ls >>= λ cs. Some (c ∷ cs)))

abbrev pub if_position : Position → Option Position
if_position p = only_if (is_position p) p

-- all lines of a position
unfoldable pub position_on : Text → Option Position
position_on text = do
  first ← cut 10 text
  second ← cut 10 first.1
  servers ← servers_of first.0
  commits ← parse_commits second.0
  counts ← counts_until_end (whole_lines second.1)
  if_position (record { version = servers.0; server = servers.1; primary = servers.2; commits = commits; counts = counts })
