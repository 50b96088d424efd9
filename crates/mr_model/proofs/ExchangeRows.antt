-- Batches and positions of both versions, computed by the definitions.
use Rattle.std.specs.Prelude.{◌≡◌, ℕ, nat_lt, if◌then◌else◌, List, [], ◌∷◌, length, take, codes, map, refl}
use Prim.Native.String.{String}
use Rattle.std.specs.Fmt.{digits}
use Rattle.mr_model.specs.Texts.{Text, lines_text, numbers_on}
use Rattle.mr_model.specs.Replica.{Replica, opening}
use Rattle.mr_model.specs.Replies.{Reply, Took}
use Rattle.mr_model.specs.Step.{AddRoom, Submit, Cancel, Commit, Truncate, Receive, BatchFor, SlotWords, Submission, step}
use Rattle.mr_model.specs.View.{AskSheet, AskOutcome, AskErrors}
use Rattle.mr_model.proofs.Script.{Do, Lines, Ask, Answers, Order, replica_after, replies_from}

abbrev at : String → SlotWords
at time = record { day = codes "1995-12-18"; time = codes time }

abbrev booking : String → List SlotWords → String → Submission
booking start alternatives title = record { room = codes "oak"; title = codes title; length = codes "60"; wish = at start; alternatives = alternatives }

-- a position by its lines, which asks for at most this many lines
abbrev asks : List String → ℕ → Order
asks ls max_lines = Do (BatchFor (lines_text (map codes ls)) max_lines)

-- ---- the batches of one replica in either version

-- Alpha, which is committed and then cancelled, Beta at its alternative, Gamma in Alpha's place, and a void cancel
abbrev cancelled_once : Replica
cancelled_once =
    replica_after (opening 1 1)
    (Do (AddRoom (codes "oak")) ∷ Do (Submit (booking "09:00" [] "Alpha")) ∷ Do (Submit (booking "09:00" (at "10:00" ∷ []) "Beta"))
    ∷ Do (Commit 1) ∷ Do (Cancel (codes "oak") (codes "1-1")) ∷ Do (Submit (booking "09:00" [] "Gamma"))
    ∷ Do (Cancel (codes "oak") (codes "1-1")) ∷ [])

-- asked by a position of the first version, it answers in that version as long as no line of a cancel would be given
first_three_lines :
    replies_from cancelled_once (asks ("mp1 9 1" ∷ "K 0" ∷ "E" ∷ []) 3 ∷ [])
    ≡ lines_text (map codes ("mr1 1 1" ∷ "W 1 1 1 oak 60 1995-12-18 09:00 0 Alpha" ∷ "C 1 1 1" ∷ "W 1 2 2 oak 60 1995-12-18 09:00 1 1995-12-18 10:00 Beta" ∷ "M" ∷ []))
unfolding digits
first_three_lines = refl

bytes_of_three : length (replies_from cancelled_once (asks ("mp1 9 1" ∷ "K 0" ∷ "E" ∷ []) 3 ∷ [])) ≡ 114
unfolding digits
bytes_of_three = refl

four_lines : replies_from cancelled_once (asks ("mp1 9 1" ∷ "K 0" ∷ "E" ∷ []) 4 ∷ []) ≡ lines_text (codes "refused 27 NeedsVersion2" ∷ [])
unfolding digits
four_lines = refl

-- asked in the second version, all lines
all_lines :
    replies_from cancelled_once (asks ("mp2 9 1" ∷ "K 0" ∷ "E" ∷ []) 10 ∷ [])
    ≡ lines_text (map codes ("mr2 1 1" ∷ "W 1 1 1 oak 60 1995-12-18 09:00 0 Alpha" ∷ "C 1 1 1" ∷ "W 1 2 2 oak 60 1995-12-18 09:00 1 1995-12-18 10:00 Beta"
    ∷ "X 1 3 3 oak 1 1" ∷ "W 1 4 4 oak 60 1995-12-18 09:00 0 Gamma" ∷ "X 1 5 5 oak 1 1" ∷ "E" ∷ []))
unfolding digits
all_lines = refl

bytes_of_all : length (replies_from cancelled_once (asks ("mp2 9 1" ∷ "K 0" ∷ "E" ∷ []) 10 ∷ [])) ≡ 186
unfolding digits
bytes_of_all = refl

-- another primary and what was dropped come before a version that is too small; and where no line of a cancel would be given, the
-- first version is enough
first_faults :
    Answers 9 1
    (Lines ("mr2 1 1" ∷ "W 1 1 1 oak 30 1995-12-18 09:00 0 Alpha" ∷ "C 1 1 1" ∷ "X 1 2 2 oak 1 1" ∷ "E" ∷ [])
    ∷ asks ("mp1 8 3" ∷ "K 0" ∷ "E" ∷ []) 10 ∷ asks ("mp1 8 1" ∷ "K 0" ∷ "E" ∷ []) 10
    ∷ Do (Truncate 1) ∷ asks ("mp1 8 1" ∷ "K 0" ∷ "E" ∷ []) 10
    ∷ asks ("mp1 8 1" ∷ "K 1" ∷ "V 1 2" ∷ "E" ∷ []) 10 ∷ asks ("mp3 8 1" ∷ "K 0" ∷ "E" ∷ []) 10 ∷ [])
    ("took 2 writes 1 commits" ∷ "refused 16 WrongPrimary" ∷ "refused 27 NeedsVersion2"
    ∷ "dropped 1" ∷ "refused 22 Truncated" ∷ "mr1 9 1" ∷ "E" ∷ "refused 23 BadPosition" ∷ [])
unfolding digits
first_faults = refl

-- eight alternatives are in the first version, nine in the second alone
abbrev eight : List SlotWords
eight = at "10:00" ∷ at "11:00" ∷ at "12:00" ∷ at "13:00" ∷ at "14:00" ∷ at "15:00" ∷ at "16:00" ∷ at "17:00" ∷ []

nine_need_the_second :
    Answers 1 1
    (Do (AddRoom (codes "oak")) ∷ Do (Submit (booking "09:00" eight "Eight")) ∷ asks ("mp1 9 1" ∷ "K 0" ∷ "E" ∷ []) 10
    ∷ Do (Submit (booking "09:00" (at "18:00" ∷ eight) "Nine")) ∷ asks ("mp1 9 1" ∷ "K 0" ∷ "E" ∷ []) 10 ∷ asks ("mp2 9 1" ∷ "K 0" ∷ "V 1 1" ∷ "E" ∷ []) 10 ∷ [])
    ("ok" ∷ "1-1 T 1995-12-18 09:00-10:00"
    ∷ "mr1 1 1" ∷ "W 1 1 1 oak 60 1995-12-18 09:00 8 1995-12-18 10:00 1995-12-18 11:00 1995-12-18 12:00 1995-12-18 13:00 1995-12-18 14:00 1995-12-18 15:00 1995-12-18 16:00 1995-12-18 17:00 Eight" ∷ "E"
    ∷ "1-2 T 1995-12-18 18:00-19:00" ∷ "refused 27 NeedsVersion2"
    ∷ "mr2 1 1" ∷ "W 1 2 2 oak 60 1995-12-18 09:00 9 1995-12-18 18:00 1995-12-18 10:00 1995-12-18 11:00 1995-12-18 12:00 1995-12-18 13:00 1995-12-18 14:00 1995-12-18 15:00 1995-12-18 16:00 1995-12-18 17:00 Nine" ∷ "E" ∷ [])
unfolding digits
nine_need_the_second = refl

-- ---- a batch that a replica asks for by its own position, cut after j bytes

-- Alpha, and Beta of another server, asked for by a replica that knows nothing
abbrev made : Text
made =
    replies_from
    (replica_after (opening 1 1)
    (Do (AddRoom (codes "oak")) ∷ Do (Submit (booking "14:00" [] "Alpha")) ∷ Lines ("mr1 2 1" ∷ "W 2 1 1 oak 60 1995-12-18 13:30 1 1995-12-18 15:00 Beta" ∷ "E" ∷ []) ∷ []))
    (asks ("mp2 9 1" ∷ "K 0" ∷ "E" ∷ []) 64 ∷ [])

abbrev made_text : Text
made_text = lines_text (map codes ("mr2 1 1" ∷ "W 1 1 1 oak 60 1995-12-18 14:00 0 Alpha" ∷ "W 2 1 1 oak 60 1995-12-18 13:30 1 1995-12-18 15:00 Beta" ∷ "E" ∷ []))

made_lines : made ≡ made_text
unfolding digits
made_lines = refl

length_of_made : length made ≡ 106
unfolding digits
length_of_made = refl

abbrev took_at : ℕ → Reply
took_at j = if nat_lt j 48 then Took 0 0 else (if nat_lt j 104 then Took 1 0 else Took 2 0)

abbrev reply_to_cut : ℕ → Reply
reply_to_cut j = (step (opening 9 1) (Receive (take j made_text))).reply

cuts : map reply_to_cut (numbers_on 0 107) ≡ map took_at (numbers_on 0 107)
unfolding digits
cuts = refl

-- ---- what is received

-- a cancel that comes before its target is void, and stays so
cancel_first :
    Answers 9 1
    (Lines ("mr2 1 1" ∷ "X 1 1 1 oak 2 1" ∷ "E" ∷ []) ∷ Ask "oak" AskErrors
    ∷ Lines ("mr1 1 1" ∷ "W 2 1 2 oak 30 1995-12-18 09:00 0 Late" ∷ "E" ∷ []) ∷ Ask "oak" (AskSheet (codes "1995-12-18"))
    ∷ asks ("mp1 8 1" ∷ "K 0" ∷ "V 1 1" ∷ "E" ∷ []) 10 ∷ [])
    ("took 1 writes 0 commits" ∷ "oak errors" ∷ "T 1-1 cancel 2-1" ∷ "took 1 writes 0 commits"
    ∷ "oak 1995-12-18 Monday" ∷ "09:00-09:30 T 2-1 Late"
    ∷ "mr1 9 1" ∷ "W 2 1 2 oak 30 1995-12-18 09:00 0 Late" ∷ "E" ∷ [])
unfolding digits
cancel_first = refl

bytes_of_late : length (lines_text (map codes ("mr1 9 1" ∷ "W 2 1 2 oak 30 1995-12-18 09:00 0 Late" ∷ "E" ∷ []))) ≡ 49
bytes_of_late = refl

-- the first version has no cancels, and no more than eight alternatives
no_cancel_in_first : Answers 9 1 (Lines ("mr1 1 1" ∷ "X 1 1 1 oak 2 1" ∷ "E" ∷ []) ∷ []) ("refused 15 BadLine 2" ∷ [])
unfolding digits
no_cancel_in_first = refl

nine_in_second :
    Answers 9 1
    (Lines ("mr1 1 1" ∷ "W 1 1 1 oak 30 1995-12-18 09:00 9 1995-12-18 09:00 1995-12-18 09:00 1995-12-18 09:00 1995-12-18 09:00 1995-12-18 09:00 1995-12-18 09:00 1995-12-18 09:00 1995-12-18 09:00 1995-12-18 09:00 Alpha" ∷ "E" ∷ [])
    ∷ Lines ("mr2 1 1" ∷ "W 1 1 1 oak 30 1995-12-18 09:00 9 1995-12-18 09:00 1995-12-18 09:00 1995-12-18 09:00 1995-12-18 09:00 1995-12-18 09:00 1995-12-18 09:00 1995-12-18 09:00 1995-12-18 09:00 1995-12-18 09:00 Alpha" ∷ "E" ∷ []) ∷ [])
    ("refused 15 BadLine 2" ∷ "took 1 writes 0 commits" ∷ [])
unfolding digits
nine_in_second = refl

-- sixteen alternatives in the second version, and seventeen
sixteen_in_second :
    Answers 9 1
    (Lines ("mr2 1 1" ∷ "W 1 1 1 oak 30 1995-12-18 09:00 17 1995-12-18 09:00 1995-12-18 09:00 1995-12-18 09:00 1995-12-18 09:00 1995-12-18 09:00 1995-12-18 09:00 1995-12-18 09:00 1995-12-18 09:00 1995-12-18 09:00 1995-12-18 09:00 1995-12-18 09:00 1995-12-18 09:00 1995-12-18 09:00 1995-12-18 09:00 1995-12-18 09:00 1995-12-18 09:00 1995-12-18 09:00 Alpha" ∷ "E" ∷ [])
    ∷ Lines ("mr2 1 1" ∷ "W 1 1 1 oak 30 1995-12-18 09:00 16 1995-12-18 09:00 1995-12-18 09:00 1995-12-18 09:00 1995-12-18 09:00 1995-12-18 09:00 1995-12-18 09:00 1995-12-18 09:00 1995-12-18 09:00 1995-12-18 09:00 1995-12-18 09:00 1995-12-18 09:00 1995-12-18 09:00 1995-12-18 09:00 1995-12-18 09:00 1995-12-18 09:00 1995-12-18 09:00 Alpha" ∷ "E" ∷ []) ∷ [])
    ("refused 15 BadLine 2" ∷ "took 1 writes 0 commits" ∷ [])
unfolding digits
sixteen_in_second = refl

-- lines of cancels outside the limits, with a word less and with a word more; and a version that there is not
bad_cancel_lines :
    Answers 9 1
    (Lines ("mr2 1 1" ∷ "X 1 1 1 oak 2 0" ∷ []) ∷ Lines ("mr2 1 1" ∷ "X 1 1 1 oak 100 1" ∷ []) ∷ Lines ("mr2 1 1" ∷ "X 1 1 1 oak 2" ∷ [])
    ∷ Lines ("mr2 1 1" ∷ "X 1 1 1 oak 2 1 1" ∷ []) ∷ Lines ("mr2 1 1" ∷ "X 1 1 1 oak 2 01" ∷ []) ∷ Lines ("mr3 1 1" ∷ "E" ∷ []) ∷ [])
    ("refused 15 BadLine 2" ∷ "refused 15 BadLine 2" ∷ "refused 15 BadLine 2" ∷ "refused 15 BadLine 2" ∷ "refused 15 BadLine 2" ∷ "refused 15 BadLine 1" ∷ [])
unfolding digits
bad_cancel_lines = refl

-- the line of a cancel is taken by the same cases as that of a booking: it is the receiver's own, leaves a gap, comes too late
cancel_cases :
    Answers 9 1
    (Lines ("mr2 1 1" ∷ "X 9 1 1 oak 2 1" ∷ []) ∷ Lines ("mr2 1 1" ∷ "X 1 2 1 oak 2 1" ∷ []) ∷ Lines ("mr2 1 1" ∷ "W 1 1 5 oak 30 1995-12-18 09:00 0 Alpha" ∷ "X 1 2 5 oak 1 1" ∷ [])
    ∷ Lines ("mr2 1 1" ∷ "W 1 1 5 oak 30 1995-12-18 09:00 0 Alpha" ∷ "X 1 2 6 oak 1 1" ∷ "X 1 2 6 oak 1 1" ∷ "C 1 1 1" ∷ "C 2 1 2" ∷ "E" ∷ []) ∷ Ask "oak" (AskOutcome (codes "1-1")) ∷ [])
    ("refused 20 OwnWrite 2" ∷ "refused 17 Gap 2" ∷ "refused 18 OutOfOrder 3" ∷ "took 2 writes 2 commits" ∷ "1-1 C cancelled C 1-2" ∷ [])
unfolding digits
cancel_cases = refl

-- a kept booking and a cancel under its id differ, whichever came first
forged_kind :
    Answers 9 1
    (Lines ("mr2 1 1" ∷ "W 1 1 1 oak 30 1995-12-18 09:00 0 Alpha" ∷ "X 1 1 1 oak 2 1" ∷ "E" ∷ [])
    ∷ Lines ("mr2 1 1" ∷ "X 1 1 1 oak 2 1" ∷ "X 1 1 1 oak 2 1" ∷ "X 1 1 1 oak 2 2" ∷ "E" ∷ []) ∷ [])
    ("refused 19 Forged 3" ∷ "refused 19 Forged 4" ∷ [])
unfolding digits
forged_kind = refl
