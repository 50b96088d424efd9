-- What the commands over sockets print, and with which statuses.
use Rattle.std.specs.Prelude.{◌≡◌, ◌⊎◌, ℕ, ◌<◌, List, [], ◌∷◌, ◌++◌, map, length, codes, decimal, Option, Some, None, Result, Ok, Err}
use Rattle.std.specs.Io.KnownBytes.{Appends}
use Rattle.mr_model.specs.Texts.{Text, line, words, lines_text}
use Rattle.mr_model.specs.Refusals.{Refusal, refusal_text}
use Rattle.mr_base.specs.RefusalViews.{refusal_of}
use Rattle.mr_http.specs.declared.faults.WebFault.{WebFault}
use Rattle.mr_http.specs.declared.faults.WebFault.TheVariants as fault
use Rattle.mr_words.specs.CommandOutput.{no_memory_line, TellsRefusal}
use Rattle.mr_net.specs.declared.ways.Way.{Way}
use Rattle.mr_net.specs.declared.ways.Way.TheVariants.{Pull, Push}
use Rattle.mr_net.specs.declared.ways.Round.{Round}
use Rattle.mr_net.specs.declared.ways.Taken.{Taken}
use Rattle.mr_net.specs.Ways.{IsWay}

-- ---- lines

abbrev pub verb_of : Way → Text
verb_of Pull = codes "pulled"
verb_of Push = codes "pushed"

-- what a way brought
abbrev pub way_line : Way → Taken → Text
way_line way taken = line (words (verb_of way ∷ decimal taken.writes ∷ codes "writes" ∷ decimal taken.commits ∷ codes "commits" ∷ []))

-- the status that a peer answered
abbrev pub peer_line : ℕ → Text
peer_line status = line (words (codes "peer" ∷ codes "answered" ∷ decimal status ∷ []))

abbrev pub bad_address_line : Text
bad_address_line = line (codes "bad address")

-- a text of that kind is printed (1), or there is a fault (3)
abbrev pub StopsWithText : (Text → Type 0) → Option Text → Option Text → ℕ → Type 0
StopsWithText IsText held holds status = ((status ≡ 1) × (text : Text) × IsText text × Appends held holds text) ⊎ (status ≡ 3)

-- ---- an exchange with any peer

-- tells of a fault that isn't one of the network; want of memory for the line is told in its place
abbrev pub IsFaultLine : WebFault → Text → Type 0
IsFaultLine fault.Read text = ⊥
IsFaultLine fault.Write text = ⊥
IsFaultLine fault.Memory text = text ≡ no_memory_line
IsFaultLine fault.BadReply text = ⊥
IsFaultLine (fault.Peer status) text = (text ≡ peer_line status) ⊎ (text ≡ no_memory_line)
IsFaultLine (fault.Own e) text = (text ≡ line (refusal_text (refusal_of e))) ⊎ (text ≡ no_memory_line)

-- tells why the line of a way isn't printed
abbrev pub IsStopOf : Result Taken WebFault → Text → Type 0
IsStopOf (Ok taken) text = text ≡ no_memory_line
IsStopOf (Err f) text = IsFaultLine f text

-- how a way comes out and is told, from a peer and what a writer holds to a peer and what it holds then
abbrev pub TellsWay : {P : Type 0} → (Way → P → Result Round WebFault → P → Type 0) → Way → P → P → Option Text → Option Text → ℕ → Type 0
TellsWay runs way p q held holds status =
    ((status ≡ 0) × (taken : Taken) × IsWay (runs way) p (Ok taken) q × Appends held holds (way_line way taken))
    ⊎ ((result : Result Taken WebFault) × IsWay (runs way) p result q × StopsWithText (IsStopOf result) held holds status)

-- first what is lacked here is pulled and told, and then what the peer lacks is pushed and told, unless the first way stops
abbrev pub TellsBoth : {P : Type 0} → (Way → P → Result Round WebFault → P → Type 0) → P → P → Option Text → Option Text → ℕ → Type 0
TellsBoth {P} runs p q held holds status =
    ((m : P) × (between : Option Text) × TellsWay runs Pull p m held between 0 × TellsWay runs Push m q between holds status)
    ⊎ ((status ≡ 0 → ⊥) × TellsWay runs Pull p q held holds status)

-- ---- whole commands

-- tells why an exchange ended early
abbrev pub IsStopText : Text → Type 0
IsStopText text = ((e : Refusal) × (text ≡ line (refusal_text e))) ⊎ (((status : ℕ) × (text ≡ peer_line status)) ⊎ (text ≡ no_memory_line))

-- both lines are printed (0), or why the exchange ended early in place of the one or the other (1), or there is a fault (3)
abbrev pub EndsExchange : Option Text → Option Text → ℕ → Type 0
EndsExchange held holds status =
    ((status ≡ 0) × (pulled pushed : Taken) × Appends held holds (way_line Pull pulled ++ way_line Push pushed))
    ⊎ (StopsWithText IsStopText held holds status
    ⊎ StopsWithText (λ text. (pulled : Taken) × (stop : Text) × IsStopText stop × (text ≡ way_line Pull pulled ++ stop)) held holds status)

-- the address is told to be none (2), or want of memory (1), or there is a fault (3)
abbrev pub TellsBadAddress : Option Text → Option Text → ℕ → Type 0
TellsBadAddress held holds status = ((status ≡ 2) × Appends held holds bad_address_line) ⊎ StopsWithText (λ text. text ≡ no_memory_line) held holds status

-- ---- serving

-- tells of a connection: the status that it was answered, or that it failed
abbrev pub connection_text : Option ℕ → Text
connection_text (Some status) = decimal status
connection_text None = codes "fault"

abbrev pub connection_lines : List (Option ℕ) → Text
connection_lines connections = lines_text (map connection_text connections)

abbrev pub serving_line : ℕ → Text
serving_line port = line (codes "serving 127.0.0.1:" ++ decimal port)

-- the port is told, and then each of this many connections (0), or fewer and then want of memory (1); or a refusal alone (1); or there
-- is a fault (3)
abbrev pub EndsServing : ℕ → ℕ → Option Text → Option Text → ℕ → Type 0
EndsServing port count held holds status =
    ((status ≡ 0) × (connections : List (Option ℕ)) × (length connections ≡ count)
    × Appends held holds (serving_line port ++ connection_lines connections))
    ⊎ (((status ≡ 1) × TellsRefusal held holds)
    ⊎ StopsWithText (λ text. (connections : List (Option ℕ)) × (length connections < count)
    × (text ≡ serving_line port ++ (connection_lines connections ++ no_memory_line))) held holds status)
