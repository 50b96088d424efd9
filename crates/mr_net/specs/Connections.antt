-- What a served replica was asked over its connections, and what is printed of it.
use Rattle.std.specs.Prelude.{◌≡◌, ◌⊎◌, ℕ, ◌<◌, ◌≤◌, List, [], ◌∷◌, ◌++◌, length, Option, Result}
use Rattle.std.specs.Result.{result_ok}
use Rattle.std.specs.Io.KnownBytes.{Appends}
use Rattle.mr_model.specs.Texts.{Text}
use Rattle.mr_store.specs.declared.keeper.Keeper.{Ghosts}
use Rattle.mr_http.specs.declared.faults.WebFault.{WebFault}
use Rattle.mr_web.specs.RequestServed.{IsRequest}
use Rattle.mr_web.specs.Views.{EndsServed}
use Rattle.mr_web.specs.RepliesWritten.{Writes}
use Rattle.mr_words.specs.CommandOutput.{no_memory_line}
use Rattle.mr_net.specs.Printed.{StopsWithText, connection_lines, serving_line}

-- the request that is read here was served, its reply was written there, and this is its status
abbrev pub IsServedOver : {K : Type 0} → Ghosts K → K → Option Text → Option Text → Option Text → Option ℕ → K → Type 0
IsServedOver keeper old known held holds served new =
    (result : Result ℕ WebFault) × IsRequest keeper old new known result (EndsServed held holds) (Writes held holds) × (served ≡ result_ok result)

-- One connection: one request of some reader was served to some writer, and this is the status of its reply
abbrev pub IsConnection : {K : Type 0} → Ghosts K → K → Option ℕ → K → Type 0
IsConnection keeper old served new = (known held holds : Option Text) × IsServedOver keeper old known held holds served new

-- the connections follow on one another, from the one keeper to the other
abbrev pub AreConnections : {K : Type 0} → Ghosts K → K → List (Option ℕ) → K → Type 0
AreConnections keeper old [] new = old ≡ new
AreConnections {K} keeper old (c ∷ cs) new = (m : K) × IsConnection keeper old c m × AreConnections keeper m cs new

-- So many connections are served, and a line is printed for each (0); or fewer, and the line of the last can't be printed: out of
-- memory stands in its place (1), or there is a fault (3); or fewer, with a line for each, and the next one can't be taken (3).
abbrev pub TellsServed : {K : Type 0} → Ghosts K → K → K → ℕ → Option Text → Option Text → ℕ → Type 0
TellsServed keeper old new count held holds status =
    ((status ≡ 0) × (served : List (Option ℕ)) × AreConnections keeper old served new × (length served ≡ count) × Appends held holds (connection_lines served))
    ⊎ (((served : List (Option ℕ)) × (last : Option ℕ) × AreConnections keeper old (served ++ last ∷ []) new × (length (served ++ last ∷ []) ≤ count)
    × StopsWithText (λ text. text ≡ connection_lines served ++ no_memory_line) held holds status)
    ⊎ ((status ≡ 3) × (served : List (Option ℕ)) × (between : Option Text) × AreConnections keeper old served new × (length served < count)
    × Appends held between (connection_lines served)))

-- the port is printed, and behind it what is served; or nothing is asked
abbrev pub ServesAt : {K : Type 0} → Ghosts K → K → K → ℕ → ℕ → Option Text → Option Text → ℕ → Type 0
ServesAt keeper old new port count held holds status =
    ((between : Option Text) × Appends held between (serving_line port) × TellsServed keeper old new count between holds status)
    ⊎ ((new ≡ old) × StopsWithText (λ text. text ≡ no_memory_line) held holds status)
