-- A round of an exchange between two databases, of any keepers, as calls of these; and, of keepers of one kind, as a run of two offices.
use Rattle.std.specs.Prelude.{◌≡◌, ◌⊎◌, ℕ, List, [], ◌∷◌, take, Option, Some, slice_get}
use Rattle.mr_model.specs.Http.{lines_over_http, response_of}
use Rattle.mr_model.specs.Positions.{Position, position_text}
use Rattle.mr_model.specs.Exchange.{Batch, batch_text}
use Rattle.mr_model.specs.Replies.{Reply, BatchIs, PositionIs}
use Rattle.mr_model.specs.Step.{AskPosition, Receive}
use Rattle.mr_model.specs.World.{World, StepReply, Do, Make, Made, Deliver}
use Rattle.mr_model.specs.Honest.{IsHonest}
use Rattle.mr_store.specs.declared.keeper.Keeper.{Ghosts}
use Rattle.mr_service.specs.Served.{IsServed}
use Rattle.mr_peer.specs.PeerAsking.{lacking}
use Rattle.mr_offices.specs.Offices.{Act, Within, Give, IsOfficeRun}
use Rattle.mr_offices.specs.OfficeLaws.{Hears, IsCount}
use Rattle.mr_offices.specs.Standing.{Sight, Office, Offices, StandFor}

-- ---- as calls

-- The server was asked nothing, and then the client received nothing. Or the client told a position, and the server was asked for its batch for just that;
-- and the client received nothing, or a prefix of what the server replied.
abbrev pub AnswersPull : {C S : Type 0} → Ghosts C → Ghosts S → Reply → C → C → S → S → Type 0
AnswersPull of_client of_server told asked client old new =
    ((new ≡ old) × (client ≡ asked))
    ⊎ ((p : Position) × (gave : Reply) × (told ≡ PositionIs p) × IsServed of_server old new (lacking p) gave
    × ((client ≡ asked)
    ⊎ ((bytes : ℕ) × (took : Reply) × IsServed of_client asked client (Receive (take bytes (response_of gave).body)) took
    × ((response_of gave).status ≡ 200))))

-- the client was asked for its position, and then the pull was answered so
abbrev pub PullsBetween : {C S : Type 0} → Ghosts C → Ghosts S → C → C → S → S → Type 0
PullsBetween {C} of_client of_server old_client client old_server server =
    (asked : C) × (told : Reply) × IsServed of_client old_client asked AskPosition told
    × AnswersPull of_client of_server told asked client old_server server

-- The client was asked nothing, and so was the server; or the client was asked for its batch for the position, and the server received all of that, or
-- nothing.
abbrev pub PushesBetween : {C S : Type 0} → Ghosts C → Ghosts S → Position → C → C → S → S → Type 0
PushesBetween of_client of_server position old_client client old_server server =
    ((client ≡ old_client) × (server ≡ old_server))
    ⊎ ((gave : Reply) × IsServed of_client old_client client (lacking position) gave
    × ((server ≡ old_server) ⊎ ((b : Batch) × (took : Reply) × (gave ≡ BatchIs b) × IsServed of_server old_server server (Receive (batch_text b)) took)))

-- ---- as acts

-- the acts of a pull: the client is asked for its position, the server makes a batch for that, and the client receives so many bytes of it
abbrev pub acts_of_pull : ℕ → ℕ → ℕ → ℕ → List Act
acts_of_pull client server number bytes =
    Within (Do client AskPosition) ∷ Within (Make server client lines_over_http) ∷ Within (Deliver number client bytes) ∷ []

-- the acts of a push: the client gives a batch for a position, and the server receives so many bytes of it
abbrev pub acts_of_push : ℕ → ℕ → Position → ℕ → ℕ → List Act
acts_of_push client server position number bytes =
    Give client (position_text position) lines_over_http ∷ Within (Deliver number server bytes) ∷ []

-- this is the database of the office in this place
abbrev pub IsKeptAt : {K : Type 0} → Offices K → ℕ → K → Type 0
IsKeptAt {K} v place keeper = (o : Office K) × (slice_get v.offices place ≡ Some o) × (o.keeper ≡ keeper)

-- The acts are a run of offices to an honest world, for which they stand then, with these databases in the places of the client and the server.
pub record IsRound {K : Type 0} (sight : Sight K) (w : World) (acts : List Act) (heard : List (Option StepReply)) (client : ℕ) (new_client : K)
    (server : ℕ) (new_server : K) : Type 0 where
  pub end : World
  pub run : IsOfficeRun w acts heard end
  pub honest : IsHonest end
  pub after : Offices K
  pub stands : StandFor sight after end
  pub here : IsKeptAt after client new_client
  pub there : IsKeptAt after server new_server

-- Each pull between two offices, whatever is in doubt there, is a run of its first acts, if nobody else has written their files and the disks have returned
-- what was written. What the client receives, it takes: there is no gap.
abbrev pub PullsAreRuns : {K : Type 0} → Ghosts K → Sight K → Type 0
PullsAreRuns {K} keeper sight =
    (v : Offices K) (w : World) (client server : ℕ) (oc os : Office K) (new_client new_server : K)
    → IsHonest w → StandFor sight v w → slice_get v.offices client ≡ Some oc → slice_get v.offices server ≡ Some os → ¬ (client ≡ server)
    → PullsBetween keeper keeper oc.keeper new_client os.keeper new_server → keeper.is_clean new_client → keeper.is_clean new_server
    → (done number bytes : ℕ) × (heard : List (Option StepReply))
    × IsRound sight w (take done (acts_of_pull oc.server os.server number bytes)) heard client new_client server new_server
    × ((said : Option StepReply) → slice_get heard 2 ≡ Some said → Hears IsCount said)

-- So is each push; what the server receives is all of what the client gave.
abbrev pub PushesAreRuns : {K : Type 0} → Ghosts K → Sight K → Type 0
PushesAreRuns {K} keeper sight =
    (v : Offices K) (w : World) (client server : ℕ) (oc os : Office K) (position : Position) (new_client new_server : K)
    → IsHonest w → StandFor sight v w → slice_get v.offices client ≡ Some oc → slice_get v.offices server ≡ Some os → ¬ (client ≡ server)
    → PushesBetween keeper keeper position oc.keeper new_client os.keeper new_server → keeper.is_clean new_client → keeper.is_clean new_server
    → (done number bytes : ℕ) × (heard : List (Option StepReply))
    × IsRound sight w (take done (acts_of_push oc.server os.server position number bytes)) heard client new_client server new_server
    × ((said : Option StepReply) → slice_get heard 1 ≡ Some said → slice_get heard 0 ≡ Some (Some (Made number bytes)))
