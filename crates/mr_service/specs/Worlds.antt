-- What a world of keepers is seen as, for which worlds of the definitions it stands, and what its replicas answer.
use Rattle.std.specs.Prelude.{◌≡◌, ℕ, suc, ◌+◌, ◌++◌, length, if◌then◌else◌, ◌==◌, List, [], ◌∷◌, ◌⊎◌}
use Rattle.mr_model.specs.Texts.{Text}
use Rattle.mr_model.specs.Replica.{Replica}
use Rattle.mr_model.specs.Refusals.{Refusal, OutOfMemory}
use Rattle.mr_model.specs.Exchange.{Batch, batch_text}
use Rattle.mr_model.specs.Positions.{Position, position_text}
use Rattle.mr_model.specs.Replies.{Reply, PositionIs, BatchIs, Refused}
use Rattle.mr_model.specs.Step.{Command, step}
use Rattle.mr_model.specs.Tables.{Tables, Stands}
use Rattle.mr_model.specs.World.{World, Step, StepReply, Made, Said}
use Rattle.mr_model.specs.Honest.{IsWorldStep}

-- a replica with its server, the primary, and its tables
pub record MemberView : Type 0 where
  pub server : ℕ
  pub primary : ℕ
  pub tables : Tables

-- the replicas in the order in which they were added, and the texts of the batches that were made
pub record WorldView : Type 0 where
  pub members : List MemberView
  pub pool : List Text

pub record StandsForMember (m : MemberView) (r : Replica) : Type 0 where
  pub server : m.server ≡ r.server
  pub primary : m.primary ≡ r.primary
  pub tables : Stands m.tables r

-- one after the other
abbrev pub StandForAll : List MemberView → List Replica → Type 0
StandForAll [] [] = Unit {0}
StandForAll (m ∷ ms) (r ∷ rs) = StandsForMember m r × StandForAll ms rs
StandForAll _ _ = ⊥

pub record StandsForWorld (v : WorldView) (w : World) : Type 0 where
  pub replicas : StandForAll v.members w.replicas
  pub pool : v.pool ≡ w.pool

-- ---- one replica

-- what the command does, or want of memory, which changes nothing: over lists no store fails
abbrev pub AnswersInMemory : MemberView → Command → Reply → MemberView → Type 0
AnswersInMemory old command reply new =
    (r : Replica) → StandsForMember old r
    → ((reply ≡ (step r command).reply) × StandsForMember new (step r command).replica)
    ⊎ ((reply ≡ Refused OutOfMemory) × StandsForMember new r)

-- the text of the batch that is replied
abbrev pub IsBatchText : Reply → Text → Type 0
IsBatchText reply text = (b : Batch) × (reply ≡ BatchIs b) × (text ≡ batch_text b)

-- the text of the position that is replied
abbrev pub IsPositionText : Reply → Text → Type 0
IsPositionText reply text = (p : Position) × (reply ≡ PositionIs p) × (text ≡ position_text p)

-- what making a batch comes to, where the maker would reply this: its text is put behind the others, or it is refused, or memory
-- is wanting
abbrev pub IsBatchMade : Reply → StepReply → List Text → List Text → Type 0
IsBatchMade reply said old new =
    ((b : Batch) × (reply ≡ BatchIs b) × (said ≡ Made (length old + 1) (length (batch_text b))) × (new ≡ old ++ batch_text b ∷ []))
    ⊎ (((e : Refusal) × (reply ≡ Refused e) × (said ≡ Said (Refused e)) × (new ≡ old)) ⊎ ((said ≡ Said (Refused OutOfMemory)) × (new ≡ old)))

-- how many replicas stand before the first one with this server
abbrev pub member_index : List MemberView → ℕ → ℕ
member_index [] server = 0
member_index (m ∷ ms) server = if m.server == server then 0 else suc (member_index ms server)

-- the primary of the first replica, or this server where there is none
abbrev pub primary_in : List MemberView → ℕ → ℕ
primary_in [] server = server
primary_in (m ∷ ms) server = m.primary

-- ---- one step

-- for every world that it stood for, it takes the step, and stands for the world after it
abbrev pub TakesWorldStep : WorldView → Step → StepReply → WorldView → Type 0
TakesWorldStep before s reply after = (w : World) → StandsForWorld before w → (end : World) × IsWorldStep w s reply end × StandsForWorld after end
