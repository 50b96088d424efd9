-- The laws of what offices do, as statements: the world law, whatever was lost, cut, kept, repeated or left undone.
use Rattle.std.specs.Prelude.{◌≡◌, ℕ, suc, ◌+◌, ◌≤◌, true, ◌⊎◌, List, [], ◌∷◌, take, drop, map, length, Option, Some, slice_get, Contains}
use Rattle.mr_model.specs.Texts.{Text}
use Rattle.mr_model.specs.Writes.{Id, Write, id_of}
use Rattle.mr_model.specs.Refusals.{Truncated}
use Rattle.mr_model.specs.Replica.{Replica, writes_of, tentative, is_committed}
use Rattle.mr_model.specs.Exchange.{C, Batch, ReadsAs}
use Rattle.mr_model.specs.Positions.{position_of, position_text}
use Rattle.mr_model.specs.Replies.{Reply, Took, CommittedIs, Refused}
use Rattle.mr_model.specs.View.{Placed}
use Rattle.mr_model.specs.Step.{Commit}
use Rattle.mr_model.specs.World.{World, Step, Do, Make, Deliver, StepReply, Made, Said, replica_of, batch_numbered}
use Rattle.mr_model.specs.Honest.{IsFront, accepted, commit_list, IsHonest, IsWorldRun}
use Rattle.mr_model.specs.WorldLaws.{IsKnownIn, IsCountOrGap, IsComplete, HasAllOf, TellsCommitted, IsAt}
use Rattle.mr_convergence.specs.Convergence.{AcceptsNothing, IsQuietStep, KnowledgeReaches, IsThere, EachReachesEach, KnowsAll, AreAlike, HasAllCommitted}
use Rattle.mr_offices.specs.Offices.{Act, Within, Give, act_after, IsDone, IsNoReply, IsOfficeStep, IsOfficeRun, IsOfficeRunOf}

-- ---- runs

abbrev pub OfficeRunsKeepHonesty : Type 0
OfficeRunsKeepHonesty =
    (old new : World) (acts : List Act) (heard : List (Option StepReply)) → IsHonest old → IsOfficeRun old acts heard new → IsHonest new

-- each act of a run is one from an honest world, and the acts before and behind it are runs
abbrev pub OfficeRunsAreOfActs : Type 0
OfficeRunsAreOfActs =
    (old new : World) (acts : List Act) (heard : List (Option StepReply)) (i : ℕ) (act : Act) (said : Option StepReply)
    → IsHonest old → IsOfficeRun old acts heard new → slice_get acts i ≡ Some act → slice_get heard i ≡ Some said
    → (before : World) × (after : World) × IsHonest before × IsOfficeStep before act said after
    × IsOfficeRun old (take i acts) (take i heard) before × IsOfficeRun after (drop (suc i) acts) (drop (suc i) heard) new

-- a run of the definitions' world is one of offices, each reply of which is heard
abbrev pub WorldRunsAreOfficeRuns : Type 0
WorldRunsAreOfficeRuns =
    (old new : World) (steps : List Step) (replies : List StepReply)
    → IsWorldRun old steps replies new → IsOfficeRun old (map Within steps) (map Some replies) new

-- what was heard is the reply, or no reply
abbrev pub HeardOf : StepReply → Option StepReply → Type 0
HeardOf reply heard = (heard ≡ Some reply) ⊎ IsNoReply heard

abbrev pub AllHeardOf : List StepReply → List (Option StepReply) → Type 0
AllHeardOf [] [] = Unit {0}
AllHeardOf (r ∷ rs) (h ∷ hs) = HeardOf r h × AllHeardOf rs hs
AllHeardOf _ _ = ⊥

-- and a run of offices in which each batch was made for the position that another had at that moment is one of the definitions' world, of which
-- some replies were not heard
abbrev pub OfficeRunsAreWorldRuns : Type 0
OfficeRunsAreWorldRuns =
    (old new : World) (steps : List Step) (heard : List (Option StepReply))
    → IsOfficeRun old (map Within steps) heard new → (replies : List StepReply) × IsWorldRun old steps replies new × AllHeardOf replies heard

-- giving a batch for the text of the position that another has is making one for it
abbrev pub GivingIsMaking : Type 0
GivingIsMaking =
    (w : World) (from to max_lines : ℕ) (r : Replica)
    → IsHonest w → replica_of w to ≡ Some r → act_after w (Give from (position_text (position_of r)) max_lines) ≡ act_after w (Within (Make from to max_lines))

-- ---- (1): what is known was accepted, what is committed the primary committed, and both stay

pub record KeepsOfficeHistory (old new : World) : Type 0 where
  pub writes : (at : ℕ) (r : Replica) (server : ℕ) → replica_of new at ≡ Some r → IsFront (writes_of server r.known) (accepted new server)
  pub commits : (at : ℕ) (r : Replica) → replica_of new at ≡ Some r → IsFront r.commits (commit_list new)
  pub writes_anywhere : (write : Write) → IsKnownIn new write → Contains (accepted new write.stamp.server) write
  pub commits_anywhere : (number : ℕ) (text : Text) (b : Batch) (seq : ℕ) (id : Id)
      → batch_numbered new.pool number ≡ Some text → ReadsAs text b → Contains b.items (C seq id)
      → (k : ℕ) × (seq ≡ k + 1) × (slice_get (commit_list new) k ≡ Some id)
  pub one_write : (x y : Write) → IsKnownIn old x → IsKnownIn new y → id_of x ≡ id_of y → x ≡ y
  pub accepted_stays : (server : ℕ) → IsFront (accepted old server) (accepted new server)
  pub committed_stays : IsFront (commit_list old) (commit_list new)
  pub offices_stay : (at : ℕ) (r : Replica) → replica_of old at ≡ Some r → (q : Replica) × (replica_of new at ≡ Some q) × HasAllOf q r

abbrev pub OfficesKeepHistory : Type 0
OfficesKeepHistory =
    (old new : World) (acts : List Act) (heard : List (Option StepReply)) → IsHonest old → IsOfficeRun old acts heard new → KeepsOfficeHistory old new

-- ---- (2) and (3): batches

-- an answer of this kind is heard, or no reply
abbrev pub Hears : (Reply → Type 0) → Option StepReply → Type 0
Hears IsOne heard = ((said : Reply) × (heard ≡ Some (Said said)) × IsOne said) ⊎ IsNoReply heard

-- a prefix of a batch is answered by a count or by a gap
abbrev pub FrontsCountOrGap : Type 0
FrontsCountOrGap =
    (old new : World) (number to bytes : ℕ) (heard : Option StepReply) (r : Replica) (text : Text)
    → IsHonest old → IsOfficeStep old (Within (Deliver number to bytes)) heard new
    → replica_of old to ≡ Some r → batch_numbered old.pool number ≡ Some text → Hears IsCountOrGap heard

-- The position of an office is taken down; any time later a batch is made for it, at any office; and any time later a prefix of that is
-- received at the first one. It may have gone on all the while.
pub record IsCarried (start asked made later end : World) (from to number size : ℕ) (heard : Option StepReply) : Type 0 where
  pub receiver : Replica
  pub is_receiver : replica_of start to ≡ Some receiver
  pub acts_before : List Act
  pub heard_before : List (Option StepReply)
  pub before : IsOfficeRun start acts_before heard_before asked
  pub max_lines : ℕ
  pub making : IsDone asked (Give from (position_text (position_of receiver)) max_lines) (Made number size) made
  pub acts_between : List Act
  pub heard_between : List (Option StepReply)
  pub between : IsOfficeRun made acts_between heard_between later
  pub bytes : ℕ
  pub delivery : IsOfficeStep later (Within (Deliver number to bytes)) heard end

abbrev pub IsCount : Reply → Type 0
IsCount said = (writes : ℕ) × (commits : ℕ) × (said ≡ Took writes commits)

-- it is taken: no gap
abbrev pub CarriedFrontsAreTaken : Type 0
CarriedFrontsAreTaken =
    (start asked made later end : World) (from to number size : ℕ) (heard : Option StepReply)
    → IsHonest start → IsCarried start asked made later end from to number size heard → Hears IsCount heard

-- where it is complete and delivered whole, and the counts are heard, the office then has all that the maker had when it made it
abbrev pub CarriedBatchesBringAll : Type 0
CarriedBatchesBringAll =
    (start asked made later end : World) (from to number size writes commits : ℕ) (maker : Replica)
    → IsHonest start → (d : IsCarried start asked made later end from to number size (Some (Said (Took writes commits))))
    → size ≤ d.bytes → IsComplete made number → replica_of asked from ≡ Some maker
    → (r : Replica) × (replica_of end to ≡ Some r) × HasAllOf r maker

-- ---- (4): two offices, each of which has all that the other has, are alike; so it is behind an exchange both ways, in however many rounds

abbrev pub MutualKnowledgeIsAlike : Type 0
MutualKnowledgeIsAlike =
    (w : World) (s t : ℕ) (a b : Replica)
    → IsHonest w → replica_of w s ≡ Some a → replica_of w t ≡ Some b → HasAllOf a b → HasAllOf b a → AreAlike a b

-- ---- (5): places

pub record KeepsOfficePlaces (old new : World) : Type 0 where
  pub told : (at : ℕ) (r : Replica) (w : Write) → replica_of new at ≡ Some r → Contains r.known w → is_committed r (id_of w) ≡ true
      → (told : Placed) × TellsCommitted r w.room (id_of w) told × (told.write ≡ w)
  pub agree : (s t : ℕ) (a b : Replica) (room : Text) (id : Id) (x y : Placed)
      → replica_of old s ≡ Some a → replica_of new t ≡ Some b → TellsCommitted a room id x → TellsCommitted b room id y → x ≡ y
  pub stay : (s : ℕ) (a : Replica) (room : Text) (id : Id) (x : Placed)
      → replica_of old s ≡ Some a → TellsCommitted a room id x → (b : Replica) × (replica_of new s ≡ Some b) × TellsCommitted b room id x

abbrev pub OfficesKeepPlaces : Type 0
OfficesKeepPlaces =
    (old new : World) (acts : List Act) (heard : List (Option StepReply)) → IsHonest old → IsOfficeRun old acts heard new → KeepsOfficePlaces old new

-- ---- (6): the primary

abbrev pub IsActAt : ℕ → Act → Type 0
IsActAt server (Within s) = IsAt server s
IsActAt server (Give from position m) = from ≡ server

-- it never answers that it has dropped what is asked for, whatever position it is asked with
abbrev pub PrimaryOfficeNeverTruncated : Type 0
PrimaryOfficeNeverTruncated =
    (old new : World) (act : Act) (heard : Option StepReply) (server : ℕ) (r : Replica)
    → IsHonest old → IsOfficeStep old act heard new → replica_of old server ≡ Some r → r.server ≡ r.primary → IsActAt server act
    → ¬ (heard ≡ Some (Said (Refused Truncated)))

-- ---- (7): all come to rest

abbrev pub IsQuietAct : Act → Type 0
IsQuietAct (Within s) = IsQuietStep s
IsQuietAct (Give from position m) = Unit {0}

abbrev pub ActAcceptsNothing : Act → Type 0
ActAcceptsNothing (Within s) = AcceptsNothing s
ActAcceptsNothing (Give from position m) = Unit {0}

-- knowledge that reached an office stays there, and is handed on by whole batches for positions that were taken down some time
abbrev pub ReachedStays : Type 0
ReachedStays =
    (before old new after : World) (acts acts_after : List Act) (heard heard_after : List (Option StepReply)) (s t : ℕ)
    → IsHonest before → IsOfficeRun before acts heard old → KnowledgeReaches old new s t → IsHonest new → IsOfficeRun new acts_after heard_after after
    → KnowledgeReaches before after s t

abbrev pub CarriedBatchesHandOn : Type 0
CarriedBatchesHandOn =
    (old start asked made later end : World) (s from to number size writes commits : ℕ)
    → IsHonest start → KnowledgeReaches old asked s from → (d : IsCarried start asked made later end from to number size (Some (Said (Took writes commits))))
    → size ≤ d.bytes → IsComplete made number → KnowledgeReaches old end s to

abbrev pub OfficesConverge : Type 0
OfficesConverge =
    (old new : World) (s t : ℕ) (a b : Replica)
    → IsHonest old → IsOfficeRunOf IsQuietAct old new → EachReachesEach old new
    → replica_of new s ≡ Some a → replica_of new t ≡ Some b → AreAlike a b

-- Nothing is accepted any more. What each knew reaches the primary, which then commits all that are tentative there, and what it knows
-- thereafter reaches each. The reply to the commit may be lost.
pub record IsOfficeSettling (old one two new : World) : Type 0 where
  pub gathered : IsOfficeRunOf ActAcceptsNothing old one
  pub primary : ℕ
  pub before : Replica
  pub is_there : replica_of one primary ≡ Some before
  pub is_primary : before.server ≡ before.primary
  pub all_reach_it : (s : ℕ) → KnowledgeReaches old one s primary
  pub count : ℕ
  pub committed : ℕ
  pub all_of_them : length (tentative before) ≤ count
  pub commit : IsDone one (Within (Do primary (Commit count))) (Said (CommittedIs committed)) two
  pub spread : IsOfficeRunOf ActAcceptsNothing two new
  pub it_reaches_all : (t : ℕ) → IsThere new t → KnowledgeReaches two new primary t

abbrev pub OfficesSettle : Type 0
OfficesSettle =
    (old one two new : World) (t : ℕ) (r : Replica)
    → IsHonest old → IsOfficeSettling old one two new → replica_of new t ≡ Some r → HasAllCommitted r × KnowsAll new r

abbrev pub SettledOfficesAreAlike : Type 0
SettledOfficesAreAlike =
    (old one two new : World) (s t : ℕ) (a b : Replica)
    → IsHonest old → IsOfficeSettling old one two new → replica_of new s ≡ Some a → replica_of new t ≡ Some b → AreAlike a b

abbrev pub SettledOfficesStay : Type 0
SettledOfficesStay =
    (old one two new later : World) (s : ℕ) (a b : Replica)
    → IsHonest old → IsOfficeSettling old one two new → IsOfficeRunOf ActAcceptsNothing new later
    → replica_of new s ≡ Some a → replica_of later s ≡ Some b → HasAllCommitted b × KnowsAll later b × AreAlike a b
