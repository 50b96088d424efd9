-- Calls of one office's database in turn.
use Rattle.std.specs.Prelude.{◌≡◌, ℕ, List, [], ◌∷◌, Option, Some, slice_get}
use Rattle.std.specs.List.{AllByRecursion, slice_set}
use Rattle.mr_model.specs.Texts.{Text}
use Rattle.mr_model.specs.Replies.{Reply}
use Rattle.mr_model.specs.Step.{Command}
use Rattle.mr_model.specs.World.{StepReply}
use Rattle.mr_offices.specs.Offices.{Act}
use Rattle.mr_offices.specs.Standing.{Sight, Office, Offices}
use Rattle.mr_offices.specs.Happenings.{AreHappenings, IsAsked, IsCalled, act_of, pending_after, reply_heard, texts_after}

-- each command with its reply, from the database as it was to it as it then is
abbrev pub AreCalls : {K : Type 0} → Sight K → K → List (Command × Reply) → K → Type 0
AreCalls sight old [] new = new ≡ old
AreCalls {K} sight old (c ∷ cs) new = (m : K) × IsCalled sight old m c.0 c.1 × AreCalls sight m cs new

-- the commands in doubt behind them, of those that were so before
abbrev pub doubt_after : List Command → List (Command × Reply) → List Command
doubt_after pending [] = pending
doubt_after pending (c ∷ cs) = doubt_after (pending_after pending c.0 c.1) cs

-- ---- as happenings

-- what is received are prefixes of texts that offices had given; what people and this office ask may be anything
abbrev pub AreAsked : List Text → List (Command × Reply) → Type 0
AreAsked texts calls = AllByRecursion (λ c. IsAsked texts c.0) calls

-- the acts that they are
abbrev pub acts_of : (texts : List Text) → ℕ → (calls : List (Command × Reply)) → AreAsked texts calls → List Act
acts_of texts server [] from = []
acts_of texts server (c ∷ cs) from = act_of texts server c.0 from.0 ∷ acts_of texts server cs from.1

-- what is heard of each
abbrev pub heard_of : List Text → List (Command × Reply) → List (Option StepReply)
heard_of texts [] = []
heard_of texts (c ∷ cs) = Some (reply_heard texts c.0 c.1) ∷ heard_of (texts_after texts c.0 c.1) cs

-- the texts of all batches behind them
abbrev pub texts_behind : List Text → List (Command × Reply) → List Text
texts_behind texts [] = texts
texts_behind texts (c ∷ cs) = texts_behind (texts_after texts c.0 c.1) cs

-- the offices behind them: the one in this place has the database as it then is, and what is in doubt
abbrev pub offices_behind : {K : Type 0} → Offices K → ℕ → Office K → List (Command × Reply) → K → Offices K
offices_behind v place o calls new =
    record {
      offices = slice_set v.offices place (record { server = o.server; keeper = new; pending = doubt_after o.pending calls });
      texts = texts_behind v.texts calls;
    }

-- such calls happen, whatever is in doubt at the office
abbrev pub CallsHappen : {K : Type 0} → Sight K → Type 0
CallsHappen {K} sight =
    (v : Offices K) (place : ℕ) (o : Office K) (calls : List (Command × Reply)) (new : K)
    → slice_get v.offices place ≡ Some o → (asked : AreAsked v.texts calls) → AreCalls sight o.keeper calls new
    → AreHappenings sight v (acts_of v.texts o.server calls asked) (heard_of v.texts calls) (offices_behind v place o calls new)
