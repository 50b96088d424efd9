-- What is replied, by the tables from before alone: a failure may have shut the keeper since.
use Rattle.std.specs.Prelude.{◌≡◌, ◌⊎◌, List, [], ◌∷◌}
use Rattle.mr_model.specs.Replica.{Replica}
use Rattle.mr_model.specs.Replies.{Reply}
use Rattle.mr_model.specs.Step.{Command, step, IsOfMachine}
use Rattle.mr_model.specs.Tables.{Tables, Stands}

-- whichever replica the tables stood for, this is the reply of its step; or memory or the store failed
abbrev pub RepliesTo : Tables → Command → Reply → Type 0
RepliesTo before command reply = (a : Replica) → Stands before a → IsOfMachine reply ⊎ (reply ≡ (step a command).reply)

-- each reply is that of its step, up to the first that tells that memory or the store failed
abbrev pub RepliesInTurn : Replica → List Command → List Reply → Type 0
RepliesInTurn a [] [] = Unit {0}
RepliesInTurn a [] (r ∷ rs) = ⊥
RepliesInTurn a (c ∷ cs) [] = ⊥
RepliesInTurn a (c ∷ cs) (r ∷ rs) = IsOfMachine r ⊎ ((r ≡ (step a c).reply) × RepliesInTurn (step a c).replica cs rs)

-- the same from whichever replica the tables stood for
abbrev pub RepliesToAll : Tables → List Command → List Reply → Type 0
RepliesToAll before commands replies = (a : Replica) → Stands before a → RepliesInTurn a commands replies
