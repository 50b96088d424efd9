-- How far a run has come.
use Rattle.std.specs.Prelude.{◌≡◌, ℕ, ◌<◌, ◌≤◌, ◌⊎◌, List, [], ◌∷◌, length}
use Rattle.mr_model.specs.Replies.{Reply}
use Rattle.mr_model.specs.Serving.{TakesRun}
use Rattle.mr_model.specs.Step.{Command, IsOfMachine}
use Rattle.mr_model.specs.Tables.{Tables}
use Rattle.mr_service.specs.Asking.{NoneFails, TellsFailure}
use Rattle.mr_service.specs.Replied.{RepliesToAll}

-- one of the replies tells that memory or the store failed
abbrev pub HasFailed : List Reply → Type 0
HasFailed [] = ⊥
HasFailed (r ∷ rs) = IsOfMachine r ⊎ HasFailed rs

-- the commands so far have had these replies; premises of a keeper are passed as they were at the start and are now
pub record UnderWay (clean_then clean_now open_then open_now sure : Type 0) (before after : Tables) (old new : ℕ) (commands : List Command) (replies : List Reply) : Type 0 where
  pub clean : clean_now → clean_then
  pub opens : clean_now → open_now → open_then
  pub takes : clean_now → open_now → TakesRun before commands replies after
  pub each : length replies ≡ length commands
  pub rises : old ≤ new
  pub counts : TellsFailure replies → old < new
  pub none_fails : sure → clean_now → open_now → NoneFails before old new
  pub replied : clean_now → open_then → RepliesToAll before commands replies
  pub lasts : clean_now → open_then → HasFailed replies ⊎ open_now
