-- What one command did over a keeper, as one record; and what a call did that changes nothing.
use Rattle.std.specs.Prelude.{◌≡◌, ◌⊎◌, Result, IfErr, OnOk}
use Rattle.mr_model.specs.Refusals as model
use Rattle.mr_model.specs.Replica.{Replica, IsReplica}
use Rattle.mr_model.specs.Replies.{Reply, Refused}
use Rattle.mr_model.specs.Serving.{TakesStep, Reaches}
use Rattle.mr_model.specs.Step.{Command, IsStep, IsOfMachine}
use Rattle.mr_model.specs.Tables.{Tables}
use Rattle.mr_base.specs.RefusalViews.{refusal_of}
use Rattle.mr_base.specs.declared.refusals.Refusal.{Refusal}
use Rattle.mr_store.specs.KeeperCalls.{IsSettled}
use Rattle.mr_store.specs.declared.keeper.Keeper.{Ghosts}
use Rattle.mr_service.specs.Asking.{Counts, LeavesOnRefusal, NoneFails, TellsRise}

-- every replica refuses the command so, and stays as it is: for its words, or since memory or the store failed
abbrev pub IsRefusedAnywhere : Command → Reply → Type 0
IsRefusedAnywhere command reply = (e : model.Refusal) × (reply ≡ Refused e) × ((a : Replica) → IsReplica a → IsStep a command reply a)

-- the replica of a keeper was given the command, once: the keeper before it and after it, and the reply
pub record IsServed {K : Type 0} (keeper : Ghosts K) (old new : K) (command : Command) (reply : Reply) : Type 0 where
  pub clean : keeper.is_clean new → keeper.is_clean old
  pub opens : keeper.is_clean new → keeper.is_open new → keeper.is_open old
  pub step : keeper.is_clean new → keeper.is_open new → TakesStep (keeper.tables old) command reply (keeper.tables new)
  pub counts : Counts reply (keeper.failures old) (keeper.failures new)
  pub refused : keeper.is_clean new → keeper.is_open new → LeavesOnRefusal reply (keeper.tables old) (keeper.tables new)
  pub rise : TellsRise reply (keeper.failures old) (keeper.failures new)
  pub sure : keeper.never_fails → keeper.is_clean new → keeper.is_open new → NoneFails (keeper.tables old) (keeper.failures old) (keeper.failures new)
  pub lasts : keeper.is_clean new → keeper.is_open old → IsOfMachine reply ⊎ keeper.is_open new
  pub answered : keeper.is_clean new → keeper.is_open old ⊎ IsRefusedAnywhere command reply
  pub settled : keeper.is_clean new → keeper.is_open new → IsSettled (keeper.may_leave old) (keeper.tables old)
      → IsSettled (keeper.may_leave new) (keeper.tables new)
  pub crash : keeper.is_clean new → keeper.is_open old → (t : Tables) → keeper.may_leave new t → keeper.may_leave old t ⊎ Reaches (keeper.tables old) command t
  pub shut : keeper.is_clean new → (t : Tables) → keeper.may_leave new t → keeper.may_leave old t ⊎ keeper.is_open old

-- the keeper was read, which leaves its tables; if that is refused as a failure of the store, that is counted, and nothing else is
pub record IsRead {K X : Type 0} (keeper : Ghosts K) (old new : K) (result : Result X Refusal) : Type 0 where
  pub clean : keeper.is_clean new → keeper.is_clean old
  pub opens : keeper.is_clean new → keeper.is_open new → keeper.is_open old
  pub same : keeper.is_clean new → keeper.is_open new → keeper.tables new ≡ keeper.tables old
  pub failures : OnOk result (keeper.failures new ≡ keeper.failures old)
  pub counts : IfErr result (λ e. Counts (Refused (refusal_of e)) (keeper.failures old) (keeper.failures new))
  pub rise : IfErr result (λ e. TellsRise (Refused (refusal_of e)) (keeper.failures old) (keeper.failures new))
  pub sure : keeper.never_fails → keeper.is_clean new → keeper.is_open new → NoneFails (keeper.tables old) (keeper.failures old) (keeper.failures new)
  pub lasts : keeper.is_clean new → keeper.is_open old → OnOk result (keeper.is_open new)
  pub answered : keeper.is_clean new → OnOk result (keeper.is_open old)
  pub fails : keeper.is_clean new → keeper.is_open old → IfErr result (λ e. IsOfMachine (Refused (refusal_of e)) ⊎ keeper.is_open new)
  pub settled : keeper.is_clean new → keeper.is_open new → IsSettled (keeper.may_leave old) (keeper.tables old)
      → IsSettled (keeper.may_leave new) (keeper.tables new)
  pub crash : keeper.is_clean new → (t : Tables) → keeper.may_leave new t → keeper.may_leave old t
