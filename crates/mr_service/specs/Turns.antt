-- What a call of a loaded part makes of the tables that the part was loaded from, and what the rest of a command owes to that call.
use Rattle.std.specs.Prelude.{◌≡◌, ◌⊎◌, Result, Ok, Err, IfOk, IfErr}
use Rattle.mr_model.specs.Replica.{Replica, IsReplica}
use Rattle.mr_model.specs.Refusals as model
use Rattle.mr_model.specs.Replies.{Reply, Refused}
use Rattle.mr_model.specs.Scopes.{Scope}
use Rattle.mr_model.specs.Step.{After, Command, step, IsOfMachine}
use Rattle.mr_model.specs.Tables.{Tables, tables_of, Stands}
use Rattle.mr_base.specs.RefusalViews.{refusal_of}
use Rattle.mr_base.specs.declared.refusals.Refusal.{Refusal}
use Rattle.mr_base.specs.declared.refusals.Refusal.TheVariants.{OutOfMemory, Store}
use Rattle.mr_tables.specs.Change.{ChangeView, changed}
use Rattle.mr_tables.specs.Summary.{IsWithin}
use Rattle.mr_part.specs.Parts.{PartView, IsPartOf}
use Rattle.mr_store.specs.declared.keeper.Keeper.{Ghosts}
use Rattle.mr_service.specs.Asked.{reply_of}
use Rattle.mr_service.specs.Served.{IsRead, IsServed}
use Rattle.mr_service.specs.declared.replies.Reply as code

-- this is what the command does
abbrev pub Does : Command → (Replica → After) → Type 0
Does c f = (a : Replica) → step a c ≡ f a

-- ---- a call of a part

-- For each replica of whose tables this is the part in the scope: the reply is that step's, and the tables, moved so, are those of
-- the replica after it.
pub record Answers (scope : Scope) (f : Replica → After) (part : PartView) (reply : Reply) (move : Tables → Tables) : Type 0 where
  pub exact : (a : Replica) → IsReplica a → IsPartOf part scope a → (reply ≡ (f a).reply) × (move (tables_of a) ≡ tables_of (f a).replica)
  pub accepted : (e : model.Refusal) → ¬ (reply ≡ Refused e)

-- A refusal is that step's; or memory was wanting. No store is at fault.
pub record Refuses (scope : Scope) (f : Replica → After) (part : PartView) (e : Refusal) : Type 0 where
  pub exact : (a : Replica) → IsReplica a → IsPartOf part scope a → (Refused (refusal_of e) ≡ (f a).reply) ⊎ (e ≡ OutOfMemory)
  pub never_store : ¬ (e ≡ Store)

-- a call that answers a reply and what it changes in the tables
abbrev pub TurnsBy : Scope → (Replica → After) → PartView → Result (code.Reply × ChangeView) Refusal → Type 0
TurnsBy scope f part (Ok done) = Answers scope f part (reply_of done.0) (changed done.1)
TurnsBy scope f part (Err e) = Refuses scope f part e

-- a call that answers a reply, and changes nothing
abbrev pub Tells : Scope → (Replica → After) → PartView → Result code.Reply Refusal → Type 0
Tells scope f part (Ok reply) = Answers scope f part (reply_of reply) (λ t. t)
Tells scope f part (Err e) = Refuses scope f part e

-- ---- before it and after it

-- this is the part in the scope, for each replica that the tables stand for
abbrev pub IsPartFrom : Tables → Scope → PartView → Type 0
IsPartFrom t scope part = (a : Replica) → Stands t a → IsPartOf part scope a

-- The part in the scope was read from the keeper, which leaves its tables; or memory or the store failed.
pub record IsLoaded {K : Type 0} (keeper : Ghosts K) (old new : K) (scope : Scope) (result : Result PartView Refusal) : Type 0 where
  pub read : IsRead keeper old new result
  pub fits : keeper.is_clean new → keeper.is_open old → IfOk result (IsPartFrom (keeper.tables old) scope)
  pub within : IfOk result (λ part. IsWithin part.summary)
  pub failed : IfErr result (λ e. IsOfMachine (Refused (refusal_of e)))

-- What the call of a part answered was made in the tables that the part is from, over an open keeper: every command that does what the call turns was
-- served.
abbrev pub IsMadeFor : {K : Type 0} → Ghosts K → K → K → Result (code.Reply × ChangeView) Refusal → Reply → Type 0
IsMadeFor keeper old new answer reply =
    (command : Command) (f : Replica → After) (scope : Scope) (part : PartView) → Does command f
    → (keeper.is_clean old → keeper.is_open old) → (keeper.is_clean old → keeper.is_open old → IsPartFrom (keeper.tables old) scope part)
    → TurnsBy scope f part answer → IsServed keeper old new command reply
