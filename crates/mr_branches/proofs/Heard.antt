-- What is heard of an act, and that a batch for the position that was just told is made for the office that told it.
use Rattle.std.proofs.Common.{◌≡◌, sym, ap, ◌∙◌, subst, ℕ, inl, inr, Option, Some, None}
use Rattle.mr_model.specs.Replica.{Replica}
use Rattle.mr_model.specs.Refusals.{OutOfMemory, Store}
use Rattle.mr_model.specs.Positions.{Position, position_of, position_text}
use Rattle.mr_model.specs.Replies.{Reply, PositionIs, Refused}
use Rattle.mr_model.specs.Step.{AskPosition, step, IsOfMachine, no_memory, no_store}
use Rattle.mr_model.specs.World.{World, StepReply, Said, Do, Made, Make, WorldAfter, replica_of, do_at, with_after}
use Rattle.mr_model.specs.Honest.{IsHonest}
use Rattle.mr_model.proofs.UniqueReplay.{some_inj}
use Rattle.mr_model.proofs.WorldFacts.{found_put}
use Rattle.mr_offices.specs.Offices.{Act, Within, Give, IsDone, IsNoReply, IsOfficeStep}
use Rattle.mr_offices.proofs.OfficeSteps.{giving_is_making}
use Rattle.mr_model.proofs.WorldKnowledge.{said_inj}
use Rattle.mr_peer.proofs.AskLemmas.{same_position}

-- ---- what is heard of an act

pub machine_isnt_position : {reply : Reply} → IsOfMachine reply → (p : Position) → reply ≡ PositionIs p → ⊥
machine_isnt_position no_memory p e = let z : Refused OutOfMemory ≡ PositionIs p = e in cc
machine_isnt_position no_store p e = let z : Refused Store ≡ PositionIs p = e in cc

-- a position, or that a batch was made, is no lost reply
position_is_reply : (p : Position) → IsNoReply (Some (Said (PositionIs p))) → ⊥
position_is_reply p (inl e) = let f : ◌≡◌ {A = Option StepReply} (Some (Said (PositionIs p))) None = e in cc
position_is_reply p (inr (said, is, machine)) = machine_isnt_position machine p (sym (said_inj (PositionIs p) said (some_inj (Said (PositionIs p)) (Said said) is)))

pub made_is_reply : (number size : ℕ) → IsNoReply (Some (Made number size)) → ⊥
made_is_reply number size (inl e) = let f : ◌≡◌ {A = Option StepReply} (Some (Made number size)) None = e in cc
made_is_reply number size (inr (said, is, machine)) = let f : Made number size ≡ Said said = some_inj (Made number size) (Said said) is in cc

-- an act of which a reply was heard is done
pub heard_done : (old new : World) (act : Act) (reply : StepReply) → (IsNoReply (Some reply) → ⊥) → IsOfficeStep old act (Some reply) new → IsDone old act reply new
heard_done old new act reply real (inl (said, done, inl is)) = subst (λ r. IsDone old act r new) (sym (some_inj reply said is)) done
heard_done old new act reply real (inl (said, done, inr none)) = absurd (real none)
heard_done old new act reply real (inr (ok, same, none)) = absurd (real none)

-- an office that told a position has just that
pub position_told : (old new : World) (server : ℕ) (r : Replica) (p : Position) → replica_of old server ≡ Some r → r.server ≡ server
    → IsOfficeStep old (Within (Do server AskPosition)) (Some (Said (PositionIs p))) new → (p ≡ position_of r) × (replica_of new server ≡ Some r)
position_told old new server r p e own one =
    let done = heard_done old new (Within (Do server AskPosition)) (Said (PositionIs p)) (position_is_reply p) one in
    let is : record { reply = Said (PositionIs p); world = new } ≡ with_after old (step r AskPosition) = done.1 ∙ ap (λ o. do_at old o AskPosition) e in (
      same_position p (position_of r) (said_inj (PositionIs p) (PositionIs (position_of r)) (ap (λ (x : WorldAfter). x.reply) is)),
      ap (λ (x : WorldAfter). replica_of x.world server) is ∙ found_put old.replicas server r r own e,
    )

-- giving a batch for the position that another has is making one for it
pub given_as_made : (w new : World) (from to m : ℕ) (r : Replica) (heard : Option StepReply) → IsHonest w → replica_of w to ≡ Some r
    → IsOfficeStep w (Give from (position_text (position_of r)) m) heard new → IsOfficeStep w (Within (Make from to m)) heard new
given_as_made w new from to m r heard h e (inl (reply, done, told)) = inl (reply, (tt, done.1 ∙ giving_is_making w from to m r h e), told)
given_as_made w new from to m r heard h e (inr (ok, same, none)) = inr (tt, same, none)
