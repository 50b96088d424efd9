-- Making a batch is a step of each world that a world of keepers stands for.
use Rattle.std.proofs.Common.{◌≡◌, refl, sym, ap, subst, ◌∙◌, ℕ, ◌+◌, ◌≤◌, List, [], ◌∷◌, ◌++◌, length, Some, inl, inr, ◌⊎◌}
use Rattle.std.specs.List.{slice_get}
use Rattle.mr_model.specs.Texts.{Text}
use Rattle.mr_model.specs.Replica.{Replica}
use Rattle.mr_model.specs.Refusals.{Refusal, OutOfMemory}
use Rattle.mr_model.specs.Exchange.{batch_text}
use Rattle.mr_model.specs.Positions.{position_of, position_text, read_position}
use Rattle.mr_model.specs.Replies.{Reply, Refused}
use Rattle.mr_model.specs.Step.{batch_reply, reply_to_position}
use Rattle.mr_model.specs.World.{World, Make, StepReply, NoReplica, Made, Said, replica_of, make_for, with_made, world_step}
use Rattle.mr_model.specs.Honest.{IsWorldStep}
use Rattle.mr_model.proofs.PositionsReadBack.{position_within, read-position_text}
use Rattle.mr_service.specs.Worlds.{MemberView, StandsForMember, StandForAll, StandsForWorld, IsBatchMade, TakesWorldStep, member_index}
use Rattle.mr_service.proofs.WorldMembers.{FoundAt, found_at, found_none}
use Rattle.mr_service.proofs.KeeperWorldSteps.{world, stays, IsFound}

-- a refusal is told
pub refused_made : (reply : Reply) (e : Refusal) (pool : List Text) → (reply ≡ Refused e) ⊎ (e ≡ OutOfMemory) → IsBatchMade reply (Said (Refused e)) pool pool
refused_made reply e pool (inl is) = inr (inl (e, is, refl, refl))
refused_made reply e pool (inr none) = inr (inr (ap (λ x. Said (Refused x)) none, refl))

-- the text of a replica's position is read as that position
pub asked_at : (a b : Replica) (m : MemberView) (text : Text) (n : ℕ) (said : StepReply) (old new : List Text) → StandsForMember m b → text ≡ position_text (position_of b)
    → IsBatchMade (reply_to_position a (read_position text) n) said old new → IsBatchMade (batch_reply a (position_of b) n) said old new
asked_at a b m text n said old new h e made =
    subst (λ o. IsBatchMade (reply_to_position a o n) said old new) (ap read_position e ∙ read-position_text (position_of b) (position_within b h.tables.sound)) made

-- no replica has the server of the maker, or of the other
pub make_nobody : (ms : List MemberView) (pool : List Text) (from to n : ℕ) → length ms ≤ member_index ms from → TakesWorldStep (world ms pool) (Make from to n) NoReplica (world ms pool)
make_nobody ms pool from to n low =
    stays (world ms pool) (Make from to n) NoReplica tt (λ w stands. ap (λ o. make_for w o (replica_of w to) n) (found_none ms w.replicas from stands.replicas low))

pub make_for_nobody : (ms : List MemberView) (pool : List Text) (from to n k : ℕ) → IsFound ms from k
    → length ms ≤ member_index ms to → TakesWorldStep (world ms pool) (Make from to n) NoReplica (world ms pool)
make_for_nobody ms pool from to n k found low =
    stays (world ms pool) (Make from to n) NoReplica tt
    (λ w stands. let f = found_at ms w.replicas from stands.replicas found.low in
    (λ i. make_for w (f.found i) (replica_of w to) n) ∙ ap (λ o. make_for w (Some f.replica) o n) (found_none ms w.replicas to stands.replicas low))

-- both are there
pub made_step : (ms after : List MemberView) (pool more : List Text) (from to n k j : ℕ) (reply : StepReply) → IsFound ms from k → IsFound ms to j
    → ((rs : List Replica) → StandForAll ms rs → StandForAll after rs)
    → ((rs : List Replica) (a b : Replica) → StandForAll ms rs → slice_get rs k ≡ Some a → slice_get rs j ≡ Some b → IsBatchMade (batch_reply a (position_of b) n) reply pool more)
    → TakesWorldStep (world ms pool) (Make from to n) reply (world after more)
made_step ms after pool more from to n k j reply maker taker keeps made w stands =
    go (made w.replicas f.replica g.replica stands.replicas (ap (slice_get w.replicas) maker.place ∙ f.at) (ap (slice_get w.replicas) taker.place ∙ g.at))
  where
    f : FoundAt ms w.replicas from
    f = found_at ms w.replicas from stands.replicas maker.low

    g : FoundAt ms w.replicas to
    g = found_at ms w.replicas to stands.replicas taker.low

    there : StandForAll after w.replicas
    there = keeps w.replicas stands.replicas

    step : world_step w (Make from to n) ≡ with_made w (batch_reply f.replica (position_of g.replica) n)
    step = (λ i. make_for w (f.found i) (replica_of w to) n) ∙ ap (λ o. make_for w (Some f.replica) o n) g.found

    go : IsBatchMade (batch_reply f.replica (position_of g.replica) n) reply pool more → (end : World) × IsWorldStep w (Make from to n) reply end × StandsForWorld (world after more) end
    go (inl (b, is, said, new)) = (
      record w { pool = w.pool ++ batch_text b ∷ [] },
      (
        tt,
        inl (ap (λ r. record { reply = r; world = record w { pool = w.pool ++ batch_text b ∷ [] } }) (said ∙ ap (λ (p : List Text). Made (length p + 1) (length (batch_text b))) stands.pool)
            ∙ sym (step ∙ ap (with_made w) is)),
      ),
      record { replicas = there; pool = new ∙ ap (λ (p : List Text). p ++ batch_text b ∷ []) stands.pool },
    )
    go (inr (inl (e, is, said, same))) = (
      w,
      (tt, inl (ap (λ r. record { reply = r; world = w }) said ∙ sym (step ∙ ap (with_made w) is))),
      record { replicas = there; pool = same ∙ stands.pool },
    )
    go (inr (inr (said, same))) = (w, (tt, inr (said, refl)), record { replicas = there; pool = same ∙ stands.pool })
