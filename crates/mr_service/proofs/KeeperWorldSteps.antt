-- The steps of a world of keepers are those of the worlds that it stands for.
use Rattle.std.proofs.Common.{◌≡◌, refl, sym, ap, subst, ◌∙◌, ℕ, ◌<◌, ◌≤◌, List, [], ◌∷◌, ◌++◌, length, take, get_or, Some, None, IsTrue, inl, inr, ◌⊎◌}
use Rattle.std.specs.List.{slice_set}
use Rattle.mr_model.specs.Texts.{Text}
use Rattle.mr_model.specs.Writes.{is_server}
use Rattle.mr_model.specs.Replica.{Replica, opening}
use Rattle.mr_model.specs.Refusals.{OutOfMemory}
use Rattle.mr_model.specs.Replies.{Reply, Refused}
use Rattle.mr_model.specs.Step.{Command, Receive, step}
use Rattle.mr_model.specs.World.{World, Step, Add, Do, Deliver, StepReply, Added, There, NoReplica, NoBatch, Said, replica_of, add_replica}
use Rattle.mr_model.specs.World.{do_at, deliver_to, with_after, batch_numbered, put_replica, primary_among, world_step, unchanged}
use Rattle.mr_model.specs.Honest.{IsLocal, IsWorldCommand, IsWorldStep}
use Rattle.mr_service.specs.declared.commands.Local.{Local}
use Rattle.mr_service.specs.declared.commands.Local.TheVariants as local
use Rattle.mr_service.specs.Asked.{local_of}
use Rattle.mr_service.specs.Worlds.{MemberView, WorldView, StandsForMember, StandForAll, StandsForWorld, AnswersInMemory, TakesWorldStep, member_index, primary_in}
use Rattle.mr_service.proofs.StepServers.{step_same}
use Rattle.mr_service.proofs.WorldMembers.{FoundAt, found_at, found_none, stand_more, same_primary, put_itself}

abbrev pub world : List MemberView → List Text → WorldView
world members pool = record { members = members; pool = pool }

-- a step that leaves the world, with the reply of the definitions
pub stays : (v : WorldView) (s : Step) (reply : StepReply) → IsWorldCommand s → ((w : World) → StandsForWorld v w → world_step w s ≡ unchanged w reply) → TakesWorldStep v s reply v
stays v s reply c h w stands = (w, (c, inl (sym (h w stands))), stands)

-- want of memory at any step
pub wants : (v : WorldView) (s : Step) (reply : StepReply) → IsWorldCommand s → reply ≡ Said (Refused OutOfMemory) → TakesWorldStep v s reply v
wants v s reply c e w stands = (w, (c, inr (e, refl)), stands)

-- each command of somebody at a replica is one of a world
pub is_local : (l : Local) → IsLocal (local_of l)
is_local (local.AddRoom room) = tt
is_local (local.Submit s) = tt
is_local (local.Cancel room id) = tt
is_local (local.Commit k) = tt
is_local (local.Truncate d) = tt
is_local local.Position = tt
is_local (local.BatchFor position max_lines) = tt
is_local (local.Calendar room part) = tt
is_local (local.Sheet room day) = tt
is_local (local.Outcome room id) = tt
is_local (local.Errors room) = tt

-- ---- a replica that is there answers, and takes the place of what it was

replaced : (ms : List MemberView) (pool : List Text) (s : ℕ) (c : Command) (st : Step) (m after : MemberView) (reply : Reply)
    → IsWorldCommand st → member_index ms s < length ms → m ≡ get_or ms (member_index ms s) m
    → AnswersInMemory m c reply after
    → ((w : World) (r : Replica) → StandsForWorld (world ms pool) w → replica_of w s ≡ Some r → world_step w st ≡ with_after w (step r c))
    → TakesWorldStep (world ms pool) st (Said reply) (world (slice_set ms (member_index ms s) after) pool)
replaced ms pool s c st m after reply command low is answers steps w stands = go (answers f.replica (f.stands m is))
  where
    f : FoundAt ms w.replicas s
    f = found_at ms w.replicas s stands.replicas low

    go : ((reply ≡ (step f.replica c).reply) × StandsForMember after (step f.replica c).replica) ⊎ ((reply ≡ Refused OutOfMemory) × StandsForMember after f.replica)
        → (end : World) × IsWorldStep w st (Said reply) end × StandsForWorld (world (slice_set ms (member_index ms s) after) pool) end
    go (inl (e, there)) = (
      record w { replicas = put_replica (step f.replica c).replica w.replicas },
      (command, inl (ap (λ x. record { reply = Said x; world = record w { replicas = put_replica (step f.replica c).replica w.replicas } }) e ∙ sym (steps w f.replica stands f.found))),
      record { replicas = f.put after (step f.replica c).replica there ((step_same f.replica c).server ∙ f.its_server); pool = stands.pool },
    )
    go (inr (e, there)) = (
      w,
      (command, inr (ap Said e, refl)),
      record {
        replicas = subst (StandForAll (slice_set ms (member_index ms s) after)) (put_itself w.replicas f.replica s f.its_server f.found) (f.put after f.replica there f.its_server);
        pool = stands.pool;
      },
    )

-- ---- each kind of step

-- a server that is there
pub add_there : (ms : List MemberView) (pool : List Text) (s : ℕ) → IsTrue (is_server s) → member_index ms s < length ms → TakesWorldStep (world ms pool) (Add s) There (world ms pool)
add_there ms pool s server low = stays (world ms pool) (Add s) There server (λ w stands. ap (add_replica w s) (found_at ms w.replicas s stands.replicas low).found)

-- one replica more
pub add_one : (ms : List MemberView) (pool : List Text) (s : ℕ) (m : MemberView) → IsTrue (is_server s) → length ms ≤ member_index ms s → StandsForMember m (opening s (primary_in ms s))
    → TakesWorldStep (world ms pool) (Add s) Added (world (ms ++ m ∷ []) pool)
add_one ms pool s m server low new w stands =
    let none = found_none ms w.replicas s stands.replicas low in
    let primary = same_primary ms w.replicas s stands.replicas in (
      record w { replicas = w.replicas ++ opening s (primary_among w.replicas s) ∷ [] },
      (server, inl (sym (ap (add_replica w s) none))),
      record { replicas = stand_more ms w.replicas m (opening s (primary_among w.replicas s)) stands.replicas (subst (λ p. StandsForMember m (opening s p)) primary new); pool = stands.pool },
    )

pub do_nobody : (ms : List MemberView) (pool : List Text) (s : ℕ) (l : Local) → length ms ≤ member_index ms s → TakesWorldStep (world ms pool) (Do s (local_of l)) NoReplica (world ms pool)
do_nobody ms pool s l low = stays (world ms pool) (Do s (local_of l)) NoReplica (is_local l) (λ w stands. ap (λ o. do_at w o (local_of l)) (found_none ms w.replicas s stands.replicas low))

pub do_one : (ms : List MemberView) (pool : List Text) (s : ℕ) (l : Local) (m after : MemberView) (reply : Reply) → member_index ms s < length ms → m ≡ get_or ms (member_index ms s) m
    → AnswersInMemory m (local_of l) reply after → TakesWorldStep (world ms pool) (Do s (local_of l)) (Said reply) (world (slice_set ms (member_index ms s) after) pool)
do_one ms pool s l m after reply low is answers =
    replaced ms pool s (local_of l) (Do s (local_of l)) m after reply (is_local l) low is answers (λ w r stands e. ap (λ o. do_at w o (local_of l)) e)

pub deliver_nobody : (ms : List MemberView) (pool : List Text) (batch s n : ℕ) → length ms ≤ member_index ms s → TakesWorldStep (world ms pool) (Deliver batch s n) NoReplica (world ms pool)
deliver_nobody ms pool batch s n low =
    stays (world ms pool) (Deliver batch s n) NoReplica tt (λ w stands. ap (λ o. deliver_to w o (batch_numbered w.pool batch) n) (found_none ms w.replicas s stands.replicas low))

pub deliver_nothing : (ms : List MemberView) (pool : List Text) (batch s n : ℕ) → member_index ms s < length ms
    → batch_numbered pool batch ≡ None → TakesWorldStep (world ms pool) (Deliver batch s n) NoBatch (world ms pool)
deliver_nothing ms pool batch s n low none =
    stays (world ms pool) (Deliver batch s n) NoBatch tt
    (λ w stands. let f = found_at ms w.replicas s stands.replicas low in
    (λ i. deliver_to w (f.found i) (batch_numbered w.pool batch) n) ∙ ap (λ o. deliver_to w (Some f.replica) o n) (ap (λ p. batch_numbered p batch) (sym stands.pool) ∙ none))

pub deliver_one : (ms : List MemberView) (pool : List Text) (batch s n : ℕ) (bytes : Text) (m after : MemberView) (reply : Reply) → member_index ms s < length ms → m ≡ get_or ms (member_index ms s) m
    → batch_numbered pool batch ≡ Some bytes → AnswersInMemory m (Receive (take n bytes)) reply after
    → TakesWorldStep (world ms pool) (Deliver batch s n) (Said reply) (world (slice_set ms (member_index ms s) after) pool)
deliver_one ms pool batch s n bytes m after reply low is there answers =
    replaced ms pool s (Receive (take n bytes)) (Deliver batch s n) m after reply tt low is answers
    (λ w r stands e. (λ i. deliver_to w (e i) (batch_numbered w.pool batch) n) ∙ ap (λ o. deliver_to w (Some r) o n) (ap (λ p. batch_numbered p batch) (sym stands.pool) ∙ there))

-- ---- a place that was found among them

-- what finding a replica tells, of the list that was looked through
pub record IsFound (ms : List MemberView) (s k : ℕ) : Type 0 where
  pub place : k ≡ member_index ms s
  pub low : member_index ms s < length ms

pub found_in : (xs ms : List MemberView) (s k : ℕ) → xs ≡ ms → k ≡ member_index xs s → k < length xs → IsFound ms s k
found_in xs ms s k same e low =
    let place : k ≡ member_index ms s = e ∙ ap (λ ys. member_index ys s) same in
    record { place = place; low = subst (λ n. n < length ms) place (subst (λ (ys : List MemberView). k < length ys) same low) }

pub none_in : (xs ms : List MemberView) (s : ℕ) → xs ≡ ms → length xs ≤ member_index xs s → length ms ≤ member_index ms s
none_in xs ms s same low = subst (λ (ys : List MemberView). length ys ≤ member_index ys s) same low

pub do_found : (ms : List MemberView) (pool : List Text) (s k : ℕ) (l : Local) (m after : MemberView) (reply : Reply) → IsFound ms s k → m ≡ get_or ms k m
    → AnswersInMemory m (local_of l) reply after → TakesWorldStep (world ms pool) (Do s (local_of l)) (Said reply) (world (slice_set ms k after) pool)
do_found ms pool s k l m after reply f is answers =
    subst (λ i. TakesWorldStep (world ms pool) (Do s (local_of l)) (Said reply) (world (slice_set ms i after) pool)) (sym f.place)
    (do_one ms pool s l m after reply f.low (is ∙ ap (λ i. get_or ms i m) f.place) answers)

pub deliver_found : (ms : List MemberView) (pool : List Text) (batch s n k : ℕ) (bytes front : Text) (m after : MemberView) (reply : Reply) → IsFound ms s k → m ≡ get_or ms k m
    → batch_numbered pool batch ≡ Some bytes → front ≡ take n bytes → AnswersInMemory m (Receive front) reply after
    → TakesWorldStep (world ms pool) (Deliver batch s n) (Said reply) (world (slice_set ms k after) pool)
deliver_found ms pool batch s n k bytes front m after reply f is there cut answers =
    subst (λ i. TakesWorldStep (world ms pool) (Deliver batch s n) (Said reply) (world (slice_set ms i after) pool)) (sym f.place)
    (deliver_one ms pool batch s n bytes m after reply f.low (is ∙ ap (λ i. get_or ms i m) f.place) there (subst (λ (t : Text). AnswersInMemory m (Receive t) reply after) cut answers))
