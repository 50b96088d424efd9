-- What a batch brings that was made for a position taken down some time before.
use Rattle.std.proofs.Common.{◌≡◌, refl, sym, ap, ◌∙◌, subst, ℕ, ◌+◌, ◌≤◌, [], ◌∷◌, ◌++◌, length, take, ◌⊎◌, inl, inr, arith, add-one, true, Option, Some, None}
use Rattle.std.proofs.lemmas.List.{take_all}
use Rattle.std.specs.List.{AllByRecursion}
use Rattle.mr_model.specs.Texts.{Text}
use Rattle.mr_model.specs.Refusals.{Refusal, OutOfMemory, first_refusal}
use Rattle.mr_model.specs.Replica.{Replica, count_of, IsReplica}
use Rattle.mr_model.specs.Exchange.{Batch, Complete, is_batch, batch_text, read_batch}
use Rattle.mr_model.specs.Positions.{position_of, position_text, read_position}
use Rattle.mr_model.specs.Replies.{Reply, Took, Refused}
use Rattle.mr_model.specs.Step.{Receive, step, items_for, batch_of, batch_unless, batch_faults, reply_to_position, no_memory, IsOfMachine, no_store}
use Rattle.mr_model.specs.World.{World, Deliver, StepReply, Said, Made, NoReplica, WorldAfter, replica_of, with_made, batch_numbered}
use Rattle.mr_model.specs.Honest.{accepted, commit_list, IsHonestItem, IsHonestReplica, IsHonest}
use Rattle.mr_model.specs.WorldLaws.{IsCountOrGap, IsComplete, HasAllOf}
use Rattle.mr_convergence.specs.Convergence.{KnowledgeReaches}
use Rattle.mr_model.proofs.OrderedSets.{all_map}
use Rattle.mr_model.proofs.Fronts.{front_trans, get_end}
use Rattle.mr_model.proofs.BatchesReadBack.{read-text, reads_read, ok_inj}
use Rattle.mr_model.proofs.BatchItems.{batch_within_limits, given_in_version}
use Rattle.mr_model.proofs.Histories.{IsOf, Extends}
use Rattle.mr_model.proofs.NoGaps.{NoGap, AllGiven, no_gap-take, AllOfMaker, items_follow}
use Rattle.mr_model.proofs.PositionsReadBack.{position_within, read-position_text}
use Rattle.mr_model.proofs.WorldFacts.{item_grows, found_server, honest_replica, one_primary, history_of, agrees_of, Grows, grows_trans, found_put}
use Rattle.mr_model.proofs.WorldPlacing.{Kept, put}
use Rattle.mr_model.proofs.WorldKnowledge.{delivery_said, said_inj}
use Rattle.mr_model.proofs.DeliverySteps.{own_item}
use Rattle.mr_model.proofs.WorldSteps.{made_items}
use Rattle.mr_model.proofs.CommittedPlaces.{within_later}
use Rattle.mr_model.proofs.BatchesBring.{front_counted, whole_given, numbered_front, deliver_is, complete_long, has_all, made_number}
use Rattle.mr_model.proofs.UniqueReplay.{some_inj}
use Rattle.mr_convergence.proofs.Converging.{reaches_trans}
use Rattle.mr_offices.specs.Offices.{Within, Give, give_at, IsDone, IsNoReply, IsOfficeStep}
use Rattle.mr_offices.specs.OfficeLaws.{Hears, IsCarried, IsCount}
use Rattle.mr_offices.proofs.OfficeSteps.{done_kept, office_run_kept}

-- ---- a batch that was given

record GivenFor (asked made : World) (from : ℕ) (b : Replica) (m number size : ℕ) : Type 0 where
  maker : Replica
  is_maker : replica_of asked from ≡ Some maker
  is_number : number ≡ length asked.pool + 1
  is_size : size ≡ length (batch_text (batch_of maker (position_of b) m))
  is_made : made ≡ record asked { pool = asked.pool ++ batch_text (batch_of maker (position_of b) m) ∷ [] }
  is_given : first_refusal (batch_faults maker (position_of b) m) ≡ None

given_for : (asked made : World) (from : ℕ) (b : Replica) (m number size : ℕ) → IsReplica b
    → IsDone asked (Give from (position_text (position_of b)) m) (Made number size) made → GivenFor asked made from b m number size
given_for asked made from b m number size sound (ok, e) = go (replica_of asked from) refl (ap (λ (x : WorldAfter). x.reply) e) (ap (λ (x : WorldAfter). x.world) e)
  where
    back : read_position (position_text (position_of b)) ≡ Some (position_of b)
    back = read-position_text (position_of b) (position_within b sound)

    by : (r : Replica) → replica_of asked from ≡ Some r → (o : Option Refusal) → first_refusal (batch_faults r (position_of b) m) ≡ o
        → Made number size ≡ (with_made asked (batch_unless o (batch_of r (position_of b) m))).reply
        → made ≡ (with_made asked (batch_unless o (batch_of r (position_of b) m))).world → GivenFor asked made from b m number size
    by r er (Some x) eo f g = absurd (let z : Made number size ≡ Said (Refused x) = f in cc)
    by r er None eo f g =
        let n = made_number number size (length asked.pool + 1) (length (batch_text (batch_of r (position_of b) m))) f in
        record { maker = r; is_maker = er; is_number = n.0; is_size = n.1; is_made = g; is_given = eo }

    go : (o : Option Replica) → replica_of asked from ≡ o → Made number size ≡ (give_at asked o (position_text (position_of b)) m).reply
        → made ≡ (give_at asked o (position_text (position_of b)) m).world → GivenFor asked made from b m number size
    go None eo f g = absurd (let z : Made number size ≡ NoReplica = f in cc)
    go (Some r) eo f g =
        by r eo (first_refusal (batch_faults r (position_of b) m)) refl
        (f ∙ ap (λ p. (with_made asked (reply_to_position r p m)).reply) back) (g ∙ ap (λ p. (with_made asked (reply_to_position r p m)).world) back)

-- ---- a delivery

-- a prefix of any batch
pub fronts_said : (old new : World) (number to bytes : ℕ) (heard : Option StepReply) (r : Replica) (text : Text) → IsHonest old
    → IsOfficeStep old (Within (Deliver number to bytes)) heard new → replica_of old to ≡ Some r → batch_numbered old.pool number ≡ Some text → Hears IsCountOrGap heard
fronts_said old new number to bytes heard r text h (inr (ok, same, none)) er et = inr none
fronts_said old new number to bytes heard r text h (inl (reply, done, inr none)) er et = inr none
fronts_said old new number to bytes heard r text h (inl (reply, done, inl is)) er et =
    let (said, e, of) = delivery_said old new number to bytes reply r text h (done.0, inl done.1) er et in go said e of
  where
    go : (said : Reply) → reply ≡ Said said → IsCountOrGap said ⊎ (said ≡ Refused OutOfMemory) → Hears IsCountOrGap heard
    go said e (inl x) = inl (said, is ∙ ap Some e, x)
    go said e (inr x) = inr (inr (Refused OutOfMemory, is ∙ ap Some (e ∙ ap Said x), no_memory))

-- counts are no fault of a machine
took_is_reply : (writes commits : ℕ) → IsNoReply (Some (Said (Took writes commits))) → ⊥
took_is_reply writes commits (inl e) = let f : ◌≡◌ {A = Option StepReply} (Some (Said (Took writes commits))) None = e in cc
took_is_reply writes commits (inr (said, is, machine)) = of machine (said_inj (Took writes commits) said (some_inj (Said (Took writes commits)) (Said said) is))
  where
    of : {x : Reply} → IsOfMachine x → Took writes commits ≡ x → ⊥
    of no_memory f = let z : Took writes commits ≡ Refused OutOfMemory = f in cc
    of no_store f = cc

module _ (start asked made later end : World) (from to number size : ℕ) (heard : Option StepReply) (h : IsHonest start) (d : IsCarried start asked made later end from to number size heard) where
  abbrev before : Kept start asked
  before = office_run_kept h d.before

  abbrev b_sound : IsReplica d.receiver
  b_sound = (honest_replica start to d.receiver h d.is_receiver).sound

  abbrev x : GivenFor asked made from d.receiver d.max_lines number size
  x = given_for asked made from d.receiver d.max_lines number size b_sound d.making

  abbrev b : Batch
  b = batch_of x.maker (position_of d.receiver) d.max_lines

  abbrev after_making : Kept asked made
  after_making = done_kept asked made (Give from (position_text (position_of d.receiver)) d.max_lines) (Made number size) before.0 d.making

  abbrev after_others : Kept made later
  after_others = office_run_kept after_making.0 d.between

  abbrev grows : Grows asked later
  grows = grows_trans asked made later after_making.1 after_others.1

  abbrev then : (q : Replica) × (replica_of later to ≡ Some q) × Extends d.receiver q
  then = (grows_trans start asked later before.1 grows).replicas to d.receiver d.is_receiver

  abbrev q : Replica
  q = then.0

  abbrev maker_own : IsHonestReplica asked x.maker
  maker_own = honest_replica asked from x.maker before.0 x.is_maker

  abbrev made_text : batch_numbered made.pool number ≡ Some (batch_text b)
  made_text =
      ap (λ (w : World). batch_numbered w.pool number) x.is_made ∙ ap (λ n. batch_numbered (asked.pool ++ batch_text b ∷ []) n) (x.is_number ∙ add-one (length asked.pool))
      ∙ get_end asked.pool (batch_text b)

  abbrev text : batch_numbered later.pool number ≡ Some (batch_text b)
  text = numbered_front made.pool later.pool after_others.1.pool number (batch_text b) made_text

  abbrev is_batch_ : is_batch b ≡ true
  is_batch_ = batch_within_limits x.maker maker_own.sound (position_of d.receiver) d.max_lines (given_in_version x.maker (position_of d.receiver) d.max_lines x.is_given)

  abbrev same_primary : x.maker.primary ≡ q.primary
  same_primary =
      let (p, ep, y) = before.1.replicas to d.receiver d.is_receiver in
      one_primary asked from to x.maker p before.0 x.is_maker ep ∙ y.same_primary ∙ sym then.2.same_primary

  abbrev of : AllByRecursion (IsOf (accepted later) (commit_list later)) b.items
  of =
      all_map (IsHonestItem asked) (IsOf (accepted later) (commit_list later)) (λ y i. own_item later y (item_grows asked later grows y i)) b.items
      (made_items asked from x.maker (position_of d.receiver) d.max_lines before.0 x.is_maker)

  abbrev no_gap : NoGap (λ s. count_of d.receiver s) (length d.receiver.commits) (items_for x.maker (position_of d.receiver)) (AllOfMaker x.maker d.receiver maker_own.sound)
  no_gap =
      items_follow x.maker d.receiver maker_own.sound (commit_list asked) b_sound maker_own.one_primary
      (front_trans d.receiver.commits (commit_list start) (commit_list asked) (honest_replica start to d.receiver h d.is_receiver).one_primary before.1.commits)

  -- what the delivery is, where its reply is heard
  heard_is : (reply : StepReply) → IsDone later (Within (Deliver number to d.bytes)) reply end
      → ((reply ≡ Said (step q (Receive (take d.bytes (batch_text b)))).reply) × (end ≡ put later (step q (Receive (take d.bytes (batch_text b)))).replica)) ⊎ (reply ≡ Said (Refused OutOfMemory))
  heard_is reply done = deliver_is later end number to d.bytes reply q (batch_text b) (done.0, inl done.1) then.1 text

  counted : (writes : ℕ) × (commits : ℕ) × ((step q (Receive (take d.bytes (batch_text b)))).reply ≡ Took writes commits)
  counted =
      front_counted (accepted later) (commit_list later) (history_of later after_others.0) q b
      (record { from = x.maker.server; primary = x.maker.primary }) (agrees_of later to q after_others.0 then.1) is_batch_ refl same_primary of
      (λ s. count_of d.receiver s) (length d.receiver.commits) then.2.counts then.2.commit_count d.bytes
      (no_gap-take (λ s. count_of d.receiver s) (length d.receiver.commits) d.max_lines (items_for x.maker (position_of d.receiver)) (AllOfMaker x.maker d.receiver maker_own.sound) no_gap)

  pub front_taken : Hears IsCount heard
  front_taken = go d.delivery
    where
      said : (reply : StepReply) → heard ≡ Some reply
          → ((reply ≡ Said (step q (Receive (take d.bytes (batch_text b)))).reply) × (end ≡ put later (step q (Receive (take d.bytes (batch_text b)))).replica))
          ⊎ (reply ≡ Said (Refused OutOfMemory)) → Hears IsCount heard
      said reply is (inl (e, new)) = let (w, c, f) = counted in inl (Took w c, is ∙ ap Some (e ∙ ap Said f), (w, c, refl))
      said reply is (inr e) = inr (inr (Refused OutOfMemory, is ∙ ap Some e, no_memory))

      go : IsOfficeStep later (Within (Deliver number to d.bytes)) heard end → Hears IsCount heard
      go (inr (ok, same, none)) = inr none
      go (inl (reply, done, inr none)) = inr none
      go (inl (reply, done, inl is)) = said reply is (heard_is reply done)

  -- where counts are heard the step was taken
  taken_is : (writes commits : ℕ) → heard ≡ Some (Said (Took writes commits)) → end ≡ put later (step q (Receive (take d.bytes (batch_text b)))).replica
  taken_is writes commits is = go d.delivery
    where
      said : (reply : StepReply) → heard ≡ Some reply
          → ((reply ≡ Said (step q (Receive (take d.bytes (batch_text b)))).reply) × (end ≡ put later (step q (Receive (take d.bytes (batch_text b)))).replica))
          ⊎ (reply ≡ Said (Refused OutOfMemory)) → end ≡ put later (step q (Receive (take d.bytes (batch_text b)))).replica
      said reply e (inl (f, new)) = new
      said reply e (inr f) =
          let z : Took writes commits ≡ Refused OutOfMemory =
          said_inj (Took writes commits) (Refused OutOfMemory) (some_inj (Said (Took writes commits)) (Said (Refused OutOfMemory)) (sym is ∙ e ∙ ap Some f)) in
          absurd (cc)

      go : IsOfficeStep later (Within (Deliver number to d.bytes)) heard end → end ≡ put later (step q (Receive (take d.bytes (batch_text b)))).replica
      go (inr (ok, same, none)) = absurd (took_is_reply writes commits (subst IsNoReply is none))
      go (inl (reply, done, inr none)) = absurd (took_is_reply writes commits (subst IsNoReply is none))
      go (inl (reply, done, inl e)) = said reply e (heard_is reply done)

  whole_given_ : size ≤ d.bytes → IsComplete made number
      → AllGiven (accepted later) (commit_list later) q (step q (Receive (take d.bytes (batch_text b)))).replica (AllOfMaker x.maker d.receiver maker_own.sound)
  whole_given_ whole complete =
      whole_given (accepted later) (commit_list later) (history_of later after_others.0) q b
      (record { from = x.maker.server; primary = x.maker.primary }) (agrees_of later to q after_others.0 then.1) is_batch_ refl same_primary of
      (λ s. count_of d.receiver s) (length d.receiver.commits) then.2.counts then.2.commit_count d.bytes (AllOfMaker x.maker d.receiver maker_own.sound) (subst (λ n. n ≤ d.bytes) x.is_size whole)
      (subst (λ ys. NoGap (λ s. count_of d.receiver s) (length d.receiver.commits) ys (AllOfMaker x.maker d.receiver maker_own.sound)) (sym all) no_gap)
    where
      ends : b.ending ≡ Complete
      ends =
          let (t, c, at, reads, e) = complete in
          let same : batch_text b ≡ t = some_inj (batch_text b) t (sym made_text ∙ at) in
          let is : b ≡ c = ok_inj b c (sym (read-text b is_batch_) ∙ ap read_batch same ∙ reads_read t c reads) in
          ap (λ (y : Batch). y.ending) is ∙ e

      all : b.items ≡ items_for x.maker (position_of d.receiver)
      all = take_all d.max_lines (items_for x.maker (position_of d.receiver)) (complete_long (items_for x.maker (position_of d.receiver)) d.max_lines ends)

  pub carried_brings : (writes commits : ℕ) (maker : Replica) → heard ≡ Some (Said (Took writes commits)) → size ≤ d.bytes
      → IsComplete made number → replica_of asked from ≡ Some maker → (r : Replica) × (replica_of end to ≡ Some r) × HasAllOf r maker
  carried_brings writes commits maker is whole complete em =
      let given = whole_given_ whole complete in
      let r = (step q (Receive (take d.bytes (batch_text b)))).replica in
      let at : r.server ≡ to = given.extends.same_server ∙ found_server later to q then.1 in
      let same : x.maker ≡ maker = some_inj x.maker maker (sym x.is_maker ∙ em) in (
        r,
        ap (λ w. replica_of w to) (taken_is writes commits is) ∙ found_put later.replicas to q r at then.1,
        subst (λ m. HasAllOf r m) same
            (has_all (accepted later) (commit_list later) r x.maker (within_later asked later from x.maker before.0 grows x.is_maker) given.agrees.writes given.agrees.commit_list
            (λ s. let a = given.brought.1 s in let c = given.counts_low s in omega (arith, a, c)) (let a = given.brought.0 in let c = given.commits_low in omega (arith, a, c))),
      )

-- knowledge is handed on so
pub carried_hand_on : (old start asked made later end : World) (s from to number size writes commits : ℕ) → IsHonest start → KnowledgeReaches old asked s from
    → (d : IsCarried start asked made later end from to number size (Some (Said (Took writes commits)))) → size ≤ d.bytes → IsComplete made number → KnowledgeReaches old end s to
carried_hand_on old start asked made later end s from to number size writes commits h reach d whole complete =
    reaches_trans old asked end s from to reach
    (λ maker em. carried_brings start asked made later end from to number size (Some (Said (Took writes commits))) h d writes commits maker refl whole complete em)
