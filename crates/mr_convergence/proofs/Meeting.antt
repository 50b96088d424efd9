-- Exchanges with the primary are never refused, and bring all to all.
use Rattle.std.proofs.Common.{◌≡◌, refl, sym, ap, ◌∙◌, subst, ℕ, zero, suc, ◌+◌, ◌<◌, ◌≤◌, Bool, true, false, not, eqb, ltb, List, [], ◌∷◌, ◌++◌}
use Rattle.std.proofs.Common.{length, map, take, ◌⊎◌, inl, inr, arith, eq-eqb, add-one, ltb-true, ltb-false, le_refl, Option, Some, None}
use Rattle.std.proofs.lemmas.Bool.{cond-true, cond-false, false_from_ne_true, cases_eq, cases_lt}
use Rattle.std.specs.List.{AllByRecursion, list_any, find}
use Rattle.mr_model.specs.Texts.{Text}
use Rattle.mr_model.specs.Writes.{id_of}
use Rattle.mr_model.specs.Refusals.{WrongPrimary, Truncated, NeedsVersion2, OutOfMemory, first_refusal}
use Rattle.mr_model.specs.Replica.{Replica, count_of, tentative, IsReplica}
use Rattle.mr_model.specs.Exchange.{Item, W, C, Second, Complete, More, Batch, is_batch, batch_text}
use Rattle.mr_model.specs.Positions.{position_of}
use Rattle.mr_model.specs.Replies.{Reply, Took, CommittedIs, BatchIs, Refused}
use Rattle.mr_model.specs.Step.{After, Receive, Commit, step, items_for, batch_of, batch_unless, batch_reply, is_beyond}
use Rattle.mr_model.specs.World.{World, Step, Make, Deliver, Do, StepReply, Made, Said, WorldAfter, replica_of, make_for, with_made, deliver_to, batch_numbered, world_step, do_at, with_after}
use Rattle.mr_model.specs.Honest.{accepted, commit_list, OnePrimary, IsHonestItem, IsHonest, IsWorldStep, ended, stepped}
use Rattle.mr_model.specs.WorldLaws.{IsDelivery, IsComplete, IsCountOrGap, count, gap}
use Rattle.mr_convergence.specs.Convergence.{AcceptsNothing, IsQuietStep, IsRunOf, IsQuietRun, IsThere, IsHandedOn, kept, handed}
use Rattle.mr_convergence.specs.Convergence.{EachHandedToEach, IsMadeOrTaken, made, took, AsksForLines, IsSmooth, IsSettling}
use Rattle.mr_model.proofs.OrderedSets.{all_map}
use Rattle.mr_model.proofs.Fronts.{front_length, get_end, get-map, all_get, find_passes}
use Rattle.mr_model.proofs.BatchesReadBack.{read-text, read_reads}
use Rattle.mr_model.proofs.BatchItems.{given_within, IsOwn, items_own, none_beyond}
use Rattle.mr_model.proofs.BatchesBring.{front_is_taken, whole_given, deliver_is}
use Rattle.mr_convergence.proofs.Converging.{all_kept, handed_kept}
use Rattle.mr_convergence.proofs.QuietSteps.{quiet_same, quiet_accepts}
use Rattle.mr_convergence.proofs.HandingOn.{run_append, handed_after, handed_trans}
use Rattle.mr_model.proofs.Histories.{Extends, HasItem, IsOf}
use Rattle.mr_model.proofs.DeliverySteps.{own_item, Received, delivered, text_numbered}
use Rattle.mr_model.proofs.NoGaps.{NoGap, Anything, AllGiven, no_gap-take, AllOfMaker, items_follow}
use Rattle.mr_convergence.proofs.Sizes.{size, whole_size, size_within, whole_same, larger_by, items_lacked, Brings, first_brought}
use Rattle.mr_model.proofs.TakingKeeps.{IsItem}
use Rattle.mr_model.proofs.Orders.{with_commits}
use Rattle.mr_convergence.proofs.Settling.{commit_is}
use Rattle.mr_model.proofs.UniqueReplay.{some_inj, none_some}
use Rattle.mr_model.proofs.WordsReadBack.{all_append}
use Rattle.mr_model.proofs.WorldFacts.{found_server, honest_replica, one_primary, history_of, agrees_of, found_put, others_put}
use Rattle.mr_model.proofs.WorldPlacing.{Kept, put}
use Rattle.mr_model.proofs.WorldSteps.{step_kept, made_items}
use Rattle.mr_model.proofs.WorldKnowledge.{said_inj}

-- ---- when a batch is given

abbrev reply_of : Bool → Bool → Bool → Batch → Reply
reply_of x y z b = batch_unless (first_refusal ((x, WrongPrimary) ∷ (y, Truncated) ∷ (z, NeedsVersion2) ∷ [])) b

reply-is : (a b : Replica) (m : ℕ) (y : Bool) → b.primary ≡ a.primary → ltb (length b.commits) a.dropped ≡ y → batch_reply a (position_of b) m ≡ reply_of false y false (batch_of a (position_of b) m)
reply-is a b m y same e =
    let p = position_of b in
    ap (λ x. reply_of (not x) (ltb (length b.commits) a.dropped) (list_any (is_beyond Second) (batch_of a p m).items) (batch_of a p m)) (eq-eqb b.primary a.primary same)
    ∙ ap (λ x. reply_of false x (list_any (is_beyond Second) (batch_of a p m).items) (batch_of a p m)) e
    ∙ ap (λ x. reply_of false y x (batch_of a p m)) (none_beyond (batch_of a p m).items)

pub given_unless : (w : World) (s t m : ℕ) (a b : Replica) → IsHonest w → replica_of w s ≡ Some a → replica_of w t ≡ Some b
    → ((a.dropped ≤ length b.commits) × (batch_reply a (position_of b) m ≡ BatchIs (batch_of a (position_of b) m)))
    ⊎ ((length b.commits < a.dropped) × (batch_reply a (position_of b) m ≡ Refused Truncated))
given_unless w s t m a b h ea eb = go (ltb (length b.commits) a.dropped) refl
  where
    same : b.primary ≡ a.primary
    same = one_primary w t s b a h eb ea

    go : (y : Bool) → ltb (length b.commits) a.dropped ≡ y → ((a.dropped ≤ length b.commits) × (batch_reply a (position_of b) m ≡ BatchIs (batch_of a (position_of b) m)))
        ⊎ ((length b.commits < a.dropped) × (batch_reply a (position_of b) m ≡ Refused Truncated))
    go true e = inr (ltb-true (length b.commits) a.dropped e, reply-is a b m true same e)
    go false e = inl (ltb-false (length b.commits) a.dropped e, reply-is a b m false same e)

pub given_with_primary : (w : World) (s t m : ℕ) (a b : Replica) → IsHonest w → replica_of w s ≡ Some a → replica_of w t ≡ Some b
    → (a.server ≡ a.primary) ⊎ (b.server ≡ b.primary) → batch_reply a (position_of b) m ≡ BatchIs (batch_of a (position_of b) m)
given_with_primary w s t m a b h ea eb own = go (given_unless w s t m a b h ea eb)
  where
    few : (a.server ≡ a.primary) ⊎ (b.server ≡ b.primary) → a.dropped ≤ length b.commits
    few (inl z) = let none = (honest_replica w s a h ea).sound.primary_keeps_all z in omega (arith, none)
    few (inr z) =
        let x = honest_replica w s a h ea in
        let low = x.sound.dropped_committed in
        let front = front_length a.commits (commit_list w) x.one_primary in
        let all = ap length ((agrees_of w t b h eb).of_primary z) in
        omega (arith, low, front, all)

    go : ((a.dropped ≤ length b.commits) × (batch_reply a (position_of b) m ≡ BatchIs (batch_of a (position_of b) m)))
        ⊎ ((length b.commits < a.dropped) × (batch_reply a (position_of b) m ≡ Refused Truncated)) → batch_reply a (position_of b) m ≡ BatchIs (batch_of a (position_of b) m)
    go (inl x) = x.1
    go (inr x) = let low = few own in let less = x.0 in absurd (omega (arith, low, less))

pub made_with_primary : (old new : World) (s t m : ℕ) (reply : StepReply) (a b : Replica) → IsHonest old → IsWorldStep old (Make s t m) reply new
    → replica_of old s ≡ Some a → replica_of old t ≡ Some b → (a.server ≡ a.primary) ⊎ (b.server ≡ b.primary)
    → ((number : ℕ) × (bytes : ℕ) × (reply ≡ Made number bytes)) ⊎ (reply ≡ Said (Refused OutOfMemory))
made_with_primary old new s t m reply a b h (ok, inr none) ea eb own = inr none.0
made_with_primary old new s t m reply a b h (ok, inl e) ea eb own =
    inl (
      length old.pool + 1,
      length (batch_text (batch_of a (position_of b) m)),
      ap (λ (y : WorldAfter). y.reply) e ∙ ap (λ o. (make_for old o (replica_of old t) m).reply) ea
          ∙ ap (λ o. (make_for old (Some a) o m).reply) eb ∙ ap (λ y. (with_made old y).reply) (given_with_primary old s t m a b h ea eb own),
    )

-- ---- quiet runs, one behind the other

-- (no replica is added in it)
pub record Smooth (lines : ℕ) (old new : World) : Type 0 where
  pub quiet : IsQuietRun old new
  pub smooth : IsSmooth lines quiet
  pub there : (s : ℕ) → IsThere new s → IsThere old s

abbrev smoothly_refl : (lines : ℕ) (w : World) → Smooth lines w w
smoothly_refl lines w = record { quiet = record { steps = []; replies = []; run = ended; all_allowed = tt }; smooth = record { asks = tt; done = tt }; there = λ s x. x }

abbrev smoothly_trans : (lines : ℕ) (a b c : World) → Smooth lines a b → Smooth lines b c → Smooth lines a c
smoothly_trans lines a b c f g =
    record {
      quiet = record {
        steps = f.quiet.steps ++ g.quiet.steps;
        replies = f.quiet.replies ++ g.quiet.replies;
        run = run_append f.quiet.run g.quiet.run;
        all_allowed = all_append IsQuietStep f.quiet.steps g.quiet.steps f.quiet.all_allowed g.quiet.all_allowed;
      };
      smooth = record {
        asks = all_append (AsksForLines lines) f.quiet.steps g.quiet.steps f.smooth.asks g.smooth.asks;
        done = all_append IsMadeOrTaken f.quiet.replies g.quiet.replies f.smooth.done g.smooth.done;
      };
      there = λ s x. f.there s (g.there s x);
    }

-- the knowledge of the one is handed to the other
abbrev Way : {m : ℕ} {w new : World} → Smooth m w new → ℕ → ℕ → Type 0
Way {m} {w} {new} c f t = IsHandedOn w c.quiet.steps c.quiet.replies new f t

-- ---- one batch made and delivered whole

refused_isnt : (x : Reply) → IsCountOrGap x → x ≡ Refused OutOfMemory → ⊥
refused_isnt x (count w c) e = cc
refused_isnt x (gap line) e = cc

module _ (w : World) (f t : ℕ) (a b : Replica) (h : IsHonest w) (ea : replica_of w f ≡ Some a) (eb : replica_of w t ≡ Some b)
    (m : ℕ) (given : batch_reply a (position_of b) m ≡ BatchIs (batch_of a (position_of b) m)) where
  abbrev batch : Batch
  batch = batch_of a (position_of b) m

  abbrev text : Text
  text = batch_text batch

  abbrev one : World
  one = record w { pool = w.pool ++ text ∷ [] }

  abbrev number : ℕ
  number = length w.pool + 1

  abbrev handing : Step
  handing = Deliver number t (length text)

  abbrev two : World
  two = (world_step one handing).world

  abbrev reply : StepReply
  reply = (world_step one handing).reply

  abbrev received : Replica
  received = (step b (Receive (take (length text) text))).replica

  making : IsWorldStep w (Make f t m) (Made number (length text)) one
  making = (tt, inl (sym (ap (λ o. make_for w o (replica_of w t) m) ea ∙ ap (λ o. make_for w (Some a) o m) eb ∙ ap (λ y. with_made w y) given)))

  delivery : IsWorldStep one handing reply two
  delivery = (tt, inl refl)

  numbered : batch_numbered one.pool number ≡ Some text
  numbered = ap (λ n. batch_numbered (w.pool ++ text ∷ []) n) (add-one (length w.pool)) ∙ get_end w.pool text

  sound : IsReplica a
  sound = (honest_replica w f a h ea).sound

  within : is_batch batch ≡ true
  within = given_within a (position_of b) m batch sound given

  honest_one : IsHonest one
  honest_one = (step_kept w one (Make f t m) (Made number (length text)) h making).0

  is_delivered : Received (accepted one) (commit_list one) b (step b (Receive (take (length text) text)))
  is_delivered = delivered one t b text (length text) honest_one eb (text_numbered one number text honest_one numbered)

  received_at : received.server ≡ t
  received_at = is_delivered.extends.same_server ∙ found_server w t b eb

  not_refused : reply ≡ Said (Refused OutOfMemory) → ⊥
  not_refused e =
      let is : reply ≡ Said (step b (Receive (take (length text) text))).reply = ap (λ o. (deliver_to one o (batch_numbered one.pool number) (length text)).reply) eb
      ∙ ap (λ o. (deliver_to one (Some b) o (length text)).reply) numbered in
      refused_isnt (step b (Receive (take (length text) text))).reply is_delivered.replies (said_inj (step b (Receive (take (length text) text))).reply (Refused OutOfMemory) (sym is ∙ e))

  abbrev whole : IsDelivery w one one two f t number (length text) reply
  whole = record { max_lines = m; making = making; steps = []; replies = []; others = ended; bytes = length text; delivery = delivery }

  taken : IsMadeOrTaken reply
  taken = go (front_is_taken w one one two f t number (length text) reply h whole)
    where
      go : ((writes : ℕ) × (commits : ℕ) × (reply ≡ Said (Took writes commits))) ⊎ (reply ≡ Said (Refused OutOfMemory)) → IsMadeOrTaken reply
      go (inl (writes, commits, e)) = subst IsMadeOrTaken (sym e) (took writes commits)
      go (inr e) = absurd (not_refused e)

  two_is : two ≡ put one received
  two_is = go (deliver_is one two number t (length text) reply b text delivery eb numbered)
    where
      go : ((reply ≡ Said (step b (Receive (take (length text) text))).reply) × (two ≡ put one received)) ⊎ (reply ≡ Said (Refused OutOfMemory)) → two ≡ put one received
      go (inl x) = x.1
      go (inr none) = absurd (not_refused none)

  same_there : (s : ℕ) → IsThere two s → IsThere w s
  same_there s (x, ex) = elim (cases_eq received.server s) [
    | inl z ↦ (b, ap (λ u. replica_of w u) (sym z ∙ received_at) ∙ eb)
    | inr ne ↦ (x, sym (others_put one.replicas s received ne) ∙ sym (ap (λ v. replica_of v s) two_is) ∙ ex)
  ]

  abbrev both_steps : Smooth m w two
  both_steps =
      record {
        quiet = record { steps = Make f t m ∷ handing ∷ []; replies = Made number (length text) ∷ reply ∷ []; run = stepped making (stepped delivery ended); all_allowed = (tt, (tt, tt)) };
        smooth = record { asks = (refl, (tt, tt)); done = (made number (length text), (taken, tt)) };
        there = same_there;
      }

  -- a complete one brings all
  meet : length (items_for a (position_of b)) ≤ m → Way both_steps f t
  meet long = handed (kept {s = f} ended) whole (le_refl (length text)) complete not_refused ended
    where
      ends : batch.ending ≡ Complete
      ends = cond-false (ltb m (length (items_for a (position_of b)))) More Complete (false_from_ne_true (ltb m (length (items_for a (position_of b))))
          (λ e. let l : m < length (items_for a (position_of b)) = ltb-true m (length (items_for a (position_of b))) e in omega (arith, l, long)))

      complete : IsComplete one number
      complete = (text, batch, numbered, read_reads text batch (read-text batch within), ends)

  -- another brings its first item
  pub record Further : Type 0 where
    pub new : Replica
    pub is_new : replica_of two t ≡ Some new
    pub extends : Extends b new
    pub larger : size b < size new
    pub maker : (f ≡ t → ⊥) → replica_of two f ≡ Some a

  pub further : (k : ℕ) → m ≡ suc k → (x : Item) (xs : List Item) → items_for a (position_of b) ≡ x ∷ xs → Further
  further k em x xs ei =
      record {
        new = received;
        is_new = ap (λ v. replica_of v t) two_is ∙ found_put one.replicas t b received received_at eb;
        extends = all.extends;
        larger = larger_by b received x all.extends (item_within x xs ei) (item_new x xs ei) (has x all.brought);
        maker = λ ne. ap (λ v. replica_of v f) two_is ∙ others_put one.replicas f received (λ z. ne (sym z ∙ received_at)) ∙ ea;
      }
    where
      of : AllByRecursion (IsOf (accepted w) (commit_list w)) batch.items
      of = all_map (IsHonestItem w) (IsOf (accepted w) (commit_list w)) (own_item w) batch.items (made_items w f a (position_of b) m h ea)

      no_gap : NoGap (λ s. count_of b s) (length b.commits) batch.items (Brings x)
      no_gap =
          let items : take m (items_for a (position_of b)) ≡ x ∷ take k xs = ap (λ n. take n (items_for a (position_of b))) em ∙ ap (λ ys. take (suc k) ys) ei in
          subst (λ ys. NoGap (λ s. count_of b s) (length b.commits) ys (Brings x)) (sym items)
          (first_brought (λ s. count_of b s) (length b.commits) x (take k xs)
          (subst (λ ys. NoGap (λ s. count_of b s) (length b.commits) ys Anything) items
          (no_gap-take (λ s. count_of b s) (length b.commits) m (items_for a (position_of b)) (AllOfMaker a b sound)
          (items_follow a b sound (commit_list w) (honest_replica w t b h eb).sound (honest_replica w f a h ea).one_primary (honest_replica w t b h eb).one_primary))))

      all : AllGiven (accepted w) (commit_list w) b received (Brings x)
      all =
          whole_given (accepted w) (commit_list w) (history_of w h) b batch (record { from = a.server; primary = a.primary }) (agrees_of w t b h eb) within refl (one_primary w f t a b h ea eb) of
          (λ s. count_of b s) (length b.commits) (λ s. le_refl (count_of b s)) (le_refl (length b.commits)) (length text) (Brings x) (le_refl (length text)) no_gap

      has : (y : Item) → Brings y all.counts all.commits → HasItem received y
      has (W v) g = let low = all.counts_low v.stamp.server in omega (arith, low, g)
      has (C q id) g = let low = all.commits_low in omega (arith, low, g)

      item_new : (y : Item) (ys : List Item) → items_for a (position_of b) ≡ y ∷ ys → HasItem b y → ⊥
      item_new y ys e = (subst (λ zs. AllByRecursion (λ z. HasItem b z → ⊥) zs) e (items_lacked a b sound)).0

      within_own : (z : Item) → IsOwn a sound z → IsItem z
      within_own z o = o.0

      item_within : (y : Item) (ys : List Item) → items_for a (position_of b) ≡ y ∷ ys → IsItem y
      item_within y ys e = (subst (λ zs. AllByRecursion IsItem zs) e (all_map (IsOwn a sound) IsItem within_own (items_for a (position_of b)) (items_own a sound (position_of b)))).0

-- ---- as many batches as it takes

abbrev Exchanged : ℕ → World → ℕ → ℕ → Type 0
Exchanged m w f t = (new : World) × (c : Smooth m w new) × Way c f t

-- from a world in which the receiver knows more
abbrev Next : ℕ → ℕ → ℕ → ℕ → Type 0
Next m n f t = (v : World) (a c : Replica) → IsHonest v → replica_of v f ≡ Some a → replica_of v t ≡ Some c
    → (a.server ≡ a.primary) ⊎ (c.server ≡ c.primary) → whole_size v ≤ size c + n → Exchanged m v f t

module _ (m k : ℕ) (em : m ≡ suc k) (f t : ℕ) (ne : f ≡ t → ⊥) where
  one_round : (w : World) (a b : Replica) → IsHonest w → replica_of w f ≡ Some a → replica_of w t ≡ Some b → (a.server ≡ a.primary) ⊎ (b.server ≡ b.primary)
      → ((v : World) (c : Replica) → Smooth m w v → replica_of v f ≡ Some a → replica_of v t ≡ Some c → Extends b c → size b < size c → Exchanged m w f t) → Exchanged m w f t
  one_round w a b h ea eb own next = go (items_for a (position_of b)) refl (cases_lt m (length (items_for a (position_of b))))
    where
      given : batch_reply a (position_of b) m ≡ BatchIs (batch_of a (position_of b) m)
      given = given_with_primary w f t m a b h ea eb own

      last : length (items_for a (position_of b)) ≤ m → Exchanged m w f t
      last long = (two w f t a b h ea eb m given, both_steps w f t a b h ea eb m given, meet w f t a b h ea eb m given long)

      more : Further w f t a b h ea eb m given → Exchanged m w f t
      more x = next (two w f t a b h ea eb m given) x.new (both_steps w f t a b h ea eb m given) (x.maker ne) x.is_new x.extends x.larger

      go : (xs : List Item) → items_for a (position_of b) ≡ xs → (m < length (items_for a (position_of b))) ⊎ (length (items_for a (position_of b)) ≤ m) → Exchanged m w f t
      go xs e (inr long) = last long
      go [] e (inl less) = absurd (let none = ap length e in omega (arith, less, none))
      go (x ∷ xs) e (inl less) = more (further w f t a b h ea eb m given k em x xs e)

  over : (w v : World) (a b c : Replica) (n j : ℕ) → IsHonest w → replica_of w t ≡ Some b → (a.server ≡ a.primary) ⊎ (b.server ≡ b.primary) → whole_size w ≤ size b + n
      → Smooth m w v → replica_of v f ≡ Some a → replica_of v t ≡ Some c → Extends b c → size b < size c → n ≡ suc j → Next m j f t → Exchanged m w f t
  over w v a b c n j h eb own fuel smoothly ea ec x larger en ih =
      go (ih v a c after.0 ea ec (owns own) (let same = whole_same v w (quiet_same w v h smoothly.quiet).accepts (quiet_same w v h smoothly.quiet).commits in omega (arith, same, fuel, larger, en)))
    where
      after : Kept w v
      after = all_kept w v h smoothly.quiet

      owns : (a.server ≡ a.primary) ⊎ (b.server ≡ b.primary) → (a.server ≡ a.primary) ⊎ (c.server ≡ c.primary)
      owns (inl z) = inl z
      owns (inr z) = inr (x.same_server ∙ z ∙ sym x.same_primary)

      go : Exchanged m v f t → Exchanged m w f t
      go (new, d, way) = (new, smoothly_trans m w v new smoothly d, handed_trans (kept {s = f} smoothly.quiet.run) way)

  exchanged : (n : ℕ) → Next m n f t
  exchanged zero w a b h ea eb own fuel =
      one_round w a b h ea eb own
      (λ v c smoothly fa tc x larger.
      let after = all_kept w v h smoothly.quiet in
      let same = whole_same v w (quiet_same w v h smoothly.quiet).accepts (quiet_same w v h smoothly.quiet).commits in
      let within = size_within v t c after.0 tc in
      absurd (omega (arith, same, within, fuel, larger)))
  exchanged (suc n) w a b h ea eb own fuel =
      one_round w a b h ea eb own (λ v c smoothly fa tc x larger. over w v a b c (suc n) n h eb own fuel smoothly fa tc x larger refl (exchanged n))

-- ---- exchanges with the primary, one behind the other

abbrev Outcome : ℕ → World → List (ℕ × ℕ) → Type 0
Outcome m w pairs = (new : World) × (c : Smooth m w new) × AllByRecursion (λ x. IsThere w x.0 → IsThere w x.1 → Way c x.0 x.1) pairs

abbrev Others : ℕ → ℕ → List (ℕ × ℕ) → Type 0
Others m p xs = (v : World) (r : Replica) → IsHonest v → replica_of v p ≡ Some r → r.server ≡ r.primary → Outcome m v xs

meetings : (m k : ℕ) → m ≡ suc k → (p : ℕ) (pairs : List (ℕ × ℕ)) (w : World) (q : Replica) → IsHonest w
    → replica_of w p ≡ Some q → q.server ≡ q.primary → AllByRecursion (λ x. (x.0 ≡ p) ⊎ (x.1 ≡ p)) pairs → Outcome m w pairs
meetings m k em p [] w q h eq own all = (w, smoothly_refl m w, tt)
meetings m k em p (x ∷ xs) w q h eq own all = go (replica_of w x.0) refl (replica_of w x.1) refl (λ v r hv er o. meetings m k em p xs v r hv er o all.1)
  where
    is_primary : (u : ℕ) (r : Replica) → u ≡ p → replica_of w u ≡ Some r → r.server ≡ r.primary
    is_primary u r z er = let same : q ≡ r = some_inj q r (sym eq ∙ sym (ap (λ v. replica_of w v) z) ∙ er) in subst (λ v. v.server ≡ v.primary) same own

    one_of : (a b : Replica) → replica_of w x.0 ≡ Some a → replica_of w x.1 ≡ Some b → (x.0 ≡ p) ⊎ (x.1 ≡ p) → (a.server ≡ a.primary) ⊎ (b.server ≡ b.primary)
    one_of a b ea eb (inl z) = inl (is_primary x.0 a z ea)
    one_of a b ea eb (inr z) = inr (is_primary x.1 b z eb)

    skip : ((new : World) (c : Smooth m w new) → IsThere w x.0 → IsThere w x.1 → Way c x.0 x.1) → Outcome m w xs → Outcome m w (x ∷ xs)
    skip f (new, c, ways) = (new, c, (f new c, ways))

    behind : Others m p xs → (mid : World) (c : Smooth m w mid) → Way c x.0 x.1 → Outcome m w (x ∷ xs)
    behind ih mid c way = last (ih mid grown.0 after.0 grown.1 (grown.2.same_server ∙ own ∙ sym grown.2.same_primary))
      where
        after : Kept w mid
        after = all_kept w mid h c.quiet

        grown : (r : Replica) × (replica_of mid p ≡ Some r) × Extends q r
        grown = after.1.replicas p q eq

        still : (u : ℕ) → IsThere w u → IsThere mid u
        still u (a, ea) = let (r, er, ext) = after.1.replicas u a ea in (r, er)

        last : Outcome m mid xs → Outcome m w (x ∷ xs)
        last (new, d, rest) = (
          new,
          smoothly_trans m w mid new c d,
          (
            (λ from to. handed_after way d.quiet.run),
            all_map (λ y. IsThere mid y.0 → IsThere mid y.1 → Way d y.0 y.1) (λ y. IsThere w y.0 → IsThere w y.1 → Way (smoothly_trans m w mid new c d) y.0 y.1)
                (λ y g from to. handed_trans (kept {s = y.0} c.quiet.run) (g (still y.0 from) (still y.1 to))) xs rest,
          ),
        )

    other : (a b : Replica) → replica_of w x.0 ≡ Some a → replica_of w x.1 ≡ Some b → (x.0 ≡ x.1 → ⊥) → Others m p xs → Outcome m w (x ∷ xs)
    other a b ea eb ne ih =
        let (mid, c, way) = exchanged m k em x.0 x.1 ne (whole_size w) w a b h ea eb (one_of a b ea eb all.0) (omega arith) in
        behind ih mid c way

    go : (o : Option Replica) → replica_of w x.0 ≡ o → (u : Option Replica) → replica_of w x.1 ≡ u → Others m p xs → Outcome m w (x ∷ xs)
    go None ea u eb ih = skip (λ new c from to. absurd (none_some from.0 (sym ea ∙ from.1))) (ih w q h eq own)
    go (Some a) ea None eb ih = skip (λ new c from to. absurd (none_some to.0 (sym eb ∙ to.1))) (ih w q h eq own)
    go (Some a) ea (Some b) eb ih = elim (cases_eq x.0 x.1) [
      | inl z ↦ skip (λ new c from to. subst (λ u. Way c x.0 u) z (kept {s = x.0} c.quiet.run)) (ih w q h eq own)
      | inr ne ↦ other a b ea eb ne ih
    ]

all_pairs : (P : ℕ × ℕ → Type 0) (g : Replica → ℕ × ℕ) → ((r : Replica) → P (g r)) → (rs : List Replica) → AllByRecursion P (map g rs)
all_pairs P g f [] = tt
all_pairs P g f (r ∷ rs) = (f r, all_pairs P g f rs)

abbrev to_it : ℕ → Replica → ℕ × ℕ
to_it p r = (r.server, p)

abbrev from_it : ℕ → Replica → ℕ × ℕ
from_it p r = (p, r.server)

-- from each to the primary
abbrev Gathered : ℕ → ℕ → World → Type 0
Gathered m p w = (new : World) × (c : Smooth m w new) × ((s : ℕ) → IsThere w s → Way c s p)

pub gathered : (m k : ℕ) → m ≡ suc k → (p : ℕ) (w : World) (q : Replica) → IsHonest w → replica_of w p ≡ Some q → q.server ≡ q.primary → Gathered m p w
gathered m k em p w q h eq own = go (meetings m k em p (map (to_it p) w.replicas) w q h eq own (all_pairs (λ x. (x.0 ≡ p) ⊎ (x.1 ≡ p)) (to_it p) (λ r. inr refl) w.replicas))
  where
    go : Outcome m w (map (to_it p) w.replicas) → Gathered m p w
    go (new, c, ways) = (
      new,
      c,
      λ s there.
          let (a, ea) = there in
          let (i, at) = (find_passes (λ (x : Replica). eqb x.server s) w.replicas a ea).1 in
          let is = found_server w s a ea in
          let one : IsThere w a.server → IsThere w p
          → Way c a.server p = all_get (λ x. IsThere w x.0 → IsThere w x.1 → Way c x.0 x.1) (map (to_it p) w.replicas) i (a.server, p) ways (get-map (to_it p) w.replicas i a at) in
          subst (λ u. Way c u p) is (one (a, ap (λ u. replica_of w u) is ∙ ea) (q, eq)),
    )

-- from the primary to each
abbrev Spread : ℕ → ℕ → World → Type 0
Spread m p w = (new : World) × (c : Smooth m w new) × ((t : ℕ) → IsThere new t → Way c p t)

pub spread : (m k : ℕ) → m ≡ suc k → (p : ℕ) (w : World) (q : Replica) → IsHonest w → replica_of w p ≡ Some q → q.server ≡ q.primary → Spread m p w
spread m k em p w q h eq own = go (meetings m k em p (map (from_it p) w.replicas) w q h eq own (all_pairs (λ x. (x.0 ≡ p) ⊎ (x.1 ≡ p)) (from_it p) (λ r. inl refl) w.replicas))
  where
    go : Outcome m w (map (from_it p) w.replicas) → Spread m p w
    go (new, c, ways) = (
      new,
      c,
      λ t there.
          let (b, eb) = c.there t there in
          let (i, at) = (find_passes (λ (x : Replica). eqb x.server t) w.replicas b eb).1 in
          let is = found_server w t b eb in
          let one : IsThere w p → IsThere w b.server
          → Way c p b.server = all_get (λ x. IsThere w x.0 → IsThere w x.1 → Way c x.0 x.1) (map (from_it p) w.replicas) i (p, b.server) ways (get-map (from_it p) w.replicas i b at) in
          subst (λ u. Way c p u) is (one (q, eq) (b, ap (λ u. replica_of w u) is ∙ eb)),
    )

-- ---- from each to each

-- the primary is the first
primary_there : (w : World) → IsHonest w → (w.replicas ≡ []) ⊎ ((p : ℕ) × (q : Replica) × (replica_of w p ≡ Some q) × (q.server ≡ q.primary))
primary_there w h = go w.replicas refl h.one_primary
  where
    go : (rs : List Replica) → w.replicas ≡ rs → OnePrimary rs → (w.replicas ≡ []) ⊎ ((p : ℕ) × (q : Replica) × (replica_of w p ≡ Some q) × (q.server ≡ q.primary))
    go [] e o = inl e
    go (q ∷ rs) e o =
        inr (q.server, q, ap (λ xs. find (λ x. eqb x.server q.server) xs) e ∙ cond-true (eqb q.server q.server) (Some q) (find (λ x. eqb x.server q.server) rs) (eq-eqb q.server q.server refl), o.0)

none_there : (w : World) (s : ℕ) (r : Replica) → w.replicas ≡ [] → replica_of w s ≡ Some r → ⊥
none_there w s r none e = none_some r (sym (ap (λ xs. find (λ (x : Replica). eqb x.server s) xs) none) ∙ e)

one_less : (m : ℕ) → 1 ≤ m → (k : ℕ) × (m ≡ suc k)
one_less zero low = absurd (omega (arith, low))
one_less (suc k) low = (k, refl)

pub convergence_possible : (old : World) (lines : ℕ) → IsHonest old → 1 ≤ lines → (new : World) × (c : IsQuietRun old new) × IsSmooth lines c × EachHandedToEach c
convergence_possible old lines h low = go (one_less lines low) (primary_there old h)
  where
    go : (k : ℕ) × (lines ≡ suc k) → (old.replicas ≡ []) ⊎ ((p : ℕ) × (q : Replica) × (replica_of old p ≡ Some q) × (q.server ≡ q.primary))
        → (new : World) × (c : IsQuietRun old new) × IsSmooth lines c × EachHandedToEach c
    go (k, em) (inl none) = (old, (smoothly_refl lines old).quiet, (smoothly_refl lines old).smooth, λ s t there to. absurd (none_there old s there.0 none there.1))
    go (k, em) (inr (p, q, eq, own)) =
        let (mid, c, to) = gathered lines k em p old q h eq own in
        let after = all_kept old mid h c.quiet in
        let (r, er, x) = after.1.replicas p q eq in
        let (new, d, from) = spread lines k em p mid r after.0 er (x.same_server ∙ own ∙ sym x.same_primary) in
        let both = smoothly_trans lines old mid new c d in
        (new, both.quiet, both.smooth, λ s t there at. handed_trans (to s there) (from t at))

-- a quiet run accepts nothing
abbrev accepting_nothing : (a b : World) → IsQuietRun a b → IsRunOf AcceptsNothing a b
accepting_nothing a b c = record { steps = c.steps; replies = c.replies; run = c.run; all_allowed = all_map IsQuietStep AcceptsNothing quiet_accepts c.steps c.all_allowed }

pub settlement_possible : (old : World) (lines server : ℕ) → IsHonest old → 1 ≤ lines → IsThere old server
    → (one : World) × (two : World) × (new : World) × (x : IsSettling old one two new) × IsSmooth lines x.gathered × IsSmooth lines x.spread
settlement_possible old lines server h low there = go (one_less lines low) (primary_there old h)
  where
    go : (k : ℕ) × (lines ≡ suc k) → (old.replicas ≡ []) ⊎ ((p : ℕ) × (q : Replica) × (replica_of old p ≡ Some q) × (q.server ≡ q.primary))
        → (one : World) × (two : World) × (new : World) × (x : IsSettling old one two new) × IsSmooth lines x.gathered × IsSmooth lines x.spread
    go (k, em) (inl none) = absurd (none_there old server there.0 none there.1)
    go (k, em) (inr (p, q, eq, own)) =
        let (one, c, to) = gathered lines k em p old q h eq own in
        let before = all_kept old one h c.quiet in
        let (r, er, x) = before.1.replicas p q eq in
        let is_own : r.server ≡ r.primary = x.same_server ∙ own ∙ sym x.same_primary in
        let n = length (tentative r) in
        let after = with_commits r (map id_of (take n (tentative r))) in
        let commit : IsWorldStep one (Do p (Commit n)) (Said (CommittedIs (length (take n (tentative r))))) (put one after) =
        (tt, inl (sym (ap (λ o. do_at one o (Commit n)) er ∙ ap (λ (y : After). with_after one y) (commit_is r n is_own)))) in
        let honest = (step_kept one (put one after) (Do p (Commit n)) (Said (CommittedIs (length (take n (tentative r))))) before.0 commit).0 in
        let (new, d, from) = spread lines k em p (put one after) after honest (found_put one.replicas p r after (found_server one p r er) er) is_own in (
          one,
          put one after,
          new,
          record {
            gathered = accepting_nothing old one c.quiet;
            primary = p;
            before = r;
            is_there = er;
            is_primary = is_own;
            all_reach_it = λ s a e. (handed_kept {new = one} {ss = c.quiet.steps} {rs = c.quiet.replies} h (to s (a, e))).1 a e;
            count = n;
            committed = length (take n (tentative r));
            all_of_them = le_refl n;
            commit = commit;
            spread = accepting_nothing (put one after) new d.quiet;
            it_reaches_all = λ t at. (handed_kept {new = new} {ss = d.quiet.steps} {rs = d.quiet.replies} honest (from t at)).1;
          },
          record { asks = c.smooth.asks; done = c.smooth.done },
          record { asks = d.smooth.asks; done = d.smooth.done },
        )
