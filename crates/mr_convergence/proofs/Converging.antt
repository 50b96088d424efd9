-- What is known where knowledge has reached all.
use Rattle.std.proofs.Common.{◌≡◌, refl, sym, ap, ◌∙◌, subst, ℕ, zero, suc, ◌≤◌, Bool, true, eqb, List, [], ◌∷◌, length, map, arith, IsTrue, eq-eqb, Option, Some, None}
use Rattle.std.proofs.lemmas.Bool.{cond-true}
use Rattle.std.specs.List.{slice_get, find}
use Rattle.std.specs.Prelude.{Contains}
use Rattle.mr_model.specs.Writes.{Write}
use Rattle.mr_model.specs.Replica.{Replica, writes_of, count_of, knows_room, IsReplica}
use Rattle.mr_model.specs.World.{World, Step, Make, Deliver, StepReply, Made, replica_of}
use Rattle.mr_model.specs.Honest.{own_writes, accepted, commits_among, commit_list, IsHonestReplica, IsHonest}
use Rattle.mr_model.specs.WorldLaws.{HasAllOf}
use Rattle.mr_convergence.specs.Convergence.{IsRunOf, IsQuietRun, KnowledgeReaches, EachReachesEach, IsHandedOn, kept, handed, KnowsAll, AreAlike}
use Rattle.mr_convergence.proofs.QuietSteps.{Same, quiet_same}
use Rattle.mr_model.proofs.Fronts.{front_trans, front_equal, front_length, get_below, below_get, get-map, all_get, contains_get, get_all}
use Rattle.mr_model.proofs.Histories.{counted_at}
use Rattle.mr_model.proofs.BatchItems.{get_filter, filter_get}
use Rattle.mr_model.proofs.BatchesBring.{has_all, all_is_brought}
use Rattle.mr_model.proofs.CommittedPlaces.{within_later}
use Rattle.mr_model.proofs.ExchangeAlike.{views_same, alike}
use Rattle.mr_model.proofs.JointHistory.{same_writes}
use Rattle.mr_model.proofs.WorldFacts.{honest_replica, grows_trans}
use Rattle.mr_model.proofs.WorldPlacing.{Kept}
use Rattle.mr_model.proofs.WorldSteps.{step_kept, run_kept}
use Rattle.mr_model.proofs.UniqueReplay.{some_inj}

-- ---- runs

pub all_kept : {P : Step → Type 0} (old new : World) → IsHonest old → IsRunOf P old new → Kept old new
all_kept old new h c = run_kept h c.run

-- ---- knowledge that reaches

pub all_trans : (a b c : Replica) → HasAllOf b a → HasAllOf c b → HasAllOf c a
all_trans a b c f g =
    record {
      writes = get_all (λ w. Contains c.known w) a.known (λ k w e.
          let (j, at) = contains_get b.known w (all_get (λ v. Contains b.known v) a.known k w f.writes e) in
          all_get (λ v. Contains c.known v) b.known j w g.writes at);
      commits = front_trans a.commits b.commits c.commits f.commits g.commits;
    }

pub reaches_trans : (old middle new : World) (s t u : ℕ) → KnowledgeReaches old middle s t → KnowledgeReaches middle new t u → KnowledgeReaches old new s u
reaches_trans old middle new s t u f g a e =
    let (b, eb, x) = f a e in
    let (c, ec, y) = g b eb in
    (c, ec, all_trans a b c x y)

-- a replica keeps what it knows
pub reaches_itself : (old new : World) (s : ℕ) → IsHonest old → Kept old new → KnowledgeReaches old new s s
reaches_itself old new s h k a e =
    let (b, eb, x) = k.1.replicas s a e in
    let own = honest_replica new s b k.0 eb in
    (b, eb, has_all (accepted new) (commit_list new) b a (within_later old new s a h k.1 e) own.writes_accepted own.one_primary x.counts x.commit_count)

pub handed_kept : {old new : World} {ss : List Step} {rs : List StepReply} {s t : ℕ} → IsHonest old → IsHandedOn old ss rs new s t → Kept old new × KnowledgeReaches old new s t
handed_kept h (kept {old = old} {new = new} {s = s} run) = let k = run_kept h run in (k, reaches_itself old new s h k)
handed_kept h (handed {old = old} {start = start} {made = made} {later = later} {end = end} {new = new} {s = s} {t = t} {u = u} {number = number} {size = size} {reply = reply}
    way d whole complete there run) =
    let before = handed_kept h way in
    let ks = before.0 in
    let km = step_kept start made (Make t u d.max_lines) (Made number size) ks.0 d.making in
    let kl = run_kept km.0 d.others in
    let ke = step_kept later end (Deliver number u d.bytes) reply kl.0 d.delivery in
    let kn = run_kept ke.0 run in
    let grown = grows_trans old start new ks.1 (grows_trans start made new km.1 (grows_trans made later new kl.1 (grows_trans later end new ke.1 kn.1))) in (
      (kn.0, grown),
      reaches_trans old end new s u u
          (reaches_trans old start end s t u before.1 (λ maker em. all_is_brought start made later end t u number size reply ks.0 d maker whole complete em there))
          (reaches_itself end new u ke.0 kn),
    )

-- ---- all is known where all has reached

pub has_counts : (a b : Replica) → IsReplica a → IsReplica b → HasAllOf b a → (s : ℕ) → count_of a s ≤ count_of b s
has_counts a b ha hb h s = go (count_of a s) refl
  where
    go : (n : ℕ) → count_of a s ≡ n → count_of a s ≤ count_of b s
    go zero e = omega (arith, e)
    go (suc k) e =
        let (x, is) = below_get (writes_of s a.known) k (omega (arith, e)) in
        let (own, (j, at)) = filter_get (λ (w : Write). eqb w.stamp.server s) a.known k x is in
        let (i, there) = contains_get b.known x (all_get (λ w. Contains b.known w) a.known j x h.writes at) in
        let (m, f) = get_filter (λ (w : Write). eqb w.stamp.server s) b.known i x there own in
        let na = counted_at (map (λ w. w.stamp.n) (writes_of s a.known)) k x.stamp.n (ha.counted_up s) (get-map (λ (w : Write). w.stamp.n) (writes_of s a.known) k x is) in
        let nb = counted_at (map (λ w. w.stamp.n) (writes_of s b.known)) m x.stamp.n (hb.counted_up s) (get-map (λ (w : Write). w.stamp.n) (writes_of s b.known) m x f) in
        let low = get_below (writes_of s b.known) m x f in
        omega (arith, e, na, nb, low)

pub commits-low : (n : ℕ) (rs : List Replica) → ((s : ℕ) (a : Replica) → find (λ x. eqb x.server s) rs ≡ Some a → length a.commits ≤ n) → length (commits_among rs) ≤ n
commits-low n [] f = omega arith
commits-low n (p ∷ rs) f = f p.server p (cond-true (eqb p.server p.server) (Some p) (find (λ x. eqb x.server p.server) rs) (eq-eqb p.server p.server refl))

-- whom all has reached has at least as many writes of each server as were accepted, which are all, where no more are accepted meanwhile
pub knows_writes : (old new : World) (t : ℕ) (r : Replica) → IsHonest old → IsHonest new → ((s : ℕ) → accepted new s ≡ accepted old s)
    → ((s : ℕ) → KnowledgeReaches old new s t) → replica_of new t ≡ Some r → (s : ℕ) → writes_of s r.known ≡ accepted new s
knows_writes old new t r h honest same reach e s =
    front_equal (writes_of s r.known) (accepted new s) (own.writes_accepted s) (subst (λ ws. length ws ≤ count_of r s) (sym (same s)) (low (replica_of old s) refl))
  where
    own : IsHonestReplica new r
    own = honest_replica new t r honest e

    low : (o : Option Replica) → replica_of old s ≡ o → length (own_writes o s) ≤ count_of r s
    low None ea = omega arith
    low (Some a) ea = has_counts a r (honest_replica old s a h ea).sound own.sound (let (b, eb, x) = reach s a ea in subst (λ y. HasAllOf y a) (some_inj b r (sym eb ∙ e)) x) s

pub knows_all : (old new : World) (t : ℕ) (r : Replica) → IsHonest old → IsQuietRun old new → ((s : ℕ) → KnowledgeReaches old new s t) → replica_of new t ≡ Some r → KnowsAll new r
knows_all old new t r h c reach e =
    record {
      writes = knows_writes old new t r h honest same.accepts reach e;
      commits = front_equal r.commits (commit_list new) own.one_primary (subst (λ ids. length ids ≤ length r.commits) (sym same.commits) (commits-low (length r.commits) old.replicas few));
    }
  where
    same : Same old new
    same = quiet_same old new h c

    honest : IsHonest new
    honest = (all_kept old new h c).0

    own : IsHonestReplica new r
    own = honest_replica new t r honest e

    few : (s : ℕ) (a : Replica) → replica_of old s ≡ Some a → length a.commits ≤ length r.commits
    few s a ea = let (b, eb, x) = reach s a ea in front_length a.commits r.commits (subst (λ y. HasAllOf y a) (some_inj b r (sym eb ∙ e)) x).commits

-- replicas that know the same are alike
pub alike_known : (a b : Replica) → IsReplica a → IsReplica b → ((s : ℕ) → writes_of s a.known ≡ writes_of s b.known) → a.commits ≡ b.commits → AreAlike a b
alike_known a b ha hb writes commits =
    record {
      same_writes = known;
      same_commits = commits;
      rooms = λ v there.
          let (k, at) = contains_get a.known v there in (
            is_true (knows_room a v.room) (all_get (λ u. IsTrue (knows_room a u.room)) a.known k v ha.rooms_known at),
            is_true (knows_room b v.room) (all_get (λ u. IsTrue (knows_room b u.room)) b.known k v hb.rooms_known (ap (λ vs. slice_get vs k) (sym known) ∙ at)),
          );
      views = λ room ra rb. views_same a b room known commits ra rb;
      answers = λ room question ra rb. alike a b room question known commits ra rb;
    }
  where
    is_true : (x : Bool) → IsTrue x → x ≡ true
    is_true x e = e

    known : a.known ≡ b.known
    known = same_writes a.known b.known ha.in_stamp_order hb.in_stamp_order writes

-- so are those that know all
pub alike_all : (w : World) (s t : ℕ) (a b : Replica) → IsHonest w → replica_of w s ≡ Some a → replica_of w t ≡ Some b → KnowsAll w a → KnowsAll w b → AreAlike a b
alike_all w s t a b h ea eb ka kb = alike_known a b (honest_replica w s a h ea).sound (honest_replica w t b h eb).sound (λ u. ka.writes u ∙ sym (kb.writes u)) (ka.commits ∙ sym kb.commits)

-- who knows all goes on knowing just that, where nothing is accepted or committed
pub same_stays : (old new : World) (s : ℕ) (a b : Replica) → IsHonest old → Kept old new → Same old new
    → replica_of old s ≡ Some a → replica_of new s ≡ Some b → KnowsAll old a → KnowsAll new b × AreAlike a b
same_stays old new s a b h after same ea eb k = (
  record { writes = writes; commits = commits },
  alike_known a b sound_a own.sound (λ u. k.writes u ∙ sym (writes u ∙ same.accepts u)) (k.commits ∙ sym (commits ∙ same.commits)),
)
  where
    own : IsHonestReplica new b
    own = honest_replica new s b after.0 eb

    sound_a : IsReplica a
    sound_a = (honest_replica old s a h ea).sound

    has : HasAllOf b a
    has = let (q, eq, x) = reaches_itself old new s h after a ea in subst (λ y. HasAllOf y a) (some_inj q b (sym eq ∙ eb)) x

    writes : (u : ℕ) → writes_of u b.known ≡ accepted new u
    writes u = front_equal (writes_of u b.known) (accepted new u) (own.writes_accepted u)
        (subst (λ ws. length ws ≤ count_of b u) (k.writes u ∙ sym (same.accepts u)) (has_counts a b sound_a own.sound has u))

    commits : b.commits ≡ commit_list new
    commits = front_equal b.commits (commit_list new) own.one_primary (subst (λ ids. length ids ≤ length b.commits) (k.commits ∙ sym same.commits) (front_length a.commits b.commits has.commits))

pub stays : (old new : World) (s : ℕ) (a b : Replica) → IsHonest old → IsQuietRun old new → replica_of old s ≡ Some a → replica_of new s ≡ Some b → KnowsAll old a → KnowsAll new b × AreAlike a b
stays old new s a b h c ea eb k = same_stays old new s a b h (all_kept old new h c) (quiet_same old new h c) ea eb k

pub converge : (old new : World) (s t : ℕ) (a b : Replica) → IsHonest old → IsQuietRun old new → EachReachesEach old new → replica_of new s ≡ Some a → replica_of new t ≡ Some b → AreAlike a b
converge old new s t a b h c each ea eb =
    alike_all new s t a b (all_kept old new h c).0 ea eb
    (knows_all old new s a h c (λ u. each u s (a, ea)) ea) (knows_all old new t b h c (λ u. each u t (b, eb)) eb)
