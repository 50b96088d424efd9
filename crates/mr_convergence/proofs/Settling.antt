-- Where the primary has learnt and committed all, and that has reached each, nothing is tentative.
use Rattle.std.proofs.Common.{◌≡◌, refl, sym, ap, ◌∙◌, subst, ℕ, ◌≤◌, Bool, true, false, not, List, [], ◌∷◌, ◌++◌, length, map, take, drop, inl, inr, eq-eqb, Some}
use Rattle.std.proofs.lemmas.List.{append-nil, drop_all}
use Rattle.std.specs.List.{AllByRecursion, slice_get, filter}
use Rattle.std.specs.Str.{bytes_eq}
use Rattle.mr_model.specs.Texts.{Text, only_if}
use Rattle.mr_model.specs.Writes.{Write, id_of}
use Rattle.mr_model.specs.Refusals.{OutOfMemory, NotPrimary}
use Rattle.mr_model.specs.Replay.{Place, replay}
use Rattle.mr_model.specs.Replica.{Replica, writes_of, count_of, is_among, is_committed, tentative, IsReplica}
use Rattle.mr_model.specs.Replies.{CommittedIs, Refused}
use Rattle.mr_model.specs.View.{View, Placed, Told, view_of, placed_with, whole_places, committed_places, cancels_it, tell}
use Rattle.mr_model.specs.Step.{After, Commit, step, step_unless}
use Rattle.mr_model.specs.World.{World, Step, Do, StepReply, Said, WorldAfter, replica_of, do_at, with_after}
use Rattle.mr_model.specs.Honest.{accepted, commit_list, IsHonest, IsHonestReplica, IsWorldStep, IsWorldRun, ended, stepped}
use Rattle.mr_model.specs.WorldLaws.{HasAllOf}
use Rattle.mr_convergence.specs.Convergence.{AcceptsNothing, IsRunOf, KnowsAll, AreAlike, HasAllCommitted, IsSettling}
use Rattle.mr_model.proofs.Fronts.{front_equal, front_length, find_passes, all_get, contains_get}
use Rattle.mr_model.proofs.BatchItems.{get_filter}
use Rattle.mr_model.proofs.CommittedPlaces.{committed_part}
use Rattle.mr_convergence.proofs.QuietSteps.{IsCalm, step_leaves, accepts_same, Same, same_refl, same_trans, calm_same}
use Rattle.mr_convergence.proofs.Converging.{all_kept, has_counts, knows_writes, same_stays, alike_all}
use Rattle.mr_model.proofs.Orders.{with_commits, tentative-commit}
use Rattle.mr_model.proofs.UniqueReplay.{some_inj, none_some}
use Rattle.mr_model.proofs.WorldFacts.{found_server, honest_replica, one_primary, agrees_of, found_put}
use Rattle.mr_model.proofs.WorldPlacing.{Kept, put}
use Rattle.mr_model.proofs.WorldSteps.{step_kept}

-- ---- a replica with nothing tentative

whole-is : (v : View) → v.tentative ≡ [] → whole_places v ≡ committed_places v
whole-is v none =
    ap (λ ps. ps ++ placed_with false v.tentative (drop (length v.committed) (replay (v.committed ++ v.tentative)))) (committed_part v)
    ∙ ap (λ ws. committed_places v ++ placed_with false ws (drop (length v.committed) (replay (v.committed ++ v.tentative)))) none
    ∙ append-nil (committed_places v)

placed-marks : (ws : List Write) (ps : List Place) → AllByRecursion (λ p. p.is_committed ≡ true) (placed_with true ws ps)
placed-marks [] ps = tt
placed-marks (w ∷ ws) [] = tt
placed-marks (w ∷ ws) (p ∷ ps) = (refl, placed-marks ws ps)

abbrev Marked : Told → Type 0
Marked t = (t.is_committed ≡ true) × ((c : Placed) → t.cancelled_by ≡ Some c → c.is_committed ≡ true)

tell-marks : (ps : List Placed) → AllByRecursion (λ p. p.is_committed ≡ true) ps → AllByRecursion Marked (tell ps)
tell-marks [] h = tt
tell-marks (p ∷ ps) h =
    ((h.0, λ c e. let (k, at) = (find_passes (λ (x : Placed). cancels_it (id_of p.write) x.write.action x.place) ps c e).1 in all_get (λ x. x.is_committed ≡ true) ps k c h.1 at), tell-marks ps h.1)

pub settled_by : (r : Replica) → tentative r ≡ [] → HasAllCommitted r
settled_by r none =
    record {
      none_tentative = none;
      all_committed = λ w c. let (k, e) = contains_get r.known w c in go w k e (is_committed r (id_of w)) refl;
      full_is_committed = λ room. ap tell (whole room);
      marks = λ room. subst (λ ps. AllByRecursion Marked (tell ps)) (sym (whole room))
          (tell-marks (committed_places (view_of r room)) (placed-marks (view_of r room).committed (replay (view_of r room).committed)));
    }
  where
    whole : (room : Text) → whole_places (view_of r room) ≡ committed_places (view_of r room)
    whole room = whole-is (view_of r room) (ap (λ ws. filter (λ (w : Write). bytes_eq w.room room) ws) none)

    go : (w : Write) (k : ℕ) → slice_get r.known k ≡ Some w → (b : Bool) → is_committed r (id_of w) ≡ b → is_committed r (id_of w) ≡ true
    go w k e true is = is
    go w k e false is =
        let (j, at) = get_filter (λ (v : Write). not (is_committed r (id_of v))) r.known k w e (ap not is) in
        absurd (none_some w (sym (ap (λ (ws : List Write). slice_get ws j) none) ∙ at))

-- ---- while nothing is accepted

pub same_tentative : (a b : Replica) → AreAlike a b → tentative b ≡ tentative a
same_tentative a b x =
    ap (λ ws. filter (λ (w : Write). not (is_among (id_of w) b.commits)) ws) (sym x.same_writes)
    ∙ ap (λ ids. filter (λ (w : Write). not (is_among (id_of w) ids)) a.known) (sym x.same_commits)

-- the primary knows all, and nothing is tentative there
pub record IsCommitted (w : World) : Type 0 where
  pub primary : ℕ
  pub replica : Replica
  pub is_there : replica_of w primary ≡ Some replica
  pub is_primary : replica.server ≡ replica.primary
  pub knows_all : KnowsAll w replica
  pub none_tentative : tentative replica ≡ []

-- then a commit commits nothing
pub committed_calm : (w : World) (s : Step) → IsHonest w → IsCommitted w → IsCalm w s
committed_calm w s h c server k r is e own = subst (λ x. tentative x ≡ []) (some_inj c.replica r (sym c.is_there ∙ ap (λ u. replica_of w u) here ∙ e)) c.none_tentative
  where
    here : c.primary ≡ server
    here = sym (found_server w c.primary c.replica c.is_there) ∙ c.is_primary ∙ one_primary w c.primary server c.replica r h c.is_there e ∙ sym own ∙ found_server w server r e

pub committed_after : (old new : World) → IsHonest old → Kept old new → Same old new → IsCommitted old → IsCommitted new
committed_after old new h k same c =
    let (q, eq, x) = k.1.replicas c.primary c.replica c.is_there in
    let (all, like) = same_stays old new c.primary c.replica q h k same c.is_there eq c.knows_all in
    record {
      primary = c.primary;
      replica = q;
      is_there = eq;
      is_primary = x.same_server ∙ c.is_primary ∙ sym x.same_primary;
      knows_all = all;
      none_tentative = same_tentative c.replica q like ∙ c.none_tentative;
    }

committed_run : {old new : World} {ss : List Step} {rs : List StepReply} → IsHonest old → IsCommitted old → IsWorldRun old ss rs new → AllByRecursion AcceptsNothing ss → Same old new × IsCommitted new
committed_run {old = old} h c ended all = (same_refl old, c)
committed_run h c (stepped {old = a} {middle = m} {new = b} {s = s} {reply = r} st rest) all =
    let kept = step_kept a m s r h st in
    let same = calm_same a m s r h all.0 (committed_calm a s h c) st in
    let (later, last) = committed_run kept.0 (committed_after a m h kept same c) rest all.1 in
    (same_trans a m b same later, last)

pub committed_stays : (old new : World) → IsHonest old → IsCommitted old → IsRunOf AcceptsNothing old new → Same old new × IsCommitted new
committed_stays old new h c r = committed_run h c r.run r.all_allowed

-- ---- the commit of all

pub commit_is : (q : Replica) (count : ℕ) → q.server ≡ q.primary
    → ◌≡◌ {A = After} (step q (Commit count)) (record { reply = CommittedIs (length (take count (tentative q))); replica = with_commits q (map id_of (take count (tentative q))) })
commit_is q count own =
    ap (λ b. step_unless q (only_if (not b) NotPrimary) (record { reply = CommittedIs (length (take count (tentative q))); replica = with_commits q (map id_of (take count (tentative q))) }))
    (eq-eqb q.server q.primary own)

module _ (old one two new : World) (h : IsHonest old) (x : IsSettling old one two new) where
  abbrev q : Replica
  q = x.before

  abbrev committed_all : Replica
  committed_all = with_commits q (map id_of (take x.count (tentative q)))

  honest_one : IsHonest one
  honest_one = (all_kept old one h x.gathered).0

  two_is : two ≡ put one committed_all
  two_is = go x.commit
    where
      go : IsWorldStep one (Do x.primary (Commit x.count)) (Said (CommittedIs x.committed)) two → two ≡ put one committed_all
      go (ok, inr m) = absurd (let f : Said (CommittedIs x.committed) ≡ Said (Refused OutOfMemory) = m.0 in cc)
      go (ok, inl e) =
          ap (λ (y : WorldAfter). y.world) e ∙ ap (λ o. (do_at one o (Commit x.count)).world) x.is_there
          ∙ ap (λ (y : After). (with_after one y).world) (commit_is q x.count x.is_primary)

  honest_two : IsHonest two
  honest_two = (step_kept one two (Do x.primary (Commit x.count)) (Said (CommittedIs x.committed)) honest_one x.commit).0

  is_after : replica_of two x.primary ≡ Some committed_all
  is_after = ap (λ w. replica_of w x.primary) two_is ∙ found_put one.replicas x.primary q committed_all (found_server one x.primary q x.is_there) x.is_there

  knows_two : KnowsAll two committed_all
  knows_two =
      record {
        writes = λ s.
            knows_writes old one x.primary q h honest_one (accepts_same h x.gathered.run x.gathered.all_allowed) x.all_reach_it x.is_there s
            ∙ sym ((step_leaves one two (Do x.primary (Commit x.count)) (Said (CommittedIs x.committed)) honest_one tt x.commit).accepts s);
        commits = (agrees_of two x.primary committed_all honest_two is_after).of_primary x.is_primary;
      }

  committed_two : IsCommitted two
  committed_two =
      record {
        primary = x.primary;
        replica = committed_all;
        is_there = is_after;
        is_primary = x.is_primary;
        knows_all = knows_two;
        none_tentative = tentative-commit q x.count (honest_replica one x.primary q honest_one x.is_there).sound ∙ drop_all x.count (tentative q) x.all_of_them;
      }

  after : Same two new × IsCommitted new
  after = committed_stays two new honest_two committed_two x.spread

  honest_new : IsHonest new
  honest_new = (all_kept two new honest_two x.spread).0

  pub all_known : (t : ℕ) (r : Replica) → replica_of new t ≡ Some r → KnowsAll new r
  all_known t r e =
      record {
        writes = λ s. front_equal (writes_of s r.known) (accepted new s) (own.writes_accepted s)
            (subst (λ ws. length ws ≤ count_of r s) (knows_two.writes s ∙ sym (after.0.accepts s)) (has_counts committed_all r sound own.sound given s));
        commits = front_equal r.commits (commit_list new) own.one_primary
            (subst (λ ids. length ids ≤ length r.commits) (knows_two.commits ∙ sym after.0.commits) (front_length committed_all.commits r.commits given.commits));
      }
    where
      own : IsHonestReplica new r
      own = honest_replica new t r honest_new e

      sound : IsReplica committed_all
      sound = (honest_replica two x.primary committed_all honest_two is_after).sound

      given : HasAllOf r committed_all
      given = let (b, eb, y) = x.it_reaches_all t (r, e) committed_all is_after in subst (λ v. HasAllOf v committed_all) (some_inj b r (sym eb ∙ e)) y

  pub settled_alike : (s t : ℕ) (a b : Replica) → replica_of new s ≡ Some a → replica_of new t ≡ Some b → AreAlike a b
  settled_alike s t a b ea eb = alike_all new s t a b honest_new ea eb (all_known s a ea) (all_known t b eb)

  none_left : (t : ℕ) (r : Replica) → replica_of new t ≡ Some r → tentative r ≡ []
  none_left t r e = let c = after.1 in same_tentative c.replica r (settled_alike c.primary t c.replica r c.is_there e) ∙ c.none_tentative

  pub settles : (t : ℕ) (r : Replica) → replica_of new t ≡ Some r → HasAllCommitted r × KnowsAll new r
  settles t r e = (settled_by r (none_left t r e), all_known t r e)

  pub settled_stay : (later : World) (s : ℕ) (a b : Replica) → IsRunOf AcceptsNothing new later
      → replica_of new s ≡ Some a → replica_of later s ≡ Some b → HasAllCommitted b × KnowsAll later b × AreAlike a b
  settled_stay later s a b c ea eb =
      let same = (committed_stays new later honest_new after.1 c).0 in
      let (all, like) = same_stays new later s a b honest_new (all_kept new later honest_new c) same ea eb (all_known s a ea) in
      (settled_by b (same_tentative a b like ∙ none_left s a ea), all, like)
