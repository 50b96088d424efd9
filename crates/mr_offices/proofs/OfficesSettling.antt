-- Offices that accept nothing any more.
use Rattle.std.proofs.Common.{◌≡◌, refl, sym, ap, ◌∙◌, subst, ℕ, ◌≤◌, List, [], length, map, take, inl, inr, Option, Some, None}
use Rattle.std.proofs.lemmas.List.{drop_all}
use Rattle.std.specs.List.{AllByRecursion}
use Rattle.mr_model.specs.Writes.{id_of}
use Rattle.mr_model.specs.Refusals.{Refusal, first_refusal}
use Rattle.mr_model.specs.Replica.{Replica, writes_of, count_of, tentative, IsReplica}
use Rattle.mr_model.specs.Positions.{Position, read_position}
use Rattle.mr_model.specs.Replies.{CommittedIs}
use Rattle.mr_model.specs.Step.{After, Commit, batch_of, batch_unless, batch_faults, reply_to_position}
use Rattle.mr_model.specs.World.{World, Do, StepReply, Said, WorldAfter, replica_of, do_at, with_after, with_made}
use Rattle.mr_model.specs.Honest.{accepted, commit_list, IsHonest, IsHonestReplica}
use Rattle.mr_model.specs.WorldLaws.{HasAllOf}
use Rattle.mr_convergence.specs.Convergence.{KnowledgeReaches, EachReachesEach, KnowsAll, AreAlike, HasAllCommitted}
use Rattle.mr_model.proofs.Fronts.{front_compare, front_equal, front_length}
use Rattle.mr_model.proofs.Orders.{with_commits, tentative-commit}
use Rattle.mr_model.proofs.UniqueReplay.{some_inj}
use Rattle.mr_model.proofs.WorldFacts.{found_server, honest_replica, agrees_of, found_put}
use Rattle.mr_model.proofs.WorldPlacing.{Kept, put}
use Rattle.mr_convergence.proofs.QuietSteps.{IsCalm, quiet_calm, quiet_accepts, Leaves, step_leaves, Same, same_refl, same_trans}
use Rattle.mr_convergence.proofs.Converging.{commits-low, reaches_trans, reaches_itself, has_counts, knows_writes, same_stays, alike_all, alike_known}
use Rattle.mr_convergence.proofs.Settling.{settled_by, same_tentative, IsCommitted, committed_calm, committed_after, commit_is}
use Rattle.mr_offices.specs.Offices.{Act, Within, Give, give_at, IsDone, IsOfficeStep, IsOfficeRun, ended, stepped, IsOfficeRunOf}
use Rattle.mr_offices.specs.OfficeLaws.{IsQuietAct, ActAcceptsNothing, IsOfficeSettling}
use Rattle.mr_offices.proofs.OfficeSteps.{done_kept, office_step_kept, office_run_kept, of_kept}

-- ---- what an act leaves as it was

-- no commit, or one at a primary where nothing is tentative
abbrev pub IsCalmAct : World → Act → Type 0
IsCalmAct w (Within s) = IsCalm w s
IsCalmAct w (Give from position m) = Unit {0}

give_same : (w : World) (r : Replica) (o : Option Position) (m : ℕ) → Same w (with_made w (reply_to_position r o m)).world
give_same w r None m = same_refl w
give_same w r (Some p) m = go (first_refusal (batch_faults r p m))
  where
    go : (o : Option Refusal) → Same w (with_made w (batch_unless o (batch_of r p m))).world
    go (Some e) = same_refl w
    go None = record { accepts = λ s. refl; commits = refl }

done_leaves : (old new : World) (act : Act) (reply : StepReply) → IsHonest old → ActAcceptsNothing act → IsDone old act reply new → Leaves (IsCalmAct old act) old new
done_leaves old new (Within s) reply h none done = step_leaves old new s reply h none (done.0, inl done.1)
done_leaves old new (Give from position m) reply h none done =
    subst (λ v. Leaves (IsCalmAct old (Give from position m)) old v) (sym (ap (λ (x : WorldAfter). x.world) done.1)) (go (replica_of old from))
  where
    go : (o : Option Replica) → Leaves (IsCalmAct old (Give from position m)) old (give_at old o position m).world
    go None = record { accepts = λ s. refl; commits = λ c. refl }
    go (Some r) = let same = give_same old r (read_position position) m in record { accepts = same.accepts; commits = λ c. same.commits }

office_leaves : (old new : World) (act : Act) (heard : Option StepReply) → IsHonest old → ActAcceptsNothing act → IsOfficeStep old act heard new → Leaves (IsCalmAct old act) old new
office_leaves old new act heard h none (inl (reply, done, told)) = done_leaves old new act reply h none done
office_leaves old new act heard h none (inr (ok, same, x)) = subst (λ v. Leaves (IsCalmAct old act) old v) (sym same) (record { accepts = λ s. refl; commits = λ c. refl })

-- ---- runs

accepts_same : {old new : World} {acts : List Act} {heard : List (Option StepReply)} → IsHonest old
    → IsOfficeRun old acts heard new → AllByRecursion ActAcceptsNothing acts → (s : ℕ) → accepted new s ≡ accepted old s
accepts_same h ended all t = refl
accepts_same h (stepped {old = a} {middle = m} {act = act} {heard = x} st rest) all t =
    accepts_same (office_step_kept a m act x h st).0 rest all.1 t ∙ (office_leaves a m act x h all.0 st).accepts t

quiet_act : (w : World) (act : Act) → IsQuietAct act → ActAcceptsNothing act × IsCalmAct w act
quiet_act w (Within s) q = (quiet_accepts s q, quiet_calm w s q)
quiet_act w (Give from position m) q = (tt, tt)

quiet_run_same : {old new : World} {acts : List Act} {heard : List (Option StepReply)} → IsHonest old → IsOfficeRun old acts heard new → AllByRecursion IsQuietAct acts → Same old new
quiet_run_same {old = old} h ended all = same_refl old
quiet_run_same h (stepped {old = a} {middle = m} {new = b} {act = act} {heard = x} st rest) all =
    let q = quiet_act a act all.0 in
    let l = office_leaves a m act x h q.0 st in
    same_trans a m b (record { accepts = l.accepts; commits = l.commits q.1 }) (quiet_run_same (office_step_kept a m act x h st).0 rest all.1)

-- ---- knowledge that reaches

pub reached_stays : (before old new after : World) (acts acts_after : List Act) (heard heard_after : List (Option StepReply)) (s t : ℕ) → IsHonest before
    → IsOfficeRun before acts heard old → KnowledgeReaches old new s t → IsHonest new → IsOfficeRun new acts_after heard_after after → KnowledgeReaches before after s t
reached_stays before old new after acts acts_after heard heard_after s t h run reach hn run_after =
    reaches_trans before old after s s t (reaches_itself before old s h (office_run_kept h run))
    (reaches_trans old new after s t t reach (reaches_itself new after t hn (office_run_kept hn run_after)))

-- whom all has reached knows all, where nothing was accepted or committed meanwhile
knows_all : (old new : World) (t : ℕ) (r : Replica) → IsHonest old → Kept old new → Same old new → ((s : ℕ) → KnowledgeReaches old new s t) → replica_of new t ≡ Some r → KnowsAll new r
knows_all old new t r h kept same reach e =
    record {
      writes = knows_writes old new t r h kept.0 same.accepts reach e;
      commits = front_equal r.commits (commit_list new) own.one_primary (subst (λ ids. length ids ≤ length r.commits) (sym same.commits) (commits-low (length r.commits) old.replicas few));
    }
  where
    own : IsHonestReplica new r
    own = honest_replica new t r kept.0 e

    few : (s : ℕ) (a : Replica) → replica_of old s ≡ Some a → length a.commits ≤ length r.commits
    few s a ea = let (b, eb, x) = reach s a ea in front_length a.commits r.commits (subst (λ y. HasAllOf y a) (some_inj b r (sym eb ∙ e)) x).commits

pub offices_converge : (old new : World) (s t : ℕ) (a b : Replica) → IsHonest old → IsOfficeRunOf IsQuietAct old new
    → EachReachesEach old new → replica_of new s ≡ Some a → replica_of new t ≡ Some b → AreAlike a b
offices_converge old new s t a b h c each ea eb =
    let kept = of_kept old new h c in
    let same = quiet_run_same h c.run c.all_allowed in
    alike_all new s t a b kept.0 ea eb
    (knows_all old new s a h kept same (λ u. each u s (a, ea)) ea) (knows_all old new t b h kept same (λ u. each u t (b, eb)) eb)

pub mutual_alike : (w : World) (s t : ℕ) (a b : Replica) → IsHonest w → replica_of w s ≡ Some a → replica_of w t ≡ Some b → HasAllOf a b → HasAllOf b a → AreAlike a b
mutual_alike w s t a b h ea eb from_b from_a =
    alike_known a b own_a.sound own_b.sound
    (λ u. front_equal (writes_of u a.known) (writes_of u b.known) (front_compare (writes_of u a.known) (writes_of u b.known) (accepted w u)
    (own_a.writes_accepted u) (own_b.writes_accepted u) (has_counts a b own_a.sound own_b.sound from_a u)) (has_counts b a own_b.sound own_a.sound from_b u))
    (front_equal a.commits b.commits from_a.commits (front_length b.commits a.commits from_b.commits))
  where
    own_a : IsHonestReplica w a
    own_a = honest_replica w s a h ea

    own_b : IsHonestReplica w b
    own_b = honest_replica w t b h eb

-- ---- settlement

calm_act : (w : World) (act : Act) → IsHonest w → IsCommitted w → IsCalmAct w act
calm_act w (Within s) h c = committed_calm w s h c
calm_act w (Give from position m) h c = tt

committed_run : {old new : World} {acts : List Act} {heard : List (Option StepReply)} → IsHonest old → IsCommitted old
    → IsOfficeRun old acts heard new → AllByRecursion ActAcceptsNothing acts → Same old new × IsCommitted new
committed_run {old = old} h c ended all = (same_refl old, c)
committed_run h c (stepped {old = a} {middle = m} {new = b} {act = act} {heard = x} st rest) all =
    let kept = office_step_kept a m act x h st in
    let l = office_leaves a m act x h all.0 st in
    let same : Same a m = record { accepts = l.accepts; commits = l.commits (calm_act a act h c) } in
    let (later, last) = committed_run kept.0 (committed_after a m h kept same c) rest all.1 in
    (same_trans a m b same later, last)

module _ (old one two new : World) (h : IsHonest old) (x : IsOfficeSettling old one two new) where
  abbrev q : Replica
  q = x.before

  abbrev committed_all : Replica
  committed_all = with_commits q (map id_of (take x.count (tentative q)))

  honest_one : IsHonest one
  honest_one = (of_kept old one h x.gathered).0

  two_is : two ≡ put one committed_all
  two_is =
      ap (λ (y : WorldAfter). y.world) x.commit.1 ∙ ap (λ o. (do_at one o (Commit x.count)).world) x.is_there
      ∙ ap (λ (y : After). (with_after one y).world) (commit_is q x.count x.is_primary)

  honest_two : IsHonest two
  honest_two = (done_kept one two (Within (Do x.primary (Commit x.count))) (Said (CommittedIs x.committed)) honest_one x.commit).0

  is_after : replica_of two x.primary ≡ Some committed_all
  is_after = ap (λ w. replica_of w x.primary) two_is ∙ found_put one.replicas x.primary q committed_all (found_server one x.primary q x.is_there) x.is_there

  knows_two : KnowsAll two committed_all
  knows_two =
      record {
        writes = λ s.
            knows_writes old one x.primary q h honest_one (accepts_same h x.gathered.run x.gathered.all_allowed) x.all_reach_it x.is_there s
            ∙ sym ((done_leaves one two (Within (Do x.primary (Commit x.count))) (Said (CommittedIs x.committed)) honest_one tt x.commit).accepts s);
        commits = (agrees_of two x.primary committed_all honest_two is_after).of_primary x.is_primary;
      }

  committed_two : IsCommitted two
  committed_two =
      record {
        primary = x.primary;
        replica = committed_all;
        is_there = is_after;
        is_primary = x.is_primary;
        knows_all = knows_two;
        none_tentative = tentative-commit q x.count (honest_replica one x.primary q honest_one x.is_there).sound ∙ drop_all x.count (tentative q) x.all_of_them;
      }

  after : Same two new × IsCommitted new
  after = committed_run honest_two committed_two x.spread.run x.spread.all_allowed

  honest_new : IsHonest new
  honest_new = (of_kept two new honest_two x.spread).0

  all_known : (t : ℕ) (r : Replica) → replica_of new t ≡ Some r → KnowsAll new r
  all_known t r e =
      record {
        writes = λ s. front_equal (writes_of s r.known) (accepted new s) (own.writes_accepted s)
            (subst (λ ws. length ws ≤ count_of r s) (knows_two.writes s ∙ sym (after.0.accepts s)) (has_counts committed_all r sound own.sound given s));
        commits = front_equal r.commits (commit_list new) own.one_primary
            (subst (λ ids. length ids ≤ length r.commits) (knows_two.commits ∙ sym after.0.commits) (front_length committed_all.commits r.commits given.commits));
      }
    where
      own : IsHonestReplica new r
      own = honest_replica new t r honest_new e

      sound : IsReplica committed_all
      sound = (honest_replica two x.primary committed_all honest_two is_after).sound

      given : HasAllOf r committed_all
      given = let (b, eb, y) = x.it_reaches_all t (r, e) committed_all is_after in subst (λ v. HasAllOf v committed_all) (some_inj b r (sym eb ∙ e)) y

  pub settled_alike : (s t : ℕ) (a b : Replica) → replica_of new s ≡ Some a → replica_of new t ≡ Some b → AreAlike a b
  settled_alike s t a b ea eb = alike_all new s t a b honest_new ea eb (all_known s a ea) (all_known t b eb)

  none_left : (t : ℕ) (r : Replica) → replica_of new t ≡ Some r → tentative r ≡ []
  none_left t r e = let c = after.1 in same_tentative c.replica r (settled_alike c.primary t c.replica r c.is_there e) ∙ c.none_tentative

  pub settles : (t : ℕ) (r : Replica) → replica_of new t ≡ Some r → HasAllCommitted r × KnowsAll new r
  settles t r e = (settled_by r (none_left t r e), all_known t r e)

  pub settled_stay : (later : World) (s : ℕ) (a b : Replica) → IsOfficeRunOf ActAcceptsNothing new later
      → replica_of new s ≡ Some a → replica_of later s ≡ Some b → HasAllCommitted b × KnowsAll later b × AreAlike a b
  settled_stay later s a b c ea eb =
      let same = (committed_run honest_new after.1 c.run c.all_allowed).0 in
      let (all, like) = same_stays new later s a b honest_new (of_kept new later honest_new c) same ea eb (all_known s a ea) in
      (settled_by b (same_tentative a b like ∙ none_left s a ea), all, like)
