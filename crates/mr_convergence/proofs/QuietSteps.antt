-- What a step leaves as it was that accepts nothing.
use Rattle.std.proofs.Common.{◌≡◌, refl, sym, ap, ◌∙◌, subst, ℕ, zero, suc, Bool, true, false, not, cond, eqb, ltb, List, [], ◌∷◌, ◌++◌, length, map, take, ◌⊎◌, inl, inr, eqb-true, Option, Some, None}
use Rattle.std.proofs.lemmas.Bool.{cond_both, cases_eq}
use Rattle.std.proofs.lemmas.List.{append-nil}
use Rattle.std.specs.List.{AllByRecursion, find}
use Rattle.mr_model.specs.Texts.{Text, only_if}
use Rattle.mr_model.specs.Writes.{Write, id_of, is_room_name}
use Rattle.mr_model.specs.Refusals.{Refusal, BadRoomName, RoomThere, PrimaryKeepsAll, BeyondCommitted, NotPrimary, first_refusal}
use Rattle.mr_model.specs.Replica.{Replica, opening, writes_of, tentative, knows_room}
use Rattle.mr_model.specs.Positions.{Position, position_of}
use Rattle.mr_model.specs.Replies.{CommittedIs}
use Rattle.mr_model.specs.Step.{Command, AddRoom, Submit, Cancel, Receive, Commit, Truncate, AskPosition, BatchFor, Ask, After, step, step_unless, batch_of, batch_unless, batch_faults}
use Rattle.mr_model.specs.World.{World, Step, Add, Do, Make, Deliver, StepReply, WorldAfter, replica_of, primary_among}
use Rattle.mr_model.specs.World.{put_replica, add_replica, do_at, make_for, with_made, deliver_to, batch_numbered, world_step}
use Rattle.mr_model.specs.Honest.{own_writes, accepted, commits_among, commit_list, OnePrimary, IsHonest, IsLocal, IsWorldCommand, IsWorldStep, IsWorldRun, ended, stepped}
use Rattle.mr_convergence.specs.Convergence.{AcceptsNothing, IsQuietStep, IsQuietRun}
use Rattle.mr_model.proofs.Histories.{Agrees}
use Rattle.mr_model.proofs.DeliverySteps.{delivered, text_numbered}
use Rattle.mr_model.proofs.WorldFacts.{found_server, first_or, agrees_of, found_put, others_put}
use Rattle.mr_model.proofs.WorldPlacing.{put}
use Rattle.mr_model.proofs.WorldSteps.{step_kept}

-- ---- a command at one replica

-- the replica has another room, or has dropped more, or has more commits
record SameWrites (r q : Replica) : Type 0 where
  server : q.server ≡ r.server
  primary : q.primary ≡ r.primary
  known : q.known ≡ r.known

as_before : (r : Replica) → SameWrites r r
as_before r = record { server = refl; primary = refl; known = refl }

known_same : (r : Replica) (server : ℕ) (c : Command) → IsLocal c → AcceptsNothing (Do server c) → SameWrites r (step r c).replica
known_same r server c ok none = of c ok none
  where
    unless : (o : Option Refusal) (done : After) → SameWrites r done.replica → SameWrites r (step_unless r o done).replica
    unless None done same = same
    unless (Some e) done same = as_before r

    of : (d : Command) → IsLocal d → AcceptsNothing (Do server d) → SameWrites r (step r d).replica
    of (AddRoom room) ok none = unless (first_refusal ((not (is_room_name room), BadRoomName) ∷ (knows_room r room, RoomThere) ∷ [])) _ (record { server = refl; primary = refl; known = refl })
    of (Truncate n) ok none =
        unless (first_refusal ((eqb r.server r.primary, PrimaryKeepsAll) ∷ (ltb (length r.commits) n, BeyondCommitted) ∷ [])) _ (record { server = refl; primary = refl; known = refl })
    of (Commit k) ok none = unless (only_if (not (eqb r.server r.primary)) NotPrimary) _ (record { server = refl; primary = refl; known = refl })
    of AskPosition ok none = as_before r
    of (BatchFor position m) ok none = as_before r
    of (Ask room question) ok none = as_before r
    of (Submit s) ok none = absurd none
    of (Cancel room id) ok none = absurd none
    of (Receive bytes) ok none = absurd ok

-- the commits too, unless some are committed
commits_same : (r : Replica) (server : ℕ) (c : Command) → IsLocal c → AcceptsNothing (Do server c)
    → ((k : ℕ) → c ≡ Commit k → r.server ≡ r.primary → tentative r ≡ []) → (step r c).replica.commits ≡ r.commits
commits_same r server c ok none calm = of c ok none calm
  where
    unless : (o : Option Refusal) (done : After) → done.replica.commits ≡ r.commits → (step_unless r o done).replica.commits ≡ r.commits
    unless None done same = same
    unless (Some e) done same = refl

    of : (d : Command) → IsLocal d → AcceptsNothing (Do server d) → ((k : ℕ) → d ≡ Commit k → r.server ≡ r.primary → tentative r ≡ []) → (step r d).replica.commits ≡ r.commits
    of (AddRoom room) ok none calm = unless (first_refusal ((not (is_room_name room), BadRoomName) ∷ (knows_room r room, RoomThere) ∷ [])) _ refl
    of (Truncate n) ok none calm = unless (first_refusal ((eqb r.server r.primary, PrimaryKeepsAll) ∷ (ltb (length r.commits) n, BeyondCommitted) ∷ [])) _ refl
    of AskPosition ok none calm = refl
    of (BatchFor position m) ok none calm = refl
    of (Ask room question) ok none calm = refl
    of (Submit s) ok none calm = absurd none
    of (Cancel room id) ok none calm = absurd none
    of (Receive bytes) ok none calm = absurd ok
    of (Commit k) ok none calm = go (eqb r.server r.primary) (λ e. calm k refl (eqb-true r.server r.primary e))
      where
        take-none : (j : ℕ) (ws : List Write) → ws ≡ [] → map id_of (take j ws) ≡ []
        take-none zero ws e = refl
        take-none (suc j) ws e = ap (λ vs. map id_of (take (suc j) vs)) e

        go : (b : Bool) → (b ≡ true → tentative r ≡ []) → (step_unless r (only_if (not b) NotPrimary)
            (record { reply = CommittedIs (length (take k (tentative r))); replica = record r { commits = r.commits ++ map id_of (take k (tentative r)) } })).replica.commits ≡ r.commits
        go false nothing = refl
        go true nothing = ap (λ ids. r.commits ++ ids) (take-none k (tentative r) (nothing refl)) ∙ append-nil r.commits

-- ---- the world around it

put_accepts : (w : World) (s : ℕ) (r q : Replica) → replica_of w s ≡ Some r → q.server ≡ r.server → writes_of q.server q.known ≡ accepted w q.server → (t : ℕ) → accepted (put w q) t ≡ accepted w t
put_accepts w s r q e same own t = elim (cases_eq q.server t) [
  | inl z ↦ ap (λ o. own_writes o t) (found_put w.replicas t r q z (ap (λ u. replica_of w u) (sym z ∙ same ∙ found_server w s r e) ∙ e)) ∙ subst (λ u. writes_of u q.known ≡ accepted w u) z own
  | inr ne ↦ ap (λ o. own_writes o t) (others_put w.replicas t q ne)
]

put_commits : (rs : List Replica) (s : ℕ) (r q : Replica) → OnePrimary rs → find (λ x. eqb x.server s) rs ≡ Some r → q.server ≡ r.server
    → q.primary ≡ r.primary → (q.server ≡ q.primary → q.commits ≡ commits_among rs) → commits_among (put_replica q rs) ≡ commits_among rs
put_commits [] s r q one e same names own = refl
put_commits (p ∷ rs) s r q one e same names own =
    cond_both (eqb p.server q.server) (q ∷ rs) (p ∷ put_replica q rs) (λ ys. commits_among ys ≡ p.commits)
    (λ at. own (first (eqb-true p.server q.server at) (first_or rs p s r one.1 e))) (λ at. refl)
  where
    here : r.server ≡ s
    here = found_server (record { replicas = p ∷ rs; pool = [] }) s r e

    first : p.server ≡ q.server → (r ≡ p) ⊎ ((r.primary ≡ p.server) × ((p.server ≡ s → ⊥) × (find (λ x. eqb x.server s) rs ≡ Some r))) → q.server ≡ q.primary
    first at (inl is) = sym at ∙ one.0 ∙ ap (λ (x : Replica). x.primary) (sym is) ∙ sym names
    first at (inr (of, (other, f))) = absurd (other (at ∙ same ∙ here))

-- a replica that is added has no writes and no commits
more_accept : (rs : List Replica) (server primary t : ℕ) → own_writes (find (λ x. eqb x.server t) (rs ++ opening server primary ∷ [])) t ≡ own_writes (find (λ x. eqb x.server t) rs) t
more_accept [] server primary t = go (eqb server t)
  where
    go : (b : Bool) → own_writes (cond b (Some (opening server primary)) None) t ≡ []
    go true = refl
    go false = refl
more_accept (p ∷ rs) server primary t = go (eqb p.server t) (more_accept rs server primary t)
  where
    go : (b : Bool) → own_writes (find (λ x. eqb x.server t) (rs ++ opening server primary ∷ [])) t ≡ own_writes (find (λ x. eqb x.server t) rs) t
        → own_writes (cond b (Some p) (find (λ x. eqb x.server t) (rs ++ opening server primary ∷ []))) t ≡ own_writes (cond b (Some p) (find (λ x. eqb x.server t) rs)) t
    go true ih = refl
    go false ih = ih

more_commits : (rs : List Replica) (server primary : ℕ) → commits_among (rs ++ opening server primary ∷ []) ≡ commits_among rs
more_commits [] server primary = refl
more_commits (p ∷ rs) server primary = refl

-- ---- a step

-- no commit, or one at a primary where nothing is tentative
abbrev pub IsCalm : World → Step → Type 0
IsCalm w s = (server k : ℕ) (r : Replica) → s ≡ Do server (Commit k) → replica_of w server ≡ Some r → r.server ≡ r.primary → tentative r ≡ []

pub quiet_calm : (w : World) (s : Step) → IsQuietStep s → IsCalm w s
quiet_calm w s quiet server k r e f own = absurd (subst IsQuietStep e quiet)

pub quiet_accepts : (s : Step) → IsQuietStep s → AcceptsNothing s
quiet_accepts (Add server) quiet = quiet
quiet_accepts (Make from to m) quiet = quiet
quiet_accepts (Deliver number to bytes) quiet = quiet
quiet_accepts (Do server c) quiet = of c quiet
  where
    of : (d : Command) → IsQuietStep (Do server d) → AcceptsNothing (Do server d)
    of (AddRoom room) quiet = quiet
    of (Submit s) quiet = quiet
    of (Cancel room id) quiet = quiet
    of (Receive bytes) quiet = quiet
    of (Commit k) quiet = tt
    of (Truncate n) quiet = quiet
    of AskPosition quiet = quiet
    of (BatchFor position m) quiet = quiet
    of (Ask room question) quiet = quiet

-- what was accepted is as it was, and what was committed where the step was calm
pub record Leaves (calm : Type 0) (old new : World) : Type 0 where
  pub accepts : (s : ℕ) → accepted new s ≡ accepted old s
  pub commits : calm → commit_list new ≡ commit_list old

nothing_done : (calm : Type 0) (w : World) → Leaves calm w w
nothing_done calm w = record { accepts = λ s. refl; commits = λ c. refl }

world_step_leaves : (w : World) (s : Step) → IsHonest w → IsWorldCommand s → AcceptsNothing s → Leaves (IsCalm w s) w (world_step w s).world
world_step_leaves w (Add server) h ok none = go (replica_of w server)
  where
    go : (o : Option Replica) → Leaves (IsCalm w (Add server)) w (add_replica w server o).world
    go None = record { accepts = more_accept w.replicas server (primary_among w.replicas server); commits = λ c. more_commits w.replicas server (primary_among w.replicas server) }
    go (Some r) = nothing_done (IsCalm w (Add server)) w
world_step_leaves w (Do server c) h ok none = go (replica_of w server) refl
  where
    at : (r : Replica) → replica_of w server ≡ Some r → SameWrites r (step r c).replica → Agrees (accepted w) (commit_list w) r → Leaves (IsCalm w (Do server c)) w (put w (step r c).replica)
    at r e same a =
        record {
          accepts = put_accepts w server r (step r c).replica e same.server
              (ap (λ ws. writes_of (step r c).replica.server ws) same.known ∙ subst (λ s. writes_of s r.known ≡ accepted w s) (sym same.server) a.own);
          commits = λ calm.
              put_commits w.replicas server r (step r c).replica h.one_primary e same.server same.primary
              (λ own. commits_same r server c ok none (λ k is own. calm server k r (ap (λ d. Do server d) is) e own) ∙ a.of_primary (sym same.server ∙ own ∙ same.primary));
        }

    go : (o : Option Replica) → replica_of w server ≡ o → Leaves (IsCalm w (Do server c)) w (do_at w o c).world
    go None e = nothing_done (IsCalm w (Do server c)) w
    go (Some r) e = at r e (known_same r server c ok none) (agrees_of w server r h e)
world_step_leaves w (Make from to m) h ok none = go (replica_of w from) (replica_of w to)
  where
    made : (r : Replica) (p : Position) (o : Option Refusal) → Leaves (IsCalm w (Make from to m)) w (with_made w (batch_unless o (batch_of r p m))).world
    made r p None = record { accepts = λ s. refl; commits = λ c. refl }
    made r p (Some e) = nothing_done (IsCalm w (Make from to m)) w

    go : (o u : Option Replica) → Leaves (IsCalm w (Make from to m)) w (make_for w o u m).world
    go None u = nothing_done (IsCalm w (Make from to m)) w
    go (Some r) None = nothing_done (IsCalm w (Make from to m)) w
    go (Some r) (Some q) = made r (position_of q) (first_refusal (batch_faults r (position_of q) m))
world_step_leaves w (Deliver number to bytes) h ok none = go (replica_of w to) refl (batch_numbered w.pool number) refl
  where
    go : (o : Option Replica) → replica_of w to ≡ o → (t : Option Text) → batch_numbered w.pool number ≡ t → Leaves (IsCalm w (Deliver number to bytes)) w (deliver_to w o t bytes).world
    go None e t f = nothing_done (IsCalm w (Deliver number to bytes)) w
    go (Some r) e None f = nothing_done (IsCalm w (Deliver number to bytes)) w
    go (Some r) e (Some t) f =
        let d = delivered w to r t bytes h e (text_numbered w number t h f) in
        let q = (step r (Receive (take bytes t))).replica in
        record {
          accepts = put_accepts w to r q e d.extends.same_server d.agrees.own;
          commits = λ c. put_commits w.replicas to r q h.one_primary e d.extends.same_server d.extends.same_primary d.agrees.of_primary;
        }

pub step_leaves : (old new : World) (s : Step) (reply : StepReply) → IsHonest old → AcceptsNothing s → IsWorldStep old s reply new → Leaves (IsCalm old s) old new
step_leaves old new s reply h none (ok, inl e) = subst (λ v. Leaves (IsCalm old s) old v) (sym (ap (λ (x : WorldAfter). x.world) e)) (world_step_leaves old s h ok none)
step_leaves old new s reply h none (ok, inr m) = subst (λ v. Leaves (IsCalm old s) old v) (sym m.1) (nothing_done (IsCalm old s) old)

-- ---- a run

pub accepts_same : {old new : World} {ss : List Step} {replies : List StepReply} → IsHonest old
    → IsWorldRun old ss replies new → AllByRecursion AcceptsNothing ss → (s : ℕ) → accepted new s ≡ accepted old s
accepts_same h ended all t = refl
accepts_same h (stepped {old = a} {middle = m} {new = b} {s = s} {ss = ss} {reply = r} {replies = rs} st rest) all t =
    accepts_same (step_kept a m s r h st).0 rest all.1 t ∙ (step_leaves a m s r h all.0 st).accepts t

pub record Same (old new : World) : Type 0 where
  pub accepts : (s : ℕ) → accepted new s ≡ accepted old s
  pub commits : commit_list new ≡ commit_list old

pub same_refl : (w : World) → Same w w
same_refl w = record { accepts = λ s. refl; commits = refl }

pub same_trans : (a b c : World) → Same a b → Same b c → Same a c
same_trans a b c f g = record { accepts = λ s. g.accepts s ∙ f.accepts s; commits = g.commits ∙ f.commits }

-- a calm step leaves both
pub calm_same : (old new : World) (s : Step) (reply : StepReply) → IsHonest old → AcceptsNothing s → IsCalm old s → IsWorldStep old s reply new → Same old new
calm_same old new s reply h none calm st = let x = step_leaves old new s reply h none st in record { accepts = x.accepts; commits = x.commits calm }

quiet_run_same : {old new : World} {ss : List Step} {replies : List StepReply} → IsHonest old → IsWorldRun old ss replies new → AllByRecursion IsQuietStep ss → Same old new
quiet_run_same {old = old} h ended all = same_refl old
quiet_run_same h (stepped {old = a} {middle = m} {new = b} {s = s} {ss = ss} {reply = r} {replies = rs} st rest) all =
    same_trans a m b (calm_same a m s r h (quiet_accepts s all.0) (quiet_calm a s all.0) st) (quiet_run_same (step_kept a m s r h st).0 rest all.1)

pub quiet_same : (old new : World) → IsHonest old → IsQuietRun old new → Same old new
quiet_same old new h c = quiet_run_same h c.run c.all_allowed
