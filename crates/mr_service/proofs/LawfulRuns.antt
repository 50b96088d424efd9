-- From an honest world every run keeps the world law, and its questions the headline.
use Rattle.std.proofs.Common.{◌≡◌, refl, ap, ◌∙◌, ℕ, zero, suc, List, [], ◌∷◌, ◌++◌, take, drop, inl, inr, Option, Some, None}
use Rattle.std.specs.List.{slice_get}
use Rattle.mr_model.specs.Refusals.{OutOfMemory}
use Rattle.mr_model.specs.Replica.{Replica}
use Rattle.mr_model.specs.Replies.{Refused}
use Rattle.mr_model.specs.View.{view_of, answer}
use Rattle.mr_model.specs.Step.{Ask}
use Rattle.mr_model.specs.World.{World, Step, StepReply, WorldAfter, do_at}
use Rattle.mr_model.specs.Honest.{accepted, IsHonest, IsWorldStep, IsWorldRun, ended, stepped}
use Rattle.mr_model.proofs.UniqueReplay.{some_inj}
use Rattle.mr_model.proofs.Fronts.{front_contains}
use Rattle.mr_model.proofs.WorldFacts.{honest_replica}
use Rattle.mr_model.proofs.WorldSteps.{run_kept, run_step}
use Rattle.mr_model.proofs.WorldKnowledge.{known_accepted, one_write, delivery_said, never_truncated, commits_anywhere}
use Rattle.mr_model.proofs.BatchesBring.{front_is_taken, all_is_brought}
use Rattle.mr_model.proofs.ExchangeAlike.{exchange_same, alike}
use Rattle.mr_model.proofs.CommittedPlaces.{places_agree, places_stay, committed_told}
use Rattle.mr_convergence.proofs.Moments.{moments_converge}
use Rattle.mr_service.specs.LawfulRuns.{ArePassed, KeepsHistory, TakesBatch, AgreesByExchange, KeepsPlaces, AnswersByViews, IsLawfulRun}
use Rattle.mr_service.proofs.HeadlineLaws.{answers_by_view}

-- a list is what stands before an element of it, that one, and the rest
split_at : {A : Type 0} (xs : List A) (i : ℕ) (x : A) → slice_get xs i ≡ Some x → xs ≡ take i xs ++ (x ∷ drop (suc i) xs)
split_at {A = A} [] i x e = absurd (let f : ◌≡◌ {A = Option A} None (Some x) = e in cc)
split_at (y ∷ ys) zero x e = ap (λ z. z ∷ ys) (some_inj y x e)
split_at (y ∷ ys) (suc i) x e = ap (λ zs. y ∷ zs) (split_at ys i x e)

-- a step of a run stands between two of its moments
step_passed : (old new : World) (steps : List Step) (replies : List StepReply) → IsHonest old → IsWorldRun old steps replies new
    → (i : ℕ) (s : Step) (reply : StepReply) → slice_get steps i ≡ Some s → slice_get replies i ≡ Some reply
    → (first : World) × (last : World) × ArePassed old steps replies new first last × IsWorldStep first s reply last
step_passed old new steps replies h run i s reply es er =
    let (first, last, _, st, front, behind) = run_step i s reply h run es er in (
      first,
      last,
      record {
        steps_before = take i steps;
        steps_between = s ∷ [];
        steps_after = drop (suc i) steps;
        replies_before = take i replies;
        replies_between = reply ∷ [];
        replies_after = drop (suc i) replies;
        all_steps = split_at steps i s es;
        all_replies = split_at replies i reply er;
        before = front;
        between = stepped st ended;
        after = behind;
      },
      st,
    )

-- its moments are honest
first_honest : {old new first last : World} {steps : List Step} {replies : List StepReply} → IsHonest old → ArePassed old steps replies new first last → IsHonest first
first_honest h p = (run_kept h p.before).0

history_kept : (first last : World) (steps : List Step) (replies : List StepReply) → IsHonest first → IsWorldRun first steps replies last → KeepsHistory first last
history_kept first last steps replies h run =
    let k = run_kept h run in
    record {
      writes = λ at r server e. (honest_replica last at r k.0 e).writes_accepted server;
      commits = λ at r e. (honest_replica last at r k.0 e).one_primary;
      writes_anywhere = λ write known. known_accepted last write k.0 known;
      commits_anywhere = λ number text b seq id e reads there. commits_anywhere last number text b seq id k.0 e reads there;
      one_write = λ x y kx ky e. one_write last x y k.0
          (front_contains (accepted first x.stamp.server) (accepted last x.stamp.server) x (k.1.accepts x.stamp.server) (known_accepted first x h kx)) (known_accepted last y k.0 ky) e;
      accepted_stays = k.1.accepts;
      committed_stays = k.1.commits;
    }

batch_taken : (first last : World) → IsHonest first → TakesBatch first last
batch_taken first last h =
    record {
      taken = λ made later from to number size reply d. front_is_taken first made later last from to number size reply h d;
      all_brought = λ made later from to number size reply maker d whole complete em there. all_is_brought first made later last from to number size reply h d maker whole complete em there;
    }

exchange_agrees : (first last : World) → IsHonest first → AgreesByExchange first last
exchange_agrees first last h =
    record {
      same = λ s t a b x ea eb. exchange_same a b h x ea eb;
      alike = λ s t a b room question x ea eb ra rb. let same = exchange_same a b h x ea eb in alike a b room question same.0 same.1 ra rb;
    }

places_kept : (first last : World) (steps : List Step) (replies : List StepReply) → IsHonest first → IsWorldRun first steps replies last → KeepsPlaces first last
places_kept first last steps replies h run =
    let k = run_kept h run in
    record {
      told = λ at r w e known is_one. committed_told r w (honest_replica last at r k.0 e).sound known is_one;
      agree = λ s t a b room id x y ea eb ta tb. places_agree s t a b room id x y h k.0 k.1 ea eb ta tb;
      stay = λ s a room id x ea ta. places_stay s a room id x h k.0 k.1 ea ta;
    }

-- a question is answered by the room's view at its replica
asked_by_view : (first last : World) → AnswersByViews first last
asked_by_view first last server room question reply r (ok, inl e) er = (
  answer room (view_of r room) question,
  ap (λ (x : WorldAfter). x.reply) e ∙ ap (λ (o : Option Replica). (do_at first o (Ask room question)).reply) er,
  inl (answers_by_view r room question (answer room (view_of r room) question) refl),
)
asked_by_view first last server room question reply r (ok, inr m) er = (Refused OutOfMemory, m.0, inr refl)

pub run_is_lawful : (old new : World) (steps : List Step) (replies : List StepReply) → IsHonest old → IsWorldRun old steps replies new → IsLawfulRun old steps replies new
run_is_lawful old new steps replies h run =
    record {
      run = run;
      honest = (run_kept h run).0;
      each = step_passed old new steps replies h run;
      history = λ first last p. history_kept first last p.steps_between p.replies_between (first_honest h p) p.between;
      delivery = λ first last p number to bytes reply r text st er et. delivery_said first last number to bytes reply r text (first_honest h p) st er et;
      batch = λ first last p. batch_taken first last (first_honest h p);
      agreement = λ first last p. exchange_agrees first last (first_honest h p);
      convergence = λ first last p. moments_converge first last (first_honest h p);
      places = λ first last p. places_kept first last p.steps_between p.replies_between (first_honest h p) p.between;
      primary = λ first last p s reply server r st er own at. never_truncated first last s reply server r (first_honest h p) st er own at;
      answers = λ first last p. asked_by_view first last;
    }
