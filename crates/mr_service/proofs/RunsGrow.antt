-- A run under way grows by what a service is asked.
use Rattle.std.proofs.Common.{◌≡◌, refl, ap, subst, ◌∙◌, ℕ, ◌<◌, ◌≤◌, List, [], ◌∷◌, ◌++◌, ◌⊎◌, inl, inr, Result, Ok, Err, IfOk, length, arith}
use Rattle.std.proofs.lemmas.List.{length-append}
use Rattle.mr_model.specs.Refusals.{Store}
use Rattle.mr_model.specs.Replies.{Reply, Refused}
use Rattle.mr_model.specs.Replica.{Replica}
use Rattle.mr_model.specs.Serving.{TakesStep}
use Rattle.mr_model.specs.Step.{After, Command, step, IsOfMachine, IsRun, ended, stepped}
use Rattle.mr_model.specs.Tables.{Tables}
use Rattle.mr_model.proofs.ServedTables.{takes_nothing, takes_run_grows}
use Rattle.mr_service.specs.Asking.{Counts, NoneFails, TellsFailure}
use Rattle.mr_service.specs.Replied.{RepliesTo, RepliesInTurn}
use Rattle.mr_service.specs.Running.{HasFailed, UnderWay}

tells_further : (x : Reply) (rs : List Reply) (r : Reply) → TellsFailure rs ⊎ (r ≡ Refused Store) → TellsFailure (x ∷ rs) ⊎ (r ≡ Refused Store)
tells_further x rs r (inl told) = inl (inr told)
tells_further x rs r (inr e) = inr e

-- one more reply tells of a failure, or one of those before
tells_last : (rs : List Reply) (r : Reply) → TellsFailure (rs ++ r ∷ []) → TellsFailure rs ⊎ (r ≡ Refused Store)
tells_last [] r (inl e) = inr e
tells_last [] r (inr told) = absurd told
tells_last (x ∷ rs) r (inl e) = inl (inl e)
tells_last (x ∷ rs) r (inr told) = tells_further x rs r (tells_last rs r told)

-- the count has risen by then
counted : (f0 f1 f2 : ℕ) (rs : List Reply) (r : Reply) → f0 ≤ f1 → (TellsFailure rs → f0 < f1) → Counts r f1 f2 → TellsFailure rs ⊎ (r ≡ Refused Store) → f0 < f2
counted f0 f1 f2 rs r le before counts (inl told) = let lt : f0 < f1 = before told in let more : f1 ≤ f2 = counts.0 in omega arith
counted f0 f1 f2 rs r le before counts (inr e) = let lt : f1 < f2 = counts.1 e in omega arith

-- ---- replies of a keeper that a failure may have shut

failed_last : (rs : List Reply) (r : Reply) → IsOfMachine r → HasFailed (rs ++ r ∷ [])
failed_last [] r m = inl m
failed_last (x ∷ rs) r m = inr (failed_last rs r m)

failed_before : (rs : List Reply) (r : Reply) → HasFailed rs → HasFailed (rs ++ r ∷ [])
failed_before [] r failed = absurd failed
failed_before (x ∷ rs) r (inl m) = inl m
failed_before (x ∷ rs) r (inr failed) = inr (failed_before rs r failed)

-- behind a failure nothing is said
replied_failed : (a : Replica) (cs : List Command) (rs : List Reply) (c : Command) (r : Reply)
    → RepliesInTurn a cs rs → HasFailed rs → RepliesInTurn a (cs ++ c ∷ []) (rs ++ r ∷ [])
replied_failed a [] [] c r told failed = absurd failed
replied_failed a [] (x ∷ rs) c r told failed = absurd told
replied_failed a (d ∷ cs) [] c r told failed = absurd told
replied_failed a (d ∷ cs) (x ∷ rs) c r (inl m) failed = inl m
replied_failed a (d ∷ cs) (x ∷ rs) c r (inr told) (inl m) = inl m
replied_failed a (d ∷ cs) (x ∷ rs) c r (inr told) (inr failed) = inr (told.0, replied_failed (step a d).replica cs rs c r told.1 failed)

said_last : (a : Replica) (c : Command) (r : Reply) → IsOfMachine r ⊎ (r ≡ (step a c).reply) → RepliesInTurn a (c ∷ []) (r ∷ [])
said_last a c r (inl m) = inl m
said_last a c r (inr e) = inr (e, tt)

-- one more reply at the end of a run
replied_run : {a m : Replica} {cs : List Command} {rs : List Reply} (c : Command) (r : Reply)
    → IsRun a cs rs m → IsOfMachine r ⊎ (r ≡ (step m c).reply) → RepliesInTurn a (cs ++ c ∷ []) (rs ++ r ∷ [])
replied_run c r (ended {r = a}) said = said_last a c r said
replied_run c r (stepped {old = a} {middle = b} {new = m} {c = d} {cs = cs} {reply = x} {replies = rs} (inl e) run) said =
    inr (
      ap (λ (y : After). y.reply) e,
      subst (λ n. RepliesInTurn n (cs ++ c ∷ []) (rs ++ r ∷ [])) (ap (λ (y : After). y.replica) e) (replied_run c r run said),
    )
replied_run c r (stepped (inr failed) run) said = inl failed.0

-- nothing has been asked yet
pub under_way : (clean_now open_now sure : Type 0) (t : Tables) (f : ℕ) → UnderWay clean_now clean_now open_now open_now sure t t f f [] []
under_way clean_now open_now sure t f = record {
  clean = λ k. k;
  opens = λ k o. o;
  takes = λ k o. takes_nothing t;
  each = refl;
  rises = omega arith;
  counts = λ told. absurd told;
  none_fails = λ s k o a h. refl;
  replied = λ k o a h. tt;
  lasts = λ k o. inr o;
}

-- one more command is asked
pub under_way_grows : (clean0 clean1 clean2 open0 open1 open2 sure : Type 0) (t0 t1 t2 : Tables) (f0 f1 f2 : ℕ) (cs : List Command) (rs : List Reply) (c : Command) (r : Reply)
    → UnderWay clean0 clean1 open0 open1 sure t0 t1 f0 f1 cs rs
    → (clean2 → clean1) → (clean2 → open2 → open1) → (clean2 → open2 → TakesStep t1 c r t2) → Counts r f1 f2 → (sure → clean2 → open2 → NoneFails t1 f1 f2)
    → (clean2 → open1 → RepliesTo t1 c r) → (clean2 → open1 → IsOfMachine r ⊎ open2)
    → UnderWay clean0 clean2 open0 open2 sure t0 t2 f0 f2 (cs ++ c ∷ []) (rs ++ r ∷ [])
under_way_grows clean0 clean1 clean2 open0 open1 open2 sure t0 t1 t2 f0 f1 f2 cs rs c r w clean opens step counts none replied lasts = record {
  clean = λ k. w.clean (clean k);
  opens = λ k o. w.opens (clean k) (opens k o);
  takes = λ k o. takes_run_grows t0 t1 t2 cs rs c r (w.takes (clean k) (opens k o)) (step k o);
  each = let before : length rs ≡ length cs = w.each in omega (arith, length-append rs (r ∷ []), length-append cs (c ∷ []));
  rises = let le : f0 ≤ f1 = w.rises in let more : f1 ≤ f2 = counts.0 in omega arith;
  counts = λ told. counted f0 f1 f2 rs r w.rises w.counts counts (tells_last rs r told);
  none_fails = λ s k o a h.
      let (m, run, there) = w.takes (clean k) (opens k o) a h in
      none s k o m there ∙ w.none_fails s (clean k) (opens k o) a h;
  replied = λ k o a h. elim (w.lasts (clean k) o) [
    | inl failed ↦ replied_failed a cs rs c r (w.replied (clean k) o a h) failed
    | inr still ↦ let (m, run, there) = w.takes (clean k) still a h in replied_run c r run (replied k still m there)
  ];
  lasts = λ k o. elim (w.lasts (clean k) o) [
    | inl failed ↦ inl (failed_before rs r failed)
    | inr still ↦ elim (lasts k still) [ inl m ↦ inl (failed_last rs r m) | inr now ↦ inr now ]
  ];
}

-- where no failure is counted, nothing that is answered tells of one
pub none_told : {X E : Type 0} (Tells : X → Type 0) (f0 f1 : ℕ) (result : Result X E) → f1 ≡ f0 → IfOk result (λ x. Tells x → f0 < f1) → IfOk result (λ x. ¬ Tells x)
none_told Tells f0 f1 (Ok x) same counts = λ told. let lt : f0 < f1 = counts told in absurd (omega arith)
none_told Tells f0 f1 (Err e) same counts = counts
