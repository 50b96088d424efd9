-- What commands do to tables: runs of them grow by steps, and one replica that the tables stand for speaks for each.
use Rattle.std.proofs.Common.{◌≡◌, refl, sym, ap, ◌∙◌, subst, List, [], ◌∷◌, ◌++◌, inl, inr}
use Rattle.mr_model.specs.Replica.{Replica}
use Rattle.mr_model.specs.Replies.{Reply}
use Rattle.mr_model.specs.Step.{Command, After, step, IsStep, IsOfMachine, ended}
use Rattle.mr_model.specs.Tables.{Tables, tables_of, Stands}
use Rattle.mr_model.specs.Serving.{TakesStep, TakesRun, Serves, Reaches}
use Rattle.mr_model.proofs.StepsKeep.{step_keeps}
use Rattle.mr_model.proofs.RunsAnswer.{run_answers, run_grows}
use Rattle.mr_model.proofs.EqualTables.{equal_replies, equal_after}

-- no command leaves the tables
pub takes_nothing : (t : Tables) → TakesRun t [] [] t
takes_nothing t = λ a h. (a, ended, h)

-- a run of tables grows by a step at its end
pub takes_run_grows : (before middle after : Tables) (cs : List Command) (rs : List Reply) (c : Command) (r : Reply)
    → TakesRun before cs rs middle → TakesStep middle c r after → TakesRun before (cs ++ c ∷ []) (rs ++ r ∷ []) after
takes_run_grows before middle after cs rs c r f g =
    λ a h. let (m, run, there) = f a h in
    let (b, step, then) = g m there in
    (b, run_grows c r run step, then)

-- a run of tables is served
pub takes_run_serves : (before after : Tables) (cs : List Command) (rs : List Reply) → TakesRun before cs rs after → Serves before cs rs after
takes_run_serves before after cs rs f =
    λ a h. let (b, run, there) = f a h in
    (b, run, run_answers run, there)

-- a failure leaves the tables
pub failure_step : (t : Tables) (c : Command) (reply : Reply) → IsOfMachine reply → TakesStep t c reply t
failure_step t c reply m = λ a h. (a, inr (m, refl), h)

-- ---- one replica speaks for each

same_tables : (t : Tables) (a b : Replica) → Stands t a → Stands t b → tables_of a ≡ tables_of b
same_tables t a b ha hb = sym ha.are ∙ hb.are

-- what is reached from one is reached from each
pub reaches_all : (before after : Tables) (c : Command) (a : Replica) → Stands before a → Stands after (step a c).replica → Reaches before c after
reaches_all before after c a h s =
    λ b g. record {
      sound = step_keeps b c g.sound;
      are = s.are ∙ equal_after a b c h.sound g.sound (same_tables before a b h g);
    }

-- a command that replies alike from each, and reaches the tables
pub reaches_step : (before after : Tables) (c : Command) (reply : Reply) → ((a : Replica) → Stands before a → reply ≡ (step a c).reply) → Reaches before c after → TakesStep before c reply after
reaches_step before after c reply said f =
    λ a h. let e = said a h in
    ((step a c).replica, inl (λ i. record { reply = e i; replica = (step a c).replica }), f a h)

-- a step of one is a step of each
pub step_of_all : (before after : Tables) (c : Command) (reply : Reply) (a b : Replica) → Stands before a → IsStep a c reply b → Stands after b → TakesStep before c reply after
step_of_all before after c reply a b h (inl e) s =
    reaches_step before after c reply
    (λ x g. ap (λ (y : After). y.reply) e ∙ equal_replies a x c h.sound g.sound (same_tables before a x h g))
    (reaches_all before after c a h (subst (Stands after) (ap (λ (y : After). y.replica) e) s))
step_of_all before after c reply a b h (inr m) s =
    subst (TakesStep before c reply) (h.are ∙ ap tables_of (sym m.1) ∙ sym s.are) (failure_step before c reply m.0)
