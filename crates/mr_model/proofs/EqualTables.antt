-- Replicas with equal tables reply alike to every command, and have equal tables after it.
use Rattle.std.proofs.Common.{◌≡◌, refl, sym, ap, ◌∙◌, subst, List, inl, inr}
use Rattle.mr_model.specs.Replica.{Replica, IsReplica}
use Rattle.mr_model.specs.Writes.{id_in}
use Rattle.mr_model.specs.Positions.{read_position}
use Rattle.mr_model.specs.Replies.{Reply, PositionIs}
use Rattle.mr_model.specs.Tables.{tables_of}
use Rattle.mr_model.specs.Step.{Command, AddRoom, Submit, Cancel, Receive, Commit, Truncate, AskPosition, BatchFor, Ask, After, step, IsStep, IsRun, ended, stepped}
use Rattle.mr_model.proofs.StepsKeep.{step_keeps}
use Rattle.mr_model.proofs.TablesTell.{from_tables}
use Rattle.mr_model.proofs.TwinTables.{to_tables}
use Rattle.mr_model.proofs.TwinTaking.{Twins}
use Rattle.mr_model.proofs.TwinSteps.{TwinAfter, twin_add_room_step, twin_submit, twin_cancel, twin_receive, twin_commit_step, twin_truncate_step, same_position, same_to_position}
use Rattle.mr_model.proofs.AnswersAlike.{same_answer, same_outcome_at, same_knows}

pub twin_step : (a b : Replica) (c : Command) → Twins a b → TwinAfter (step a c) (step b c)
twin_step a b (AddRoom room) t = twin_add_room_step a b room t
twin_step a b (Submit s) t = twin_submit a b s t same_outcome_at
twin_step a b (Cancel room id) t = twin_cancel a b room id t same_outcome_at (same_knows a b room (id_in id) t)
twin_step a b (Receive bytes) t = twin_receive a b bytes t
twin_step a b (Commit k) t = twin_commit_step a b k t
twin_step a b (Truncate n) t = twin_truncate_step a b n t
twin_step a b AskPosition t = record { reply = ap PositionIs (same_position a b t.alike); replicas = t.alike }
twin_step a b (BatchFor bytes m) t = record { reply = same_to_position a b (read_position bytes) m t; replicas = t.alike }
twin_step a b (Ask room q) t = record { reply = same_answer a b room q t; replicas = t.alike }

twins : (a b : Replica) → IsReplica a → IsReplica b → tables_of a ≡ tables_of b → Twins a b
twins a b ha hb e = record { first = ha; second = hb; alike = from_tables a b ha hb e }

-- replicas with equal tables reply alike
pub equal_replies : (a b : Replica) (c : Command) → IsReplica a → IsReplica b → tables_of a ≡ tables_of b → (step a c).reply ≡ (step b c).reply
equal_replies a b c ha hb e = (twin_step a b c (twins a b ha hb e)).reply

-- and have equal tables after the command
pub equal_after : (a b : Replica) (c : Command) → IsReplica a → IsReplica b → tables_of a ≡ tables_of b → tables_of (step a c).replica ≡ tables_of (step b c).replica
equal_after a b c ha hb e = to_tables (step a c).replica (step b c).replica (step_keeps a c ha) (step_keeps b c hb) (twin_step a b c (twins a b ha hb e)).replicas

-- ---- runs

over_step : (a b a' : Replica) (c : Command) (reply : Reply) → Twins a b → IsStep a c reply a' → (b' : Replica) × IsStep b c reply b' × Twins a' b'
over_step a b a' c reply t (inl e) =
    let s = twin_step a b c t in
    let said : reply ≡ (step a c).reply = ap (λ (x : After). x.reply) e in
    let left : a' ≡ (step a c).replica = ap (λ (x : After). x.replica) e in
    let all = said ∙ s.reply in (
      (step b c).replica,
      inl (λ i. record { reply = all i; replica = (step b c).replica }),
      subst (λ x. Twins x (step b c).replica) (sym left) (record { first = step_keeps a c t.first; second = step_keeps b c t.second; alike = s.replicas }),
    )
over_step a b a' c reply t (inr m) = (b, inr (m.0, refl), subst (λ x. Twins x b) (sym m.1) t)

over_run : {a a' : Replica} {cs : List Command} {replies : List Reply} (b : Replica) → Twins a b → IsRun a cs replies a' → (b' : Replica) × IsRun b cs replies b' × Twins a' b'
over_run b t ended = (b, ended, t)
over_run b t (stepped {old = a} {middle = m} {new = n} {c = c} {cs = cs} {reply = r} {replies = rs} s rest) =
    let (x, sx, tx) = over_step a b m c r t s in
    let (y, ry, ty) = over_run x tx rest in
    (y, stepped sx ry, ty)

-- a run of one is a run of the other, with the same replies, to equal tables
pub equal_runs : (a b a' : Replica) (cs : List Command) (replies : List Reply) → IsReplica a → IsReplica b
    → tables_of a ≡ tables_of b → IsRun a cs replies a' → (b' : Replica) × IsRun b cs replies b' × (tables_of a' ≡ tables_of b')
equal_runs a b a' cs replies ha hb e run =
    let (b', rb, t) = over_run b (twins a b ha hb e) run in
    (b', rb, to_tables a' b' t.first t.second t.alike)
