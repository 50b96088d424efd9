-- A step that is refused leaves its replica.
use Rattle.std.proofs.Common.{◌≡◌, refl, sym, ap, subst, ◌∙◌, eqb, ltb, not, [], ◌∷◌, length, inl, Option, Some, None, Result, Ok, Err}
use Rattle.mr_model.specs.Texts.{only_if}
use Rattle.mr_model.specs.Writes.{Write, is_room_name}
use Rattle.mr_model.specs.Refusals.{Refusal, BadRoomName, RoomThere, PrimaryKeepsAll, BeyondCommitted, NotPrimary, WrongPrimary, first_refusal}
use Rattle.mr_model.specs.Replica.{Replica, IsReplica, knows_room, add_write}
use Rattle.mr_model.specs.Exchange.{Header, Batch, read_batch}
use Rattle.mr_model.specs.Taking.{Progress}
use Rattle.mr_model.specs.Replies.{Refused, OutcomeIs}
use Rattle.mr_model.specs.View.{outcome_of, outcome_reply}
use Rattle.mr_model.specs.Step.{After, Command, AddRoom, Submit, Cancel, Receive, Commit, Truncate, AskPosition, BatchFor, Ask, step, step_unless}
use Rattle.mr_model.specs.Step.{after_write, outcome_at, write_of, submit_faults, cancel_write, cancel_faults, after_items, receive_under, receive_read}
use Rattle.mr_model.proofs.RoomTold.{known_told, told_of_room}
use Rattle.mr_model.proofs.StepsKeep.{step_keeps}
use Rattle.mr_model.proofs.WithWrite.{has_with_write}

pub unless_leaves : (r : Replica) (o : Option Refusal) (done : After) (e : Refusal) → (o ≡ None → done.reply ≡ Refused e → done.replica ≡ r)
    → (step_unless r o done).reply ≡ Refused e → (step_unless r o done).replica ≡ r
unless_leaves r None done e leaves is = leaves refl is
unless_leaves r (Some x) done e leaves is = refl

-- a write that was accepted is there
pub accepted : (r : Replica) (w : Write) (e : Refusal) → IsReplica (add_write r w) → ¬ ((after_write r w).reply ≡ Refused e)
accepted r w e h = λ is.
    let b = add_write r w in
    let (t, there, same) = known_told b w h (has_with_write w w r.known (inl refl)) in
    let said : outcome_at b t.write ≡ OutcomeIs (outcome_of t) = ap outcome_reply (told_of_room b w.room t h there).is_told in
    let bad : OutcomeIs (outcome_of t) ≡ Refused e = sym said ∙ ap (outcome_at b) same ∙ is in
    cc bad

pub receive_leaves : (r : Replica) (o : Result Batch Refusal) (e : Refusal) → (receive_read r o).reply ≡ Refused e → (receive_read r o).replica ≡ r
receive_leaves r (Err x) e is = refl
receive_leaves r (Ok b) e is = under b.header is
  where
    items : (o : Result Progress Refusal) → (after_items r o).reply ≡ Refused e → (after_items r o).replica ≡ r
    items (Ok p) bad = absurd (cc bad)
    items (Err x) said = refl

    under : (o : Option Header) → (receive_under r o b.items).reply ≡ Refused e → (receive_under r o b.items).replica ≡ r
    under None said = refl
    under (Some t) said = unless_leaves r (only_if (not (eqb t.primary r.primary)) WrongPrimary) _ e (λ none done. items _ done) said

pub refused_leaves : (r : Replica) (c : Command) (e : Refusal) → IsReplica r → (step r c).reply ≡ Refused e → (step r c).replica ≡ r
refused_leaves r (AddRoom room) e h is =
    unless_leaves r (first_refusal ((not (is_room_name room), BadRoomName) ∷ (knows_room r room, RoomThere) ∷ [])) _ e (λ none bad. absurd (cc bad)) is
refused_leaves r (Submit s) e h is =
    unless_leaves r (first_refusal (submit_faults r s)) (after_write r (write_of r s)) e
    (λ none bad. absurd (accepted r (write_of r s) e (subst (λ o. IsReplica (step_unless r o (after_write r (write_of r s))).replica) none (step_keeps r (Submit s) h)) bad)) is
refused_leaves r (Cancel room id) e h is =
    unless_leaves r (first_refusal (cancel_faults r room id)) (after_write r (cancel_write r room id)) e
    (λ none bad. absurd (accepted r (cancel_write r room id) e (subst (λ o. IsReplica (step_unless r o (after_write r (cancel_write r room id))).replica) none (step_keeps r (Cancel room id) h)) bad))
    is
refused_leaves r (Receive bytes) e h is = receive_leaves r (read_batch bytes) e is
refused_leaves r (Commit k) e h is = unless_leaves r (only_if (not (eqb r.server r.primary)) NotPrimary) _ e (λ none bad. absurd (cc bad)) is
refused_leaves r (Truncate n) e h is =
    unless_leaves r (first_refusal ((eqb r.server r.primary, PrimaryKeepsAll) ∷ (ltb (length r.commits) n, BeyondCommitted) ∷ [])) _ e (λ none bad. absurd (cc bad)) is
refused_leaves r AskPosition e h is = refl
refused_leaves r (BatchFor bytes m) e h is = refl
refused_leaves r (Ask room question) e h is = refl
