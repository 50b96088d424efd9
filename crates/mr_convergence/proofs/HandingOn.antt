-- Ways of whole exchanges, one behind the other.
use Rattle.std.proofs.Common.{◌≡◌, sym, ap, ◌∙◌, subst, ℕ, List, ◌∷◌, ◌++◌, append_assoc}
use Rattle.mr_model.specs.World.{World, Step, Make, Deliver, StepReply, Made}
use Rattle.mr_model.specs.Honest.{IsWorldRun, ended, stepped}
use Rattle.mr_convergence.specs.Convergence.{IsHandedOn, kept, handed}

pub run_append : {a b c : World} {ss ts : List Step} {rs us : List StepReply} → IsWorldRun a ss rs b → IsWorldRun b ts us c → IsWorldRun a (ss ++ ts) (rs ++ us) c
run_append ended g = g
run_append (stepped st rest) g = stepped st (run_append rest g)

-- the same way along equal lists
along : (a b : World) (s t : ℕ) (ss ts : List Step) (rs us : List StepReply) → ss ≡ ts → rs ≡ us → IsHandedOn a ss rs b s t → IsHandedOn a ts us b s t
along a b s t ss ts rs us e f way = subst (λ xs. IsHandedOn a xs us b s t) e (subst (λ ys. IsHandedOn a ss ys b s t) f way)

-- what stands behind a delivery
behind : {A : Type 0} (before : List A) (x : A) (others : List A) (y : A) (after more : List A) → (before ++ (x ∷ (others ++ (y ∷ after)))) ++ more ≡ before ++ (x ∷ (others ++ (y ∷ (after ++ more))))
behind before x others y after more = append_assoc before (x ∷ (others ++ (y ∷ after))) more ∙ ap (λ zs. before ++ (x ∷ zs)) (append_assoc others (y ∷ after) more)

-- and then any steps
pub handed_after : {a b c : World} {s t : ℕ} {ss ts : List Step} {rs us : List StepReply} → IsHandedOn a ss rs b s t → IsWorldRun b ts us c → IsHandedOn a (ss ++ ts) (rs ++ us) c s t
handed_after (kept run) more = kept (run_append run more)
handed_after {a = a} {c = c} {ts = ts} {us = us}
    (handed {s = s} {t = t} {u = u} {number = number} {size = size} {reply = reply} {before = before} {after = after} {replies_before = rb} {replies_after = ra} way d whole complete there run) more =
    along a c s u
    (before ++ (Make t u d.max_lines ∷ (d.steps ++ (Deliver number u d.bytes ∷ (after ++ ts))))) ((before ++ (Make t u d.max_lines ∷ (d.steps ++ (Deliver number u d.bytes ∷ after)))) ++ ts)
    (rb ++ (Made number size ∷ (d.replies ++ (reply ∷ (ra ++ us))))) ((rb ++ (Made number size ∷ (d.replies ++ (reply ∷ ra)))) ++ us)
    (sym (behind before (Make t u d.max_lines) d.steps (Deliver number u d.bytes) after ts)) (sym (behind rb (Made number size) d.replies reply ra us))
    (handed way d whole complete there (run_append run more))

-- one way behind another
pub handed_trans : {a b c : World} {s t u : ℕ} {ss ts : List Step} {rs us : List StepReply} → IsHandedOn a ss rs b s t → IsHandedOn b ts us c t u → IsHandedOn a (ss ++ ts) (rs ++ us) c s u
handed_trans first (kept run) = handed_after first run
handed_trans {a = a} {c = c} {s = s} {ss = ss} {rs = rs} first
    (handed {t = t} {u = u} {number = number} {size = size} {reply = reply} {before = before} {after = after} {replies_before = rb} {replies_after = ra} way d whole complete there run) =
    along a c s u
    ((ss ++ before) ++ (Make t u d.max_lines ∷ (d.steps ++ (Deliver number u d.bytes ∷ after)))) (ss ++ (before ++ (Make t u d.max_lines ∷ (d.steps ++ (Deliver number u d.bytes ∷ after)))))
    ((rs ++ rb) ++ (Made number size ∷ (d.replies ++ (reply ∷ ra)))) (rs ++ (rb ++ (Made number size ∷ (d.replies ++ (reply ∷ ra)))))
    (append_assoc ss before (Make t u d.max_lines ∷ (d.steps ++ (Deliver number u d.bytes ∷ after)))) (append_assoc rs rb (Made number size ∷ (d.replies ++ (reply ∷ ra))))
    (handed (handed_trans first way) d whole complete there run)
