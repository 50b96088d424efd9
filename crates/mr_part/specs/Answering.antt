-- What a call answers: its reply, what became of a request, and which failures it never reports.
use Rattle.std.specs.Prelude.{◌≡◌, List, [], ◌∷◌, Result, Ok, Err, IfErr}
use Rattle.mr_model.specs.Refusals as model
use Rattle.mr_model.specs.Replica.{Replica}
use Rattle.mr_model.specs.Replies.{Reply, OutcomeIs, Refused}
use Rattle.mr_model.specs.Queries.{booked_outcome, logged_outcome, cancel_outcome}
use Rattle.mr_model.specs.Tables.{BookingRow, ErrorRow, CancelRow}
use Rattle.mr_model.specs.Taking.{Progress}
use Rattle.mr_base.specs.RefusalViews.{refusal_of}
use Rattle.mr_base.specs.declared.refusals.Refusal.{Refusal}
use Rattle.mr_base.specs.declared.refusals.Refusal.TheVariants.{Store}

-- the reply that an answer makes
abbrev pub reply_with : {T : Type 0} → (T → Reply) → Result T Refusal → Reply
reply_with f (Ok value) = f value
reply_with f (Err refusal) = Refused (refusal_of refusal)

-- it is never told that a store failed
abbrev pub NeverStore : {T : Type 0} → Result T Refusal → Type 0
NeverStore result = IfErr result (λ e. ¬ (e ≡ Store))

-- what the row of a request tells, which is put either into booking or into errorlog
abbrev pub put_outcome : List BookingRow → List ErrorRow → Reply
put_outcome (row ∷ rows) errors = OutcomeIs (booked_outcome row)
put_outcome [] (row ∷ rows) = OutcomeIs (logged_outcome row)
put_outcome [] [] = Refused model.NoSuchRequest

-- what the row of a cancel tells, which is put into cancels
abbrev pub put_cancel_outcome : List CancelRow → Reply
put_cancel_outcome (row ∷ rows) = OutcomeIs (cancel_outcome row)
put_cancel_outcome [] = Refused model.NoSuchRequest

-- a batch before its first item
abbrev pub nothing_taken : Replica → Progress
nothing_taken a = record { replica = a; writes = 0; commits = 0 }
