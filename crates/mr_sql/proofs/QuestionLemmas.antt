-- A question that is asked once the rows of `meta` and `vector` were tested.
use Rattle.std.proofs.Common.{Ok, Err, Result, IfOk, OnOk}
use Rattle.sqlite.specs.declared.error.Error.{Error}
use Rattle.sqlite.specs.Effect.{Database}
use Rattle.sqlite.specs.State.{State, HasCleanDisk}
use Rattle.mr_rows.specs.Database.{IsKept}
use Rattle.mr_rows.specs.Reads.{ReadsKept}
use Rattle.mr_rows.proofs.QueryLemmas.{reads_so, reads_then}

second_of : {X : Type 0} (r : Result X Error) (P : X → Type 0) (N : Type 0) → IfOk r (λ x. P x × N) → OnOk r N
second_of (Ok x) P N h = h.1
second_of (Err e) P N h = tt

-- what is asked is read of the database as it was, and what was tested is so
pub asked_with : {X : Type 0} (a b d : State) (x : Unit {0}) (N : Type 0) (r : Result X Error) (Q : Database → X → Type 0) → ReadsKept a b (Ok x) (λ _. N) → ReadsKept b d r (Q b.now)
    → ReadsKept a d r (Q a.now) × (HasCleanDisk d → IsKept a → OnOk r N)
asked_with a b d x N r Q p q =
    let read = reads_then a b d x (λ _. N) r Q (λ y. Q a.now y × N) (λ kept y n h. (h, n)) p q in
    (reads_so a d r (λ y. Q a.now y × N) (Q a.now) (λ kept y h. h.0) read, λ clean kept. second_of r (Q a.now) N (read.2 clean kept).1)
