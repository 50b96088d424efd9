use Rattle.std.proofs.Common.{◌≡◌, ◌+◌, ◌<◌, min, ℕ, List, Option, Result, Ok, Err, IfOk, length, sym, ◌∙◌, subst, arith}
use Rattle.mr_model.specs.Texts.{Text}
use Rattle.mr_model.specs.Tables.{VectorRow}
use Rattle.mr_model.specs.Writes.{Id, Write}
use Rattle.mr_base.specs.declared.refusals.Refusal.{Refusal}
use Rattle.mr_replay.specs.Places.{UndoRow}
use Rattle.mr_tables.specs.declared.summary.Summary.{Summary}
use Rattle.mr_tables.specs.Change.{ChangeView}
use Rattle.mr_tables.specs.Written.{meta_of, written}
use Rattle.mr_part.proofs.calls.placing.rewritten.Goals as goal

-- with the number behind the old commits, and with the cancels that the board tells
written_is : (r : Result ChangeView Refusal) (s : Summary) (rooms : List Text) (vector rows : List VectorRow) (first k : ℕ) (ws : List Write)
    (us : List UndoRow) (bys told : List (Option Id)) → vector ≡ rows → bys ≡ told → (k + length ws < 18446744073709551616 → first ≡ k)
    → IfOk r (λ change. first + length ws < 18446744073709551616 → change ≡ written (meta_of s) rooms vector s.commits first ws us bys)
    → IfOk r (λ change. k + length ws < 18446744073709551616 → change ≡ written (meta_of s) rooms rows s.commits k ws us told)
written_is (Ok x) s rooms vector rows first k ws us bys told v b f h = λ small.
    let e = f small in
    h (subst (λ n. n + length ws < 18446744073709551616) (sym e) small) ∙ (λ i. written (meta_of s) rooms (v i) s.commits (e i) ws us (b i))
written_is (Err x) s rooms vector rows first k ws us bys told v b f h = h

pub returns-clause-change : goal.returns-clause-change
returns-clause-change c =
    let ws = c.args.writes.now in
    let old = c.args.old.now.commits in
    written_is c.written.result c.args.summary.now c.args.rooms.items c.in_ok-vector.vector.items _ c.saturating_add-first.result
    (old + 1) ws c.args.rows.now c.deref.result.now _ c.in_ok-vector.ensures.rows (c.deref.ensures.value ∙ c.in_ok-bys.ensures.cancellers)
    (λ small. c.saturating_add-first.ensures ∙ (let m : min (old + 1) 18446744073709551615 ≡ old + 1 = omega (arith, small) in m)) c.written.ensures.change
