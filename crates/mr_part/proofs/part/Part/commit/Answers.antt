use Rattle.std.proofs.Common.{◌≡◌, ◌==◌, ◌+◌, ◌<◌, true, Err, List, [], length, map, ap, sym, ◌∙◌, subst, inl, inr, arith}
use Rattle.std.proofs.lemmas.List.{length-map}
use Rattle.std.proofs.lemmas.Result.{err_from_is_err_and}
use Rattle.mr_model.specs.Replies.{CommittedIs}
use Rattle.mr_model.specs.Writes.{Write, id_of}
use Rattle.mr_tables.specs.Summary.{noted_commits}
use Rattle.mr_tables.specs.Written.{meta_of, changed_tallies, written}
use Rattle.mr_part.specs.declared.kept_rows.KeptRow.{KeptRow}
use Rattle.mr_part.specs.KeptRows.{row_writes, row_undos}
use Rattle.mr_part.specs.Placing.{cancellers_on}
use Rattle.mr_part.specs.Parts.{PartView}
use Rattle.mr_part.proofs.PartCalls.{part_commit}
use Rattle.mr_part.proofs.Receiving.{own_primary}
use Rattle.mr_part.proofs.part.Part.commit.Goals as goal

pub returns-in_err-writes-clause-step : goal.returns-in_err-writes-clause-step
returns-in_err-writes-clause-step c = λ a sound part.
    let x = err_from_is_err_and c.from_residual.result c.from_residual.ensures.1 in
    inr (x.1 ∙ ap Err (x.2 ∙ c.in_err-writes.ensures.only))

pub returns-in_err-rows-clause-step : goal.returns-in_err-rows-clause-step
returns-in_err-rows-clause-step c = λ a sound part.
    let x = err_from_is_err_and c.from_residual-in_err-rows.result c.from_residual-in_err-rows.ensures.1 in
    inr (x.1 ∙ ap Err (x.2 ∙ c.in_err-rows.ensures.only))

pub returns-in_err-bys-clause-step : goal.returns-in_err-bys-clause-step
returns-in_err-bys-clause-step c = λ a sound part.
    let x = err_from_is_err_and c.from_residual-in_err-bys.result c.from_residual-in_err-bys.ensures.1 in
    inr (x.1 ∙ ap Err (x.2 ∙ c.in_err-bys.ensures.only))

pub returns-in_err-change-clause-step : goal.returns-in_err-change-clause-step
returns-in_err-change-clause-step c = λ a sound part.
    let x = err_from_is_err_and c.from_residual-in_err-change.result c.from_residual-in_err-change.ensures.1 in
    inr (x.1 ∙ ap Err (x.2 ∙ c.in_err-change.ensures.only))

pub returns-clause-step : goal.returns-clause-step
returns-clause-step c = λ a sound part.
    let i = c.self.inside in
    let k = c.args.k in
    let e = c.self.view_is ∙ part in
    let p : PartView = record { summary = i.summary; rooms = i.rooms.items; kept = i.kept; board = i.board } in
    let next = c.in_ok-change.field-0-0 in
    let server : i.summary.server ≡ a.server = ap (λ (v : PartView). v.summary.server) e in
    let primary : i.summary.primary ≡ a.primary = ap (λ (v : PartView). v.summary.primary) e in
    let own : (a.server == a.primary) ≡ true = (λ t. sym server t == a.primary) ∙ own_primary i.summary.server i.summary.primary a.primary c.ne.result c.ne.ensures c.if-ne.false primary in
    let copies = c.in_ok-writes.ensures.writes ∙ ap row_writes c.as_slice-kept.ensures in
    let writes = c.deref-2.ensures.value ∙ copies in
    let rows = c.deref-3.ensures.value ∙ c.in_ok-rows.ensures.rows ∙ ap row_undos c.as_slice-kept.ensures in
    let bys = c.deref-4.ensures.value ∙ c.in_ok-bys.ensures.cancellers ∙ ap (cancellers_on i.board) (c.deref.ensures.value ∙ copies) in
    let numbers = c.in_ok-change.ensures.numbers ∙ ap (λ (ws : List Write). noted_commits i.summary (map id_of ws)) writes in
    let done = part_commit a k p next c.deref-4.result.now c.in_ok-change.change sound e own numbers bys
    (λ small.
    c.in_ok-change.ensures.change (subst (λ (ws : List Write). i.summary.commits + 1 + length ws < 18446744073709551616) (sym writes) small)
    ∙ (λ t. written (meta_of next) [] (changed_tallies i.summary.tallies next.tallies) next.commits (i.summary.commits + 1) (writes t) (rows t) c.deref-4.result.now)) in
    let count : length c.as_slice-kept.result.now ≡ length (row_writes i.kept) = ap length c.as_slice-kept.ensures ∙ sym (length-map i.kept (λ (x : KeptRow). x.write)) in
    inl (ap CommittedIs count ∙ done.0, done.1)
