use Rattle.std.proofs.Common.{◌≡◌, ◌≢◌, ◌∙◌, sym, ap, subst, [], ◌∷◌, ◌++◌, ◌≤◌, map, take, Err, IfErr, List, add-one, rules}
use Rattle.std.proofs.lemmas.List.{take_all}
use Rattle.sqlite.specs.declared.error.Error.{Error}
use Rattle.sqlite.specs.declared.error.ErrorCode.{ErrorCode}
use Rattle.mr_model.specs.First.{moved_row}
use Rattle.mr_model.specs.Tables.{LogRow}
use Rattle.mr_first.specs.Forms.{write_id, undo_id}
use Rattle.mr_first.specs.MovedUp.{ArePaired}
use Rattle.mr_first.proofs.PairLemmas.{joined, paired_is, paired_at, more_paired, more_joined}
use Rattle.mr_first.proofs.pairs.moved_rows.Goals as goal

pub returns-in_err-push_pair-clause-refused : goal.returns-in_err-push_pair-clause-refused
returns-in_err-push_pair-clause-refused c =
    let ws = c.args.writes.now in
    let us = c.args.undo.now in
    let same : c.from_residual.result ≡ Err c.in_err-push_pair.field-0.0 = search rules in
    subst (λ r. IfErr r (λ e. e ≢ Error.SqliteFailure ErrorCode.OutOfMemory → ArePaired ws us → ⊥)) (sym same)
    (λ other paired. c.in_err-push_pair.ensures.refused other
    (paired_at ws us c.at.at c.index-writes-at.result c.index-undo-at.result c.at-test.true c.if-writes-undo.false c.index-writes-at.is c.index-undo-at.is paired))

pub at-preserved : goal.at-preserved
at-preserved c =
    let ws = c.args.writes.now in
    let us = c.args.undo.now in
    let w = c.index-writes-at.result in
    let u = c.index-undo-at.result in
    let more = more_paired ws us c.at.at w u c.at-test.true c.if-writes-undo.false c.index-writes-at.is c.index-undo-at.is c.in_ok-push_pair.ensures.paired c.at.invariant.0 in
    let rows = more_joined ws us c.at.at w u c.at-test.true c.if-writes-undo.false c.index-writes-at.is c.index-undo-at.is in (
      subst (λ n. ArePaired (take n ws) (take n us)) (sym (add-one c.at.at)) more,
      c.in_ok-push_pair.ensures.pushed ∙ ap (λ (rows : List LogRow). rows ++ moved_row w u ∷ []) c.at.invariant.1
          ∙ sym (subst (λ n. joined (take n ws) (take n us) ≡ joined (take c.at.at ws) (take c.at.at us) ++ moved_row w u ∷ []) (sym (add-one c.at.at)) rows),
    )

pub returns-clause-moved : goal.returns-clause-moved
returns-clause-moved c trees is =
    let ws = c.args.writes.now in
    let us = c.args.undo.now in
    let all_ws : take c.at.at ws ≡ ws = take_all c.at.at ws c.at-test.false in
    let all_us : take c.at.at us ≡ us = take_all c.at.at us (subst (λ n. n ≤ c.at.at) c.if-writes-undo.false c.at-test.false) in
    let paired : ArePaired ws us = sym (ap (map write_id) all_ws) ∙ c.at.invariant.0 ∙ ap (map undo_id) all_us in
    c.at.invariant.1 ∙ (λ i. joined (all_ws i) (all_us i)) ∙ paired_is ws us trees paired is
