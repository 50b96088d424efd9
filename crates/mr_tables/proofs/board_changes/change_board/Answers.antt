use Rattle.std.proofs.Common.{◌∙◌, map, ap}
use Rattle.std.proofs.lemmas.Result.{on_ok_weaker}
use Rattle.mr_model.specs.Queries.{booking_id, error_id, cancelled_id, cancel_id}
use Rattle.mr_tables.specs.BoardChanges.{told_anew}
use Rattle.mr_tables.specs.Change.{ChangeView}
use Rattle.mr_tables.proofs.BoardChanged.{board_changed}
use Rattle.mr_tables.proofs.board_changes.change_board.Goals as goal

pub returns-clause-board : goal.returns-clause-board
returns-clause-board g c = λ before old is one.
    let t = g.T.BoardTables.tables c.args.tables.now in
    let b1 = c.in_ok-tell_each.ensures.told ∙ (λ k. told_anew t (map (λ i. i) ((c.deref.ensures.value ∙ ap (λ (v : ChangeView). v.unbooked) c.change.view_is) k)) (old k)) in
    let b2 = c.in_ok-tell_each-2.ensures.told ∙ (λ k. told_anew t (map booking_id ((c.deref-2.ensures.value ∙ ap (λ (v : ChangeView). v.booking) c.change.view_is) k)) (b1 k)) in
    let b3 = c.in_ok-tell_each-3.ensures.told ∙ (λ k. told_anew t (map (λ i. i) ((c.deref-3.ensures.value ∙ ap (λ (v : ChangeView). v.unlogged) c.change.view_is) k)) (b2 k)) in
    let b4 = c.in_ok-tell_each-4.ensures.told ∙ (λ k. told_anew t (map error_id ((c.deref-4.ensures.value ∙ ap (λ (v : ChangeView). v.errorlog) c.change.view_is) k)) (b3 k)) in
    let b5 = c.in_ok-tell_each-5.ensures.told ∙ (λ k. told_anew t (map (λ i. i) ((c.deref-5.ensures.value ∙ ap (λ (v : ChangeView). v.uncancelled) c.change.view_is) k)) (b4 k)) in
    let b6 = c.in_ok-tell_each-6.ensures.told ∙ (λ k. told_anew t (map cancelled_id ((c.deref-6.ensures.value ∙ ap (λ (v : ChangeView). v.cancelled) c.change.view_is) k)) (b5 k)) in
    on_ok_weaker c.tell_each-7.result (λ last. last ∙ (λ k. told_anew t (map cancel_id ((c.deref-7.ensures.value ∙ ap (λ (v : ChangeView). v.cancels) c.change.view_is) k)) (b6 k))
    ∙ board_changed c.args.change.now before t is one) c.tell_each-7.ensures.told
