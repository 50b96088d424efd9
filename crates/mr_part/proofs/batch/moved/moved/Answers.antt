use Rattle.std.proofs.Common.{◌+◌, ◌<◌, List, ap, sym, ◌∙◌, subst, length, map}
use Rattle.mr_model.specs.View.{place_of}
use Rattle.mr_model.specs.Dropped.{Has}
use Rattle.mr_model.specs.Writes.{Write}
use Rattle.mr_replay.specs.Rows.{executed_all, undone_all, undo_rows_of}
use Rattle.mr_tables.specs.Written.{meta_of, changed_tallies, written}
use Rattle.mr_part.specs.KeptWrites.{held_place}
use Rattle.mr_part.specs.Placing.{with_places_put, cancellers_on}
use Rattle.mr_part.specs.Targets.{taken_by, moved_targets}
use Rattle.mr_part.proofs.ChangedRows.{as_many_rows}
use Rattle.mr_part.proofs.PartMoves.{part_moved, part_rows, part_ends}
use Rattle.mr_part.proofs.batch.moved.moved.Goals as goal

pub changed_of-requires : goal.changed_of-requires
changed_of-requires c =
    let b = undone_all c.over-board.result c.args.undone.now in
    let rows = c.deref-6.ensures.value ∙ c.in_ok-undo.ensures.rows ∙ (λ t. undo_rows_of b (c.deref-2.ensures.value t)) in
    (c.requires ∙ sym (ap length c.deref-5.ensures.value), as_many_rows b c.args.anew.writes.items ∙ sym (ap length rows))

pub rewritten-requires : goal.rewritten-requires
rewritten-requires c = ap length c.deref-7.ensures.value ∙ c.in_ok-changed.ensures.as_many ∙ sym (ap length c.deref-8.ensures.value)

pub returns-clause-turns : goal.returns-clause-turns
returns-clause-turns c = λ items a b moves.
    let old = c.args.old.now in
    let us = c.args.undone.now in
    let ws = c.args.anew.writes.items in
    let s = c.args.numbers.now in
    let rooms = c.args.rooms.items in
    let board = c.args.board in
    let after = c.replay.new.self in
    let over = c.over-board.ensures in
    let here = c.deref-2.ensures.value in
    let replayed = c.in_ok-undo.ensures.board ∙ (λ t. executed_all (undone_all (over t) us) (here t)) in
    let undo = c.deref-6.ensures.value ∙ c.in_ok-undo.ensures.rows ∙ (λ t. undo_rows_of (undone_all (over t) us) (here t))
    ∙ part_rows old board items a b s rooms us ws c.args.anew.undo.items moves after replayed in
    let (writes, rows) = c.in_ok-changed.ensures.changed (held_place a) (place_of b) (c.deref-5.ensures.value ∙ moves.was_are) undo in
    let put = c.deref-7.ensures.value ∙ writes in
    let put_rows = c.deref-8.ensures.value ∙ rows in
    let aimed = c.deref-3.ensures.value in
    let ends = λ (w : Write) (h : Has w c.deref-3.result.now).
    part_ends old board items a b s rooms us ws c.args.anew.undo.items moves after replayed w (subst (λ (vs : List Write). Has w vs) aimed h) in
    let by = c.deref-4.ensures.value ∙ c.in_ok-by.ensures.takers ∙ ap (map (taken_by board)) (c.deref.ensures.value ∙ sym aimed) in
    let targets = c.in_ok-targets.ensures.rows board ends by ∙ ap (moved_targets s.tallies board after) aimed in
    part_moved old board items a b s rooms us ws c.args.anew.undo.items moves after replayed c.saturating_sub-news.result c.put_places.new.change c.saturating_sub-news.ensures
    (λ small.
    let change =
    c.in_ok-change.ensures.change (subst (λ (xs : List Write). old.commits + 1 + length xs < 18446744073709551616) (sym put) small)
    ∙ (λ t. written (meta_of s) rooms (changed_tallies old.tallies s.tallies) s.commits (old.commits + 1) (put t) (put_rows t) (cancellers_on after (put t))) in
    c.in_ok-put_places.ensures.rows ∙ (λ t. with_places_put (change t) (targets t)))
