use Rattle.std.proofs.Common.{◌≡◌, ◌-◌, ◌||◌, Err, length, map, ap, sym, subst, ◌∙◌, inr, arith}
use Rattle.std.proofs.lemmas.Result.{err_from_is_err_and}
use Rattle.std.specs.List.{list_any}
use Rattle.std.specs.Prelude.{bytes_eq}
use Rattle.mr_model.proofs.Moved.{batches_move_touched_rooms}
use Rattle.mr_base.specs.Batches.{item_of}
use Rattle.mr_part.specs.Answering.{nothing_taken}
use Rattle.mr_part.specs.KeptWrites.{held_place}
use Rattle.mr_part.specs.Logged.{undo_with}
use Rattle.mr_part.specs.Moves.{IsMoving, ShowsMoves}
use Rattle.mr_part.specs.Taken.{ReachedView, is_inside}
use Rattle.mr_part.specs.Parts.{PartView}
use Rattle.mr_part.proofs.Moves.{again_picked, undos_picked}
use Rattle.mr_part.proofs.TakingItems.{all_within}
use Rattle.mr_part.proofs.ReceivingPart.{part_received, part_refused}
use Rattle.mr_part.proofs.part.Part.take_undone.Goals as goal

pub returns-in_err-kept-clause-step : goal.returns-in_err-kept-clause-step
returns-in_err-kept-clause-step c = λ good short a sound part moving undone.
    let x = err_from_is_err_and c.from_residual.result c.from_residual.ensures.1 in
    inr (x.1 ∙ ap Err (x.2 ∙ c.in_err-kept.ensures.only))

pub returns-in_err-reached-clause-step : goal.returns-in_err-reached-clause-step
returns-in_err-reached-clause-step c = λ good short a sound part moving undone.
    let x = err_from_is_err_and c.from_residual-in_err-reached.result c.from_residual-in_err-reached.ensures.1 in
    let items = map item_of c.args.items.now in
    let e = c.self.view_is ∙ part in
    part_refused a items c.from_residual-in_err-reached.result c.in_err-reached.field-0.0 (x.1 ∙ ap Err x.2)
    (c.in_err-reached.ensures.takes a (is_inside a items) sound good short (λ w h. h) (ap (λ (v : PartView). v.summary) e)
    (c.deref.ensures.value ∙ ap (λ (v : PartView). v.rooms) e) (c.in_ok-kept.ensures.rows ∙ ap (λ (v : PartView). v.kept) e))

pub returns-in_err-anew-clause-step : goal.returns-in_err-anew-clause-step
returns-in_err-anew-clause-step c = λ good short a sound part moving undone.
    let x = err_from_is_err_and c.from_residual-in_err-anew.result c.from_residual-in_err-anew.ensures.1 in
    inr (x.1 ∙ ap Err (x.2 ∙ c.in_err-anew.ensures.only))

pub returns-in_err-change-clause-step : goal.returns-in_err-change-clause-step
returns-in_err-change-clause-step c = λ good short a sound part moving undone.
    let x = err_from_is_err_and c.from_residual-in_err-change.result c.from_residual-in_err-change.ensures.1 in
    inr (x.1 ∙ ap Err (x.2 ∙ c.in_err-change.ensures.only))

pub moved-requires : goal.moved-requires
moved-requires c = c.in_ok-anew.ensures.as_many

pub returns-clause-step : goal.returns-clause-step
returns-clause-step c = λ good short a sound part moving undone.
    let items = map item_of c.args.items.now in
    let e = c.self.view_is ∙ part in
    let reached = c.in_ok-reached.reached in
    let (p, exact, shows) = c.in_ok-reached.ensures.takes a (is_inside a items) sound good short (λ w h. h) (ap (λ (v : PartView). v.summary) e)
    (c.deref.ensures.value ∙ ap (λ (v : PartView). v.rooms) e) (c.in_ok-kept.ensures.rows ∙ ap (λ (v : PartView). v.kept) e) in
    let b = p.replica in
    let view = c.reached.view_is in
    let m = batches_move_touched_rooms items 2 (nothing_taken a) p sound (all_within items good) exact in
    let moves = subst (λ n. IsMoving c.args.moving.now moving.touched n items) (sym (ap (λ (v : PartView). v.summary.commits) e)) moving.moving_is in
    let touched = moving.touched in
    let had = c.self.inside.summary.commits in
    let rows = c.reached.inside.kept.items in
    let shown : ShowsMoves a b items (is_inside a items) touched had rows = record {
      sound = sound;
      moves = m;
      are_touched = moving.are_touched;
      commits_are = ap (λ (v : PartView). v.summary.commits) e;
      covers = λ w h. h;
      kept_are = ap (λ (v : ReachedView). v.kept) view ∙ shows.kept;
      marks = shows.marks;
    } in
    let picked = c.in_ok-anew.ensures.anew touched items moves in
    let anew = picked.0 ∙ again_picked a b items (is_inside a items) touched had rows shown in
    let was = picked.1 ∙ undos_picked a b items (is_inside a items) touched had rows shown ∙ ap (map (undo_with (held_place a))) (sym picked.0) in
    let turns = c.in_ok-change.ensures.turns items a b (record {
      sound = sound;
      old_is = ap (λ (v : PartView). v.summary) e;
      board_is = ap (λ (v : PartView). v.board) e;
      moves = m;
      summary_is = ap (λ (v : ReachedView). v.summary) view ∙ shows.summary;
      rooms_are = λ t. ap (λ (v : ReachedView). list_any (bytes_eq t) a.rooms || list_any (bytes_eq t) v.rooms) view ∙ shows.rooms t;
      undone_are = undone;
      writes_are = anew;
      was_are = was;
    }) in
    let held = c.len-had.ensures in
    let have = c.len.ensures in
    let old = c.in_ok-kept.kept.ok in
    let own = ap length c.in_ok-kept.ensures.rows in
    let new = c.reached.inside.kept.ok in
    let before_kept = ap (λ (v : PartView). length v.kept) c.self.view_is in
    let now = ap (λ (v : ReachedView). length v.kept) view in
    let more = c.saturating_sub-writes.ensures in
    let counted : c.saturating_sub-writes.result ≡ length reached.kept - length c.args.self.kept = omega (arith, held, have, old, own, new, before_kept, now, more) in
    let before = ap (λ (v : PartView). v.summary.commits) c.self.view_is in
    let after = ap (λ (v : ReachedView). v.summary.commits) view in
    let rise = c.saturating_sub-commits.ensures in
    let committed : c.saturating_sub-commits.result ≡ reached.summary.commits - c.args.self.summary.commits = omega (arith, before, after, rise) in
    part_received a items c.args.self reached p (c.saturating_sub-writes.result, c.saturating_sub-commits.result, c.in_ok-change.change) sound part good exact shows counted committed turns
