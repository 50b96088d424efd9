use Rattle.std.proofs.Common.{Ok, Err, map, ap, sym, ◌∙◌, subst, inr}
use Rattle.std.proofs.lemmas.Result.{err_from_is_err_and}
use Rattle.mr_model.specs.Taking.{take_items}
use Rattle.mr_model.proofs.Moved.{batches_move_touched_rooms}
use Rattle.mr_base.specs.Batches.{item_of}
use Rattle.mr_part.specs.Answering.{nothing_taken}
use Rattle.mr_part.specs.Taken.{TakenPicked}
use Rattle.mr_part.proofs.TakingItems.{all_within, items-failed}
use Rattle.mr_part.proofs.batch.candidate.reached_with.Goals as goal

pub returns-in_err-candidate-clause-takes : goal.returns-in_err-candidate-clause-takes
returns-in_err-candidate-clause-takes c = λ a inside sound good short covers summary rooms kept.
    let x = err_from_is_err_and c.from_residual.result c.from_residual.ensures.1 in
    subst (TakenPicked a inside (take_items (map item_of c.args.items.now) 2 (Ok (nothing_taken a)))) (sym (x.1 ∙ ap Err x.2)) (inr c.in_err-candidate.ensures.only)

pub returns-in_err-take_all-clause-takes : goal.returns-in_err-take_all-clause-takes
returns-in_err-take_all-clause-takes c = λ a inside sound good short covers summary rooms kept.
    let x = err_from_is_err_and c.from_residual-in_err-take_all.result c.from_residual-in_err-take_all.ensures.1 in
    let shows = c.in_ok-candidate.ensures.begins a inside sound summary kept in
    subst (TakenPicked a inside (take_items (map item_of c.args.items.now) 2 (Ok (nothing_taken a)))) (sym (x.1 ∙ ap Err x.2)) (items-failed a inside (map item_of c.args.items.now)
    (nothing_taken a) c.take_all.new.self c.in_err-take_all.field-0.0 (c.in_err-take_all.ensures.takes a inside (nothing_taken a) sound good short covers shows))

pub returns-in_err-reached-clause-takes : goal.returns-in_err-reached-clause-takes
returns-in_err-reached-clause-takes c = λ a inside sound good short covers summary rooms kept.
    let x = err_from_is_err_and c.from_residual-in_err-reached.result c.from_residual-in_err-reached.ensures.1 in
    subst (TakenPicked a inside (take_items (map item_of c.args.items.now) 2 (Ok (nothing_taken a)))) (sym (x.1 ∙ ap Err x.2)) (inr c.in_err-reached.ensures.only)

pub returns-clause-takes : goal.returns-clause-takes
returns-clause-takes c = λ a inside sound good short covers summary rooms kept.
    let items = map item_of c.args.items.now in
    let shows = c.in_ok-candidate.ensures.begins a inside sound summary kept in
    let (p, exact, taken) = c.in_ok-take_all.ensures.takes a inside (nothing_taken a) sound good short covers shows in
    let after = (batches_move_touched_rooms items 2 (nothing_taken a) p sound (all_within items good) exact).sound in
    (p, exact, c.in_ok-reached.ensures.reached a inside p after rooms taken)
