use Rattle.std.proofs.Common.{true, ◌≡◌, map, subst}
use Rattle.std.proofs.lemmas.Result.{err_from_is_err_and}
use Rattle.std.specs.List.Sorted.{IsPermutation, IsSortedByKey}
use Rattle.mr_store.specs.Picked.{picked_cancels}
use Rattle.mr_service.specs.Asked.{log_line_seen}
use Rattle.mr_service.specs.Questions.{ShowsLines, lines_of, line_key, log_key_cmp}
use Rattle.mr_service.proofs.KeeperReads.{read_ok, read_err, read_next, read_within, of_memory, both_ok}
use Rattle.mr_service.proofs.RoomSteps as steps
use Rattle.mr_service.proofs.questions.lines_in.Goals as goal

pub returns-in_err-requests : goal.returns-in_err-requests
returns-in_err-requests g c =
    let p = err_from_is_err_and c.from_residual.result c.from_residual.ensures.1 in
    rw p.1 (record {
      read = read_err g.K.Keeper c.args.keeper.now c.errors.new.self c.in_err-requests.field-0.0 p.0 p.2 c.in_err-requests.ensures.quiet;
      shows = λ u o. tt;
      only = steps.of_fault c.in_err-requests.field-0.0 p.0 p.2;
    })

pub returns-in_err-cancels : goal.returns-in_err-cancels
returns-in_err-cancels g c =
    let p = err_from_is_err_and c.from_residual-in_err-cancels.result c.from_residual-in_err-cancels.ensures.1 in
    rw p.1 (record {
      read = read_next g.K.Keeper c.args.keeper.now c.errors.new.self c.cancels.new.self true _ (read_ok g.K.Keeper c.args.keeper.now c.errors.new.self true _ c.in_ok-requests.ensures.quiet)
          (read_err g.K.Keeper c.errors.new.self c.cancels.new.self c.in_err-cancels.field-0.0 p.0 p.2 c.in_err-cancels.ensures.quiet);
      shows = λ u o. tt;
      only = steps.of_fault c.in_err-cancels.field-0.0 p.0 p.2;
    })

pub returns : goal.returns
returns g c =
    let k = g.K.Keeper in
    let requests = c.in_ok-requests.requests.items in
    let cancels = c.in_ok-cancels.cancels.items in
    let open_first : k.is_clean c.cancels.new.self → k.is_open c.args.keeper.now → k.is_open c.errors.new.self = λ u o. c.in_ok-requests.ensures.quiet.lasts (c.cancels.ensures.quiet.clean u) o in
    let same : k.is_clean c.cancels.new.self → k.is_open c.args.keeper.now
    → k.tables c.errors.new.self ≡ k.tables c.args.keeper.now = λ u o. c.errors.ensures.quiet.same (c.cancels.ensures.quiet.clean u) (open_first u o) in
    record {
      read = read_within k c.args.keeper.now c.cancels.new.self true c.log_lines.result
          (read_next k c.args.keeper.now c.errors.new.self c.cancels.new.self true _ (read_ok k c.args.keeper.now c.errors.new.self true _ c.in_ok-requests.ensures.quiet)
          (read_ok k c.errors.new.self c.cancels.new.self true _ c.in_ok-cancels.ensures.quiet))
          c.log_lines.ensures.only;
      shows = λ u o.
          both_ok c.log_lines.result (λ lines. IsPermutation (lines_of requests cancels) (map log_line_seen lines.items))
          (λ lines. IsSortedByKey line_key log_key_cmp lines.items) (λ lines. ShowsLines c.args.room.now (k.tables c.args.keeper.now) (map log_line_seen lines.items))
          (λ lines moved up. steps.lines_shown (k.tables c.args.keeper.now) c.args.room.now requests cancels lines.items
          (c.in_ok-requests.ensures.errors (c.cancels.ensures.quiet.clean u) o)
          (subst (λ t. IsPermutation (picked_cancels c.args.room.now t) cancels) (same u o) (c.in_ok-cancels.ensures.cancels u (open_first u o))) moved up)
          c.log_lines.ensures.same c.log_lines.ensures.order;
      only = of_memory c.log_lines.result c.log_lines.ensures.only;
    }
