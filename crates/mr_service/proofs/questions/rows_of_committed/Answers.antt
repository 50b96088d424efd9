use Rattle.std.proofs.Common.{true, ◌≡◌, ◌∙◌, subst}
use Rattle.std.proofs.lemmas.Result.{err_from_is_err_and}
use Rattle.std.specs.List.Sorted.{IsPermutation, IsSortedBy}
use Rattle.mr_model.specs.Replies.{Committed}
use Rattle.mr_store.specs.Picked.{booking_before, picked_cancelled, picked_cancels}
use Rattle.mr_service.specs.Questions.{ShowsCalendar, committed_rows}
use Rattle.mr_service.proofs.KeeperReads.{read_ok, read_err, read_next, read_within, of_memory, both_ok}
use Rattle.mr_service.proofs.RoomSteps as steps
use Rattle.mr_service.proofs.questions.rows_of_committed.Goals as goal

pub returns-in_err-bookings : goal.returns-in_err-bookings
returns-in_err-bookings g c =
    let p = err_from_is_err_and c.from_residual.result c.from_residual.ensures.1 in
    rw p.1 (record {
      read = read_err g.K.Keeper c.args.keeper.now c.bookings.new.self c.in_err-bookings.field-0.0 p.0 p.2 c.in_err-bookings.ensures.quiet;
      shows = λ u o. tt;
      only = steps.of_fault c.in_err-bookings.field-0.0 p.0 p.2;
    })

pub returns-in_err-cancelled : goal.returns-in_err-cancelled
returns-in_err-cancelled g c =
    let p = err_from_is_err_and c.from_residual-in_err-cancelled.result c.from_residual-in_err-cancelled.ensures.1 in
    rw p.1 (record {
      read = read_next g.K.Keeper c.args.keeper.now c.bookings.new.self c.cancelled.new.self true _ (read_ok g.K.Keeper c.args.keeper.now c.bookings.new.self true _ c.in_ok-bookings.ensures.quiet)
          (read_err g.K.Keeper c.bookings.new.self c.cancelled.new.self c.in_err-cancelled.field-0.0 p.0 p.2 c.in_err-cancelled.ensures.quiet);
      shows = λ u o. tt;
      only = steps.of_fault c.in_err-cancelled.field-0.0 p.0 p.2;
    })

pub returns-in_err-cancels : goal.returns-in_err-cancels
returns-in_err-cancels g c =
    let p = err_from_is_err_and c.from_residual-in_err-cancels.result c.from_residual-in_err-cancels.ensures.1 in
    rw p.1 (record {
      read = read_next g.K.Keeper c.args.keeper.now c.bookings.new.self c.cancels.new.self true _ (read_ok g.K.Keeper c.args.keeper.now c.bookings.new.self true _ c.in_ok-bookings.ensures.quiet)
          (read_next g.K.Keeper c.bookings.new.self c.cancelled.new.self c.cancels.new.self true _ (read_ok g.K.Keeper c.bookings.new.self c.cancelled.new.self true _ c.in_ok-cancelled.ensures.quiet)
          (read_err g.K.Keeper c.cancelled.new.self c.cancels.new.self c.in_err-cancels.field-0.0 p.0 p.2 c.in_err-cancels.ensures.quiet));
      shows = λ u o. tt;
      only = steps.of_fault c.in_err-cancels.field-0.0 p.0 p.2;
    })

pub returns : goal.returns
returns g c =
    let k = g.K.Keeper in
    let bookings = c.in_ok-bookings.bookings.items in
    let cancelled = c.in_ok-cancelled.cancelled.items in
    let cancels = c.in_ok-cancels.cancels.items in
    let first : k.is_clean c.cancels.new.self → k.is_clean c.bookings.new.self = λ u. c.cancelled.ensures.quiet.clean (c.cancels.ensures.quiet.clean u) in
    let open_first : k.is_clean c.cancels.new.self → k.is_open c.args.keeper.now → k.is_open c.bookings.new.self = λ u o. c.in_ok-bookings.ensures.quiet.lasts (first u) o in
    let open_next : k.is_clean c.cancels.new.self → k.is_open c.args.keeper.now
    → k.is_open c.cancelled.new.self = λ u o. c.in_ok-cancelled.ensures.quiet.lasts (c.cancels.ensures.quiet.clean u) (open_first u o) in
    let same_first : k.is_clean c.cancels.new.self → k.is_open c.args.keeper.now
    → k.tables c.bookings.new.self ≡ k.tables c.args.keeper.now = λ u o. c.bookings.ensures.quiet.same (first u) (open_first u o) in
    let same_next : k.is_clean c.cancels.new.self → k.is_open c.args.keeper.now
    → k.tables c.cancelled.new.self ≡ k.tables c.args.keeper.now = λ u o. c.cancelled.ensures.quiet.same (c.cancels.ensures.quiet.clean u) (open_next u o) ∙ same_first u o in
    record {
      read = read_within k c.args.keeper.now c.cancels.new.self true c.committed_calendar.result
          (read_next k c.args.keeper.now c.bookings.new.self c.cancels.new.self true _ (read_ok k c.args.keeper.now c.bookings.new.self true _ c.in_ok-bookings.ensures.quiet)
          (read_next k c.bookings.new.self c.cancelled.new.self c.cancels.new.self true _ (read_ok k c.bookings.new.self c.cancelled.new.self true _ c.in_ok-cancelled.ensures.quiet)
          (read_ok k c.cancelled.new.self c.cancels.new.self true _ c.in_ok-cancels.ensures.quiet)))
          c.committed_calendar.ensures.only;
      shows = λ u o.
          both_ok c.committed_calendar.result (λ shown. IsPermutation (committed_rows bookings cancelled cancels) shown.items)
          (λ shown. IsSortedBy booking_before shown.items) (λ shown. ShowsCalendar Committed c.args.room.now (k.tables c.args.keeper.now) shown.items)
          (λ shown moved up. steps.committed_shown (k.tables c.args.keeper.now) c.args.room.now bookings cancelled cancels shown.items
          (c.in_ok-bookings.ensures.bookings (first u) o)
          (subst (λ t. IsPermutation (picked_cancelled c.args.room.now t) cancelled) (same_first u o) (c.in_ok-cancelled.ensures.cancelled (c.cancels.ensures.quiet.clean u) (open_first u o)))
          (subst (λ t. IsPermutation (picked_cancels c.args.room.now t) cancels) (same_next u o) (c.in_ok-cancels.ensures.cancels u (open_next u o))) moved up)
          (rw c.as_slice.ensures.value at c.committed_calendar.ensures.same) c.committed_calendar.ensures.order;
      only = of_memory c.committed_calendar.result c.committed_calendar.ensures.only;
    }
