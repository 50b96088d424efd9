use Rattle.std.proofs.Common.{rules, ◌∙◌, ap, sym, subst}
use Rattle.std.proofs.lemmas.Bool.{true≢false}
use Rattle.mr_model.specs.Tables.{Tables}
use Rattle.mr_tables.specs.Boards.{AreWithin}
use Rattle.mr_tables.proofs.BoardLimits.{rows_within}
use Rattle.mr_replica.specs.Ordered.{AreInOrder}
use Rattle.mr_replica.proofs.ReplicaOrder.{replica_in_order}
use Rattle.mr_replica.proofs.from_tables.copy_of_read.Goals as goal

pub returns-then-not-are_in_order-clause-only : goal.returns-then-not-are_in_order-clause-only
returns-then-not-are_in_order-clause-only c = λ a h e.
    absurd (true≢false (sym (c.are_in_order.ensures.1 (subst AreInOrder (sym e) (replica_in_order a h))) ∙ c.if-not-are_in_order.true))

pub returns-in_err-kept_rows-clause-only : goal.returns-in_err-kept_rows-clause-only
returns-in_err-kept_rows-clause-only c = λ a h e.
    let logs = c.deref.ensures.value ∙ ap (λ (t : Tables). t.log) (c.tables.view_is ∙ e) in
    let only = c.in_err-kept_rows.ensures.only a h logs in
    search (rules, only)

pub returns-in_err-board_with-clause-only : goal.returns-in_err-board_with-clause-only
returns-in_err-board_with-clause-only c = λ a h e.
    let only = c.in_err-board_with.ensures.only (subst AreWithin (sym e) (rows_within a h)) in
    search (rules, only)

pub returns-in_err-board-clause-only : goal.returns-in_err-board-clause-only
returns-in_err-board-clause-only c = λ a h e. search rules

pub returns-in_err-copy_of-clause-only : goal.returns-in_err-copy_of-clause-only
returns-in_err-copy_of-clause-only c = λ a h e. search rules

pub returns-in_err-of-clause-only : goal.returns-in_err-of-clause-only
returns-in_err-of-clause-only c = λ a h e. search rules
