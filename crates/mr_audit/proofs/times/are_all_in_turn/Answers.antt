use Rattle.std.proofs.Common.{sym, ◌∙◌}
use Rattle.std.proofs.lemmas.Bool.{true≢false, false_from_ne_true}
use Rattle.mr_audit.specs.Turns.{are_all_in_turn}
use Rattle.mr_audit.proofs.TablesInTurn.{chains_in_order, turn_chains, tables_fitting}
use Rattle.mr_audit.proofs.times.are_all_in_turn.Goals as goal

pub returns-then-not-are_chains : goal.returns-then-not-are_chains
returns-then-not-are_chains c =
    let t = c.args.tables.now in
    sym (false_from_ne_true (are_all_in_turn t) (λ e. true≢false (sym (c.are_chains.ensures.1 (turn_chains t c.requires e)) ∙ c.if-not-are_chains.true)))

pub are_tables_fitting-requires : goal.are_tables_fitting-requires
are_tables_fitting-requires c = chains_in_order c.args.tables.now (c.are_chains.ensures.0 c.if-not-are_chains.false)

pub returns : goal.returns
returns c = c.are_tables_fitting.ensures ∙ tables_fitting c.args.tables.now (chains_in_order c.args.tables.now (c.are_chains.ensures.0 c.if-not-are_chains.false))
