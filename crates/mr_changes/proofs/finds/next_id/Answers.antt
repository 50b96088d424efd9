use Rattle.std.proofs.Common.{List, ◌∙◌, subst, rules, w64, SFits}
use Rattle.std.proofs.lemmas.Int.{to_z-of_z}
use Rattle.sqlite_value.specs.Order.{Row}
use Rattle.sqlite_value.proofs.OrderLemmas.{value_cmp-Int}
use Rattle.sqlite_trees.specs.Tree.{IsTable}
use Rattle.sqlite_rules.specs.Lists.{Has}
use Rattle.sqlite_keyed.proofs.KeyedLemmas.{Less-from_lt}
use Rattle.mr_changes.proofs.FindLemmas.{behind_last}
use Rattle.mr_changes.proofs.finds.next_id.Goals as goal

pub returns-in-Some-clause-above : goal.returns-in-Some-clause-above
returns-in-Some-clause-above g c clean up r here =
    let last = rw c.if-not-branch.false at (c.in_ok-last.ensures.ok clean) in
    let id = c.in-Some.ensures in
    let fits : SFits w64 c.in-Some.id = search rules in
    rw (to_z-of_z w64 c.in-Some.id fits)
    (behind_last last.0 c.last.new.row id.0 c.in-Some.id (subst IsTable last.1 up) id.1 (value_cmp-Int _ _ ∙ Less-from_lt _ _ id.2) r (subst (λ (rows : List Row). Has rows r) last.1 here))
