use Rattle.std.proofs.Common.{cond, false, sym, ap, ◌∙◌}
use Rattle.std.proofs.lemmas.Bool.{true≢false}
use Rattle.mr_replica.specs.Journal.{is_going, rows_but}
use Rattle.mr_replica.proofs.Journals.{at_id, but_none, none_going, take_but}
use Rattle.mr_replica.proofs.journal.take_going.Goals as goal

pub loop-id-preserved : goal.loop-id-preserved
loop-id-preserved g c =
    let id = g.R.IdRow.id in
    let i = c.in-Some.id in
    let left = c.loop-id.left in
    let next = c.pop_first.new.self in
    ap (rows_but id (is_going next)) (c.forget.ensures ∙ c.take-row.ensures.rows)
    ∙ take_but id (is_going left) (is_going next) i c.loop-id.table.rows c.in-Some.ensures.member
    (λ j. c.in-Some.ensures.updates.0 j ∙ ap (λ b. cond b false (is_going left j)) (at_id i j))
    ∙ c.loop-id.invariant

pub returns : goal.returns
returns g c =
    sym (but_none g.R.IdRow.id (is_going c.loop-id.left) c.loop-id.table.rows (none_going c.loop-id.left (λ some. true≢false (sym (c.in_default.ensures.variant.1 some)))))
    ∙ c.loop-id.invariant
