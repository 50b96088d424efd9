use Rattle.std.proofs.Common.{◌∙◌, ap, sym, subst, ℕ, ◌+◌, ◌<◌, ◌-◌, List, length, drop, set, arith}
use Rattle.std.proofs.lemmas.List.{length-set}
use Rattle.mr_model.specs.Tables.{VectorRow}
use Rattle.mr_tables.specs.declared.summary.Tally.{Tally}
use Rattle.mr_tables.specs.Tallied.{row_tally}
use Rattle.mr_tables.proofs.Tallying.{server_small}
use Rattle.mr_audit.specs.Tallies.{TellTheVector}
use Rattle.mr_audit.proofs.Vectors.{note_before}
use Rattle.mr_audit.proofs.vector.note_tallies.Goals as goal

pub loop-k-preserved : goal.loop-k-preserved
loop-k-preserved c = λ long told.
    let row = c.index-rows-rows.result in
    let ts = c.loop-k.tallies in
    let so_far = c.loop-k.invariant long told in
    let server = c.number.ensures.value ∙ ap (λ (r : VectorRow). r.server) c.row.view_is in
    let small = subst (λ (n : ℕ). n < 100) server (server_small c.number.result c.number.ensures.in_range) in
    let within : row.server < length ts = omega (arith, small, so_far.0) in (
      length-set ts c.number.result _ ∙ so_far.0,
      subst (λ (new : List Tally). TellTheVector (drop (length c.args.rows.now - (c.loop-k.k + 1)) c.args.rows.now) new)
          (sym (λ i. set ts (server i) (row_tally (c.row.view_is i))))
          (note_before c.args.rows.now c.loop-k.k row ts c.loop-k-test.true c.index-rows-rows.is within so_far.1),
    )
