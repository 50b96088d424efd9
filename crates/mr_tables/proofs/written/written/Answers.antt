use Rattle.std.proofs.Common.{◌≡◌, ◌∙◌, ◌+◌, min, sym, arith}
use Rattle.mr_tables.specs.Written.{meta_of, with_write_rows}
use Rattle.mr_tables.proofs.Adding.{written-more}
use Rattle.mr_tables.proofs.written.written.Goals as goal

pub loop-k-preserved : goal.loop-k-preserved
loop-k-preserved c = λ small.
    let k = c.loop-k.k in
    let test = c.loop-k-test.true in
    let write = c.index-writes-k.result in
    let row = c.index-rows-k.result in
    let by = c.index-bys-k.result in
    let n : min (c.args.first + k) 18446744073709551615 ≡ c.args.first + k = omega arith in
    let number = c.saturating_add-number.ensures ∙ n in
    let so_far = c.loop-k.invariant small in
    c.in_ok-add_rows.ensures.rows
    ∙ (λ i. with_write_rows (so_far i) c.args.summary.now.commits (number i) write row by)
    ∙ written-more (meta_of c.args.summary.now) c.args.room.items c.args.vector.items c.args.summary.now.commits c.args.first k c.args.writes.now
    c.args.rows.now c.args.bys.now write row by (sym c.requires.0) (sym c.requires.1) (omega arith) c.index-writes-k.is c.index-rows-k.is c.index-bys-k.is
