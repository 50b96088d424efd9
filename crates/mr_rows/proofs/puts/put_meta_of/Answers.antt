use Rattle.std.proofs.Common.{IsTrue, refl, subst}
use Rattle.sqlite_tied.specs.Compute.{everything}
use Rattle.sqlite.specs.Listing.{understood}
use Rattle.sqlite.specs.State.{HasCleanDisk}
use Rattle.sqlite.specs.Held.{state}
use Rattle.mr_model.specs.Tables.{MetaRow}
use Rattle.mr_rows.specs.Schema.{IsOfTwo}
use Rattle.mr_rows.specs.Form.{meta_form_of}
use Rattle.mr_rows.specs.TableSteps.{PutsRow}
use Rattle.mr_rows.proofs.TableFacts.{meta_facts, meta_facts_first}
use Rattle.mr_rows.proofs.StatementLemmas.{under_two, puts_row}
use Rattle.mr_rows.proofs.puts.put_meta_of.Goals as goal
use Rattle.mr_rows.specs.Facts.{Puts}

pub returns-clause-put : goal.returns-clause-put
unfolding understood everything meta_facts meta_facts_first
returns-clause-put g c =
    let old = c.args.tx.now.conn.now in
    let new = c.execute.new.self.conn.now in
    let number = c.args.schema in
    let meta : MetaRow = record { server = c.row.inside.server; primary = c.row.inside.primary; commits = c.row.inside.commits; dropped = c.row.inside.dropped; clock = c.row.inside.clock } in
    let ran = λ (clean : HasCleanDisk (state g.S.Store new)) (within : IsTrue old.in_transaction). (rw (
      c.params-to_sql.ensures,
      c.params-to_sql-2.ensures,
      c.params-to_sql-3.ensures,
      c.params-to_sql-4.ensures,
      c.params-to_sql-5.ensures,
      c.params-to_sql-6.ensures,
      c.params-to_sql-7.ensures,
      c.number.ensures.value,
      c.number-2.ensures.value,
      c.in_ok-commits.ensures.value,
      c.in_ok-dropped.ensures.value,
      c.in_ok-clock.ensures.value,
    ) at (c.execute.ensures.runs clean within)) in
    subst (λ row. PutsRow IsOfTwo (meta_form_of number) row (state g.S.Store old) (state g.S.Store new) c.execute.result) c.row.view_is
    (puts_row g.S.Store (meta_form_of number) old new _ c.execute.result IsOfTwo meta
    (under_two (λ s. Puts s (meta_form_of number) _) (record { facts = meta_facts number; means = (refl, (refl, refl)) })
    (record { facts = meta_facts_first number; means = (refl, (refl, refl)) })) (λ _. refl) ran (λ outside. (c.execute.ensures.ended outside).1))
