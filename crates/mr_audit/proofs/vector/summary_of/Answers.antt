use Rattle.std.proofs.Common.{◌∙◌, ap, subst, sym, [], List, length}
use Rattle.mr_model.specs.Texts.{numbers_on}
use Rattle.mr_model.specs.Tables.{Tables, VectorRow}
use Rattle.mr_tables.specs.declared.summary.Summary.{Summary}
use Rattle.mr_tables.specs.declared.summary.Tally.{Tally}
use Rattle.mr_audit.specs.Tallies.{TellTheVector}
use Rattle.mr_audit.proofs.Vectors.{none_told}
use Rattle.mr_audit.proofs.vector.summary_of.Goals as goal

pub returns : goal.returns
returns c =
    let tallies = ap (λ (s : Summary). s.tallies) c.new-summary.ensures in
    let rows = c.deref.ensures.value ∙ ap (λ (t : Tables). t.vector) c.tables.view_is in
    subst (λ (rs : List VectorRow). TellTheVector rs c.note_tallies.new.tallies) rows
    (c.note_tallies.ensures (ap length tallies) (subst (λ (ts : List Tally). TellTheVector [] ts) (sym tallies) (none_told (numbers_on 0 100))))
