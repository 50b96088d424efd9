use Rattle.std.proofs.Common.{◌∙◌, ap, List, map}
use Rattle.mr_model.specs.Texts.{numbers_on}
use Rattle.mr_model.specs.Tables.{MetaRow, VectorRow, Tables}
use Rattle.mr_tables.specs.declared.summary.Summary.{Summary}
use Rattle.mr_tables.specs.Summary.{no_tally}
use Rattle.mr_tables.specs.Tallied.{tallied}
use Rattle.mr_tables.proofs.Tallying.{vector_tells}
use Rattle.mr_tables.proofs.vector.summary_of.Goals as goal

pub returns : goal.returns
returns c = λ a h same_meta same_vector.
    let meta = c.meta.view_is ∙ ap (λ (t : Tables). t.meta) c.tables.view_is ∙ same_meta in
    let server = ap (λ (s : Summary). s.server) c.new-summary.ensures ∙ ap (λ (m : MetaRow). m.server) meta in
    let primary = ap (λ (s : Summary). s.primary) c.new-summary.ensures ∙ ap (λ (m : MetaRow). m.primary) meta in
    let rows = c.deref.ensures.value ∙ ap (λ (t : Tables). t.vector) c.tables.view_is ∙ same_vector in
    let tallies =
    c.note_tallies.ensures (λ s. no_tally) (ap (λ (s : Summary). s.tallies) c.new-summary.ensures)
    ∙ ap (λ (rs : List VectorRow). map (tallied rs (λ s. no_tally)) (numbers_on 0 100)) rows ∙ vector_tells a h in
    λ i. record {
      server = server i;
      primary = primary i;
      commits = (meta i).commits;
      dropped = (meta i).dropped;
      clock = (meta i).clock;
      tallies = tallies i;
    }
