use Rattle.std.proofs.Common.{[], sym, ap, ◌∙◌}
use Rattle.mr_tables.specs.Change.{changed}
use Rattle.mr_tables.specs.Written.{with_places}
use Rattle.mr_part.proofs.calls.changes.no_change.Goals as goal
use Rattle.mr_model.proofs.Lists.{filter_true}

pub returns : goal.returns
returns c = λ t meta.
    ap (λ x. changed x t) (c.empty.ensures ∙ (λ i. with_places (sym meta i) (c.new.ensures.items i) (c.new-2.ensures.items i) [] []))
    ∙ (λ i. record t {
      log = filter_true t.log i;
      booking = filter_true t.booking i;
      errorlog = filter_true t.errorlog i;
      cancelled = filter_true t.cancelled i;
    })
