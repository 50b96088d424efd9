use Rattle.std.proofs.Common.{◌∙◌, ◌&&◌, ap, List}
use Rattle.std.specs.List.{list_all}
use Rattle.mr_model.specs.Tables.{Tables, BookingRow}
use Rattle.mr_agree.specs.Agreeing.{are_rows_apart}
use Rattle.mr_audit.specs.Apart.{is_positive}
use Rattle.mr_audit.proofs.PartsTell.{positive}
use Rattle.mr_audit.proofs.agreeing.do_sorted_parts_agree.Goals as goal

pub returns-clause-agree : goal.returns-clause-agree
returns-clause-agree c =
    let rows = c.deref.ensures.value ∙ ap (λ (t : Tables). t.booking) c.tables.view_is in
    let apart = c.in_ok-apart.ensures.apart (ap (λ (bs : List BookingRow). list_all is_positive bs) rows ∙ positive c.args.tables.now c.requires) ∙ ap are_rows_apart rows in
    λ i. apart i && c.in_ok-single.ensures.single i
