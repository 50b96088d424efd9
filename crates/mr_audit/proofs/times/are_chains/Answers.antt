use Rattle.std.proofs.Common.{◌∙◌, ◌↔◌, ap, subst, List, IsTrue}
use Rattle.mr_model.specs.Tables.{Tables, LogRow, ErrorRow, CancelRow}
use Rattle.mr_tables.specs.Rise.{Rise}
use Rattle.mr_tables.proofs.Rising.{both}
use Rattle.mr_agree.specs.Agreeing.{log_note, error_note, cancel_note}
use Rattle.mr_audit.specs.Turns.{comes_before}
use Rattle.mr_audit.proofs.times.are_chains.Goals as goal

pub returns : goal.returns
returns c =
    let log = subst (λ (rows : List LogRow). IsTrue c.is_chain-log.result ↔ Rise comes_before log_note rows)
    (c.deref.ensures.value ∙ ap (λ (t : Tables). t.log) c.tables.view_is) c.is_chain-log.ensures in
    let errors = subst (λ (rows : List ErrorRow). IsTrue c.is_chain-errors.result ↔ Rise comes_before error_note rows)
    (c.deref-2.ensures.value ∙ ap (λ (t : Tables). t.errorlog) c.tables.view_is) c.is_chain-errors.ensures in
    let cancels = subst (λ (rows : List CancelRow). IsTrue c.is_chain-cancels.result ↔ Rise comes_before cancel_note rows)
    (c.deref-3.ensures.value ∙ ap (λ (t : Tables). t.cancels) c.tables.view_is) c.is_chain-cancels.ensures in
    let all = both (both log errors) cancels in
    (λ t. let p = all.0 t in record { log = p.0.0; errorlog = p.0.1; cancels = p.1 }, λ k. all.1 ((k.log, k.errorlog), k.cancels))
