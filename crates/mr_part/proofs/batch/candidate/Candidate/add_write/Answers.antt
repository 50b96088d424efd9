use Rattle.std.proofs.Common.{◌∙◌, cond, Some, ap}
use Rattle.mr_model.specs.Replay.{Logged}
use Rattle.mr_model.specs.Writes.{Write, id_of}
use Rattle.mr_replay.proofs.IdKeys.{at_is}
use Rattle.mr_tables.proofs.LogRows.{answered}
use Rattle.mr_part.specs.KeptRows.{kept_row_with}
use Rattle.mr_part.specs.KeptWrites.{logged_at}
use Rattle.mr_part.proofs.batch.candidate.Candidate.add_write.Goals as goal

pub returns-clause-kept : goal.returns-clause-kept
returns-clause-kept c = λ id.
    let copied = answered c.in_ok-write.write c.args.write.now c.in_ok-write.ensures in
    let key = c.id.ensures ∙ ap id_of c.write-2.view_is ∙ ap id_of copied in
    let row = c.kept_with.ensures ∙ ap (λ (w : Write). kept_row_with w 0 Logged) copied in
    c.in_ok-insert.ensures.updates.0 id ∙ (λ t. cond (at_is t (key t) id) (Some (row t)) (logged_at c.args.self.now.kept id))
