use Rattle.std.proofs.Common.{◌∙◌, ap, sym, subst, Ok}
use Rattle.mr_model.specs.Writes.{Books, Cancels}
use Rattle.mr_model.specs.Tables.{LogRow}
use Rattle.mr_model.proofs.UniqueReplay.{some_inj}
use Rattle.mr_base.specs.Answers.{OrOutOfMemory}
use Rattle.mr_tables.specs.Cells.{action_cells}
use Rattle.mr_tables.proofs.LogRows.{stamp_of_row, stamp_within, booking_told, cancel_told, meeting_within, again}
use Rattle.mr_tables.proofs.reading.write_of.Goals as goal

pub returns-in-OfMeeting-clause-read : goal.returns-in-OfMeeting-clause-read
returns-in-OfMeeting-clause-read c = λ w place seq ok e.
    let view = c.row.view_is ∙ e in
    let stamp_is = stamp_of_row w place seq _ view in
    let stamp = some_inj _ _ (sym c.in-Some.is ∙ c.stamp_of.ensures.made (stamp_within w _ ok stamp_is)) ∙ stamp_is in
    let told = booking_told w c.in-OfMeeting.cells (sym (ap action_cells c.in-OfMeeting.is) ∙ ap (λ (r : LogRow). r.action) view) in
    let same = again w place seq _ c.in-Some.stamp (Books told.meeting) view stamp told.books in
    subst (λ v. OrOutOfMemory c.booking_of.result (Ok v)) same (c.booking_of.ensures.read told.meeting (meeting_within w told.meeting ok told.books) told.are)

pub returns-in-OfCancel-clause-read : goal.returns-in-OfCancel-clause-read
returns-in-OfCancel-clause-read c = λ w place seq ok e.
    let view = c.row.view_is ∙ e in
    let stamp_is = stamp_of_row w place seq _ view in
    let stamp = some_inj _ _ (sym c.in-Some.is ∙ c.stamp_of.ensures.made (stamp_within w _ ok stamp_is)) ∙ stamp_is in
    let told = cancel_told w c.in-OfCancel.target (sym (ap action_cells c.in-OfCancel.is) ∙ ap (λ (r : LogRow). r.action) view) in
    let same = again w place seq _ c.in-Some.stamp (Cancels c.in-OfCancel.target) view stamp told in
    subst (λ v. OrOutOfMemory c.cancel_of.result (Ok v)) same c.cancel_of.ensures
