use Rattle.std.proofs.Common.{ℕ, ◌≡◌, ◌∙◌, ap, sym, [], ◌∷◌, ◌++◌}
use Rattle.std.specs.String.{string_bytes}
use Rattle.mr_model.specs.Texts.{Text}
use Rattle.mr_model.specs.Calendar.{time_text}
use Rattle.mr_model.specs.Writes.{id_text}
use Rattle.mr_model.specs.Replies.{mark}
use Rattle.mr_model.specs.Queries.{booking_id}
use Rattle.mr_model.specs.Tables.{BookingRow}
use Rattle.mr_service.proofs.LineLists.{line_of_three, on_ok}
use Rattle.mr_service.proofs.texts.push_sheet_row.Goals as goal

pub returns : goal.returns
returns c =
    let r : BookingRow = c.args.row.now in
    let start : c.new-start.result ≡ r.start = c.new-start.ensures ∙ ap (λ (x : BookingRow). x.start) c.row.view_is in
    let stop : c.new-stop.result ≡ r.stop = c.new-stop.ensures ∙ ap (λ (x : BookingRow). x.stop) c.row.view_is in
    let title : c.as_str-title.result.now ≡ r.title = c.as_str-title.ensures.text ∙ ap (λ (x : BookingRow). x.title) c.row.view_is in
    let behind : ℕ → ℕ → Text → Text = λ from to t. string_bytes c.args.text.now ++ (time_text from ++ 45 ∷ (time_text to ++ 32 ∷ t)) in
    on_ok c.write.result _ _
    (λ h. h ∙ (λ i. behind (start i) (stop i) (mark (c.row.view_is i).committed ++ 32 ∷ (id_text (c.id-id.ensures i) ++ 32 ∷ (title i ++ 10 ∷ []))))
    ∙ ap (behind r.start r.stop) (sym (line_of_three (mark r.committed) (id_text (booking_id r)) r.title)))
    c.write.ensures.bytes
