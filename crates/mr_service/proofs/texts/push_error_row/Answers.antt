use Rattle.std.proofs.Common.{ℕ, ◌≡◌, ◌∙◌, ap, sym, not, [], ◌∷◌, ◌++◌}
use Rattle.std.specs.Prelude.{◌==◌}
use Rattle.std.specs.String.{string_bytes}
use Rattle.mr_model.specs.Texts.{Text}
use Rattle.mr_model.specs.Calendar.{date_text}
use Rattle.mr_model.specs.Writes.{id_text}
use Rattle.mr_model.specs.Replies.{mark, span}
use Rattle.mr_model.specs.Queries.{error_id}
use Rattle.mr_model.specs.Tables.{ErrorRow}
use Rattle.mr_service.proofs.LineLists.{line_of_three, on_ok}
use Rattle.mr_service.proofs.texts.push_error_row.Goals as goal

pub returns : goal.returns
returns c =
    let r : ErrorRow = c.args.row.now in
    let start : c.new-start.result ≡ r.start = c.new-start.ensures ∙ ap (λ (x : ErrorRow). x.start) c.row.view_is in
    let stop : c.new-stop.result ≡ r.stop = c.new-stop.ensures ∙ ap (λ (x : ErrorRow). x.stop) c.row.view_is in
    let title : c.as_str-title.result.now ≡ r.title = c.as_str-title.ensures.text ∙ ap (λ (x : ErrorRow). x.title) c.row.view_is in
    let m : ErrorRow → Text = λ x. mark (not (x.seq == 0)) in
    let slot : ErrorRow → ℕ → ℕ → Text → Text = λ x from to t. date_text x.day ++ 32 ∷ (span from to ++ 32 ∷ t) in
    on_ok c.write.result _ _
    (λ h. h ∙ (λ i. string_bytes c.args.text.now ++ (m (c.row.view_is i) ++ 32 ∷ (id_text (c.id-id.ensures i) ++ 32 ∷ (slot (c.row.view_is i) (start i) (stop i) (title i) ++ 10 ∷ []))))
    ∙ ap (λ t. string_bytes c.args.text.now ++ t) (sym (line_of_three (m r) (id_text (error_id r)) (slot r r.start r.stop r.title))))
    c.write.ensures.bytes
