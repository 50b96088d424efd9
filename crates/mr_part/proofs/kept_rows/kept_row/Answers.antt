use Rattle.std.proofs.Common.{◌∙◌, sym, subst, Ok}
use Rattle.mr_base.specs.Answers.{OrOutOfMemory}
use Rattle.mr_part.specs.KeptRows.{kept_row_with}
use Rattle.mr_part.specs.WithoutChoices.{is_of_row}
use Rattle.mr_tables.proofs.LogRows.{refused, answered}
use Rattle.mr_part.proofs.KeptReading.{own_row}
use Rattle.mr_part.proofs.kept_rows.kept_row.Goals as goal

pub returns-in-Ok-clause-read : goal.returns-in-Ok-clause-read
returns-in-Ok-clause-read c = λ w place seq ok e.
    let write = answered c.in-Ok.write w (c.in-Ok.ensures.read w place seq ok e) in
    let made = c.kept_of.ensures.kept ((λ i. is_of_row (write i) (e i)) ∙ own_row w place seq) ∙ (λ i. Ok (kept_row_with (write i) (e i).seq (e i).place)) in
    subst (λ r. OrOutOfMemory r (Ok (kept_row_with w seq place))) (sym made) (λ _. Ok (kept_row_with w seq place))

pub returns-in-Err-clause-read : goal.returns-in-Err-clause-read
returns-in-Err-clause-read c = λ w place seq ok e. refused w (kept_row_with w seq place) c.in-Err.refusal (c.in-Err.ensures.read w place seq ok e)
