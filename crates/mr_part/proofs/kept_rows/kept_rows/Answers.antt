use Rattle.std.proofs.Common.{◌≡◌, ◌∙◌, ◌++◌, ◌∷◌, [], length, get_or, map, ap, sym, arith}
use Rattle.std.proofs.lemmas.List.{length-map, map-append, take_all}
use Rattle.mr_model.specs.View.{place_of}
use Rattle.mr_model.specs.Tables.{kept, seq_of, log_row}
use Rattle.mr_part.specs.KeptRows.{kept_row}
use Rattle.mr_part.specs.WithoutChoices.{without_choices, kept_without_choices}
use Rattle.mr_tables.proofs.LogRows.{answered, never_refused}
use Rattle.mr_part.proofs.KeptReading.{read_at, kept_within, all_read, told_more}
use Rattle.mr_part.proofs.kept_rows.kept_rows.Goals as goal

pub returns-in-Err-clause-only : goal.returns-in-Err-clause-only
returns-in-Err-clause-only c = λ a h logs.
    let k = c.loop-log.log-index in
    let long : length c.args.logs.now ≡ length (kept a) = ap length logs ∙ length-map (kept a) (log_row a) in
    let test = c.loop-log-test.true in
    let x = c.log-item.result in
    let one = read_at (log_row a) (kept_row a) (kept a) k x (omega arith) (c.log-item.is ∙ ap (λ rows. get_or rows k x) logs) in
    never_refused (kept_row a one.write) c.in-Err.refusal (c.in-Err.ensures.read one.write (place_of a one.write) (seq_of a one.write) (kept_within a one.write h one.has) one.row)

pub loop-log-preserved : goal.loop-log-preserved
loop-log-preserved c =
    let k = c.loop-log.log-index in
    let x = c.log-item.result in
    let test = c.loop-log-test.true in (
      λ a h logs.
          let long : length c.args.logs.now ≡ length (kept a) = ap length logs ∙ length-map (kept a) (log_row a) in
          let one = read_at (log_row a) (kept_row a) (kept a) k x (omega arith) (c.log-item.is ∙ ap (λ rows. get_or rows k x) logs) in
          let row = answered c.in-Ok.row (kept_row a one.write) (c.in-Ok.ensures.read one.write (place_of a one.write) (seq_of a one.write) (kept_within a one.write h one.has) one.row) in
          c.in_ok-push-in-Ok.ensures.items ∙ (λ i. c.loop-log.invariant.0 a h logs i ++ row i ∷ []) ∙ sym one.more,
      ap (map kept_without_choices) c.in_ok-push-in-Ok.ensures.items ∙ map-append kept_without_choices c.loop-log.rows.items (c.in-Ok.row ∷ [])
          ∙ (λ i. c.loop-log.invariant.1 i ++ c.in-Ok.ensures.told i ∷ []) ∙ sym (told_more c.args.logs.now k x test c.log-item.is),
    )

pub returns-clause-rows : goal.returns-clause-rows
returns-clause-rows c = λ a h logs.
    c.loop-log.invariant.0 a h logs ∙ all_read (log_row a) (kept_row a) (kept a) c.loop-log.log-index c.args.logs.now logs c.loop-log-test.false

pub returns-clause-told : goal.returns-clause-told
returns-clause-told c = c.loop-log.invariant.1 ∙ ap (map without_choices) (take_all c.loop-log.log-index c.args.logs.now c.loop-log-test.false)
