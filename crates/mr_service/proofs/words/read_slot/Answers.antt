use Rattle.std.proofs.Common.{◌∙◌, ap, sym}
use Rattle.std.specs.Prelude.{ok_or}
use Rattle.mr_model.specs.Texts.{Text}
use Rattle.mr_model.specs.Calendar.{read_date, read_time}
use Rattle.mr_model.specs.Step.{slot_of}
use Rattle.mr_base.specs.declared.refusals.Refusal.TheVariants.{BadDay, BadTime}
use Rattle.mr_service.specs.Asked.{words_of}
use Rattle.mr_service.proofs.WordsRead as words
use Rattle.mr_service.proofs.words.read_slot.Goals as goal

pub returns-in_default : goal.returns-in_default
returns-in_default c =
    words.no_day (words_of c.args.words.now) c.in_default.field-0 (slot_of (words_of c.args.words.now))
    (ap (λ (t : Text). ok_or (read_date t) BadDay) (sym c.as_str.ensures.value) ∙ sym c.read.ensures.value ∙ c.in_default.is)

pub returns-in_default-read_minute : goal.returns-in_default-read_minute
returns-in_default-read_minute c =
    words.no_time (words_of c.args.words.now) c.in-Ok.day c.in_default-read_minute.field-0 (slot_of (words_of c.args.words.now))
    (ap (λ (t : Text). ok_or (read_date t) BadDay) (sym c.as_str.ensures.value) ∙ sym c.read.ensures.value ∙ c.in-Ok.is)
    (ap (λ (t : Text). ok_or (read_time t) BadTime) (sym c.as_str-2.ensures.value) ∙ sym c.read_minute.ensures.value ∙ c.in_default-read_minute.is)

pub returns : goal.returns
returns c =
    c.new.ensures
    ∙ words.slot_read (words_of c.args.words.now) c.in-Ok.day c.in-Ok-read_minute.start
    (ap (λ (t : Text). ok_or (read_date t) BadDay) (sym c.as_str.ensures.value) ∙ sym c.read.ensures.value ∙ c.in-Ok.is)
    (ap (λ (t : Text). ok_or (read_time t) BadTime) (sym c.as_str-2.ensures.value) ∙ sym c.read_minute.ensures.value ∙ c.in-Ok-read_minute.is)
    c.in-Ok-read_minute.ensures.written.0
