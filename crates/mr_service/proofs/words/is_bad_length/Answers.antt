use Rattle.std.proofs.Common.{◌∙◌, ap, sym, ◌&&◌}
use Rattle.std.specs.Prelude.{decimal}
use Rattle.std.specs.Str.{bytes_eq}
use Rattle.mr_model.specs.Texts.{Text, within, number_in, only_if}
use Rattle.mr_model.specs.Step.{Submission}
use Rattle.mr_service.specs.Asked.{submission_of}
use Rattle.mr_service.proofs.WordsRead as words
use Rattle.mr_service.proofs.words.is_bad_length.Goals as goal

pub returns-in-None : goal.returns-in-None
returns-in-None c =
    words.length_none (submission_of c.args.words.now)
    (ap (λ (t : Text). only_if (within 1 1440 (number_in t) && bytes_eq (decimal (number_in t)) t) (number_in t)) (sym c.as_str.ensures.value)
    ∙ sym c.read_number.ensures.value ∙ c.in-None.is)

pub returns-in-Some : goal.returns-in-Some
returns-in-Some c =
    let s : Submission = submission_of c.args.words.now in
    words.length_bad s c.args.latest c.in-Some.length c.requires
    (ap (λ (t : Text). only_if (within 1 1440 (number_in t) && bytes_eq (decimal (number_in t)) t) (number_in t)) (sym c.as_str.ensures.value)
    ∙ sym c.read_number.ensures.value ∙ c.in-Some.is)
