use Rattle.std.proofs.Common.{◌≡◌, ◌∙◌, ap, sym, subst, ◌&&◌, List, map, Some}
use Rattle.std.proofs.lemmas.Bool.{true≢false, or_parts}
use Rattle.std.proofs.lemmas.Simd.{map-map}
use Rattle.std.specs.Prelude.{decimal}
use Rattle.std.specs.List.{list_any}
use Rattle.std.specs.Str.{bytes_eq}
use Rattle.mr_model.specs.Texts.{Text, within, number_in, only_if}
use Rattle.mr_model.specs.Step.{Submission, slot_of}
use Rattle.mr_base.specs.Answers.{OrOutOfMemory}
use Rattle.mr_base.specs.Limits as base
use Rattle.mr_service.specs.declared.commands.SlotWords.{SlotWords}
use Rattle.mr_service.specs.Asked.{words_of, submission_of}
use Rattle.mr_service.specs.SubmittedWords.{lacks_day, lacks_time}
use Rattle.mr_service.proofs.WordsRead as words
use Rattle.mr_service.proofs.words.make_request.Goals as goal

pub returns-in_default : goal.returns-in_default
returns-in_default c =
    let s : Submission = submission_of c.args.words.now in
    absurd (true≢false (words.length_none s
    (ap (λ (t : Text). only_if (within 1 1440 (number_in t) && bytes_eq (decimal (number_in t)) t) (number_in t)) (sym c.as_str.ensures.value)
    ∙ sym c.read_number.ensures.value ∙ c.in_default.is)
    ∙ (words.faultless s c.requires).minutes))

pub returns-in_err-wish : goal.returns-in_err-wish
returns-in_err-wish c =
    let s : Submission = submission_of c.args.words.now in
    let no = words.faultless s c.requires in
    absurd (words.no_refusal s.wish (slot_of s.wish) c.in_err-wish.field-0.0
    (or_parts (lacks_day s.wish) (list_any lacks_day s.alternatives) no.days).0
    (or_parts (lacks_time s.wish) (list_any lacks_time s.alternatives) no.times).0 (sym c.in_err-wish.ensures))

pub read_slots-requires-clause-days : goal.read_slots-requires-clause-days
read_slots-requires-clause-days c =
    let s : Submission = submission_of c.args.words.now in
    ap (λ (ws : List SlotWords). list_any (λ w. lacks_day (words_of w)) ws) c.as_slice.ensures.value
    ∙ words.any-map lacks_day words_of c.args.words.now.alternatives.items
    ∙ (or_parts (lacks_day s.wish) (list_any lacks_day s.alternatives) (words.faultless s c.requires).days).1

pub read_slots-requires-clause-times : goal.read_slots-requires-clause-times
read_slots-requires-clause-times c =
    let s : Submission = submission_of c.args.words.now in
    ap (λ (ws : List SlotWords). list_any (λ w. lacks_time (words_of w)) ws) c.as_slice.ensures.value
    ∙ words.any-map lacks_time words_of c.args.words.now.alternatives.items
    ∙ (or_parts (lacks_time s.wish) (list_any lacks_time s.alternatives) (words.faultless s c.requires).times).1

pub returns : goal.returns
returns c =
    let s : Submission = submission_of c.args.words.now in
    let length : only_if (within 1 1440 (number_in s.length) && bytes_eq (decimal (number_in s.length)) s.length) (number_in s.length) ≡ Some c.in-Some.length =
    ap (λ (t : Text). only_if (within 1 1440 (number_in t) && bytes_eq (decimal (number_in t)) t) (number_in t)) (sym c.as_str.ensures.value)
    ∙ sym c.read_number.ensures.value ∙ c.in-Some.is in
    let of_room : Text → Type 0 = λ t. OrOutOfMemory c.of_words.result (base.request_of t c.as_str-title.result.now c.in-Some.length c.in_ok-wish.wish c.from_vec-alternatives.result) in
    let of_title : Text → Type 0 = λ t. OrOutOfMemory c.of_words.result (base.request_of s.room t c.in-Some.length c.in_ok-wish.wish c.from_vec-alternatives.result) in
    words.request_made s c.in_ok-wish.wish c.from_vec-alternatives.result c.in-Some.length c.of_words.result c.requires
    (words.slot_value s.wish c.in_ok-wish.wish (sym c.in_ok-wish.ensures))
    (c.from_vec-alternatives.ensures ∙ c.in_ok-slots.ensures.slots ∙ ap (map (λ w. slot_of (words_of w))) c.as_slice.ensures.value ∙ sym (map-map slot_of words_of c.args.words.now.alternatives.items))
    length
    (subst of_title c.as_str-title.ensures.value (subst of_room c.as_str-room.ensures.value c.of_words.ensures.value))
