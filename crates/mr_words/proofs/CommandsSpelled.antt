-- A command that was read off the words of a row is spelled in just these words.
use Rattle.std.proofs.Common.{◌≡◌, refl, sym, ap, subst, ◌∙◌, ℕ, Bool, true, false, ◌&&◌, leb, List, [], ◌∷◌, Some, None}
use Rattle.std.specs.Prelude.{codes, decimal}
use Rattle.std.specs.Str.{bytes_eq}
use Rattle.std.proofs.lemmas.Bool.{and_parts}
use Rattle.std.proofs.lemmas.Option.{none-some, same_Some}
use Rattle.std.proofs.lemmas.Slice.Eq.{bytes_eq-Decides}
use Rattle.mr_model.specs.Texts.{Text, within, number_in}
use Rattle.mr_model.specs.Replies.{CalendarPart, Full, Committed, part_text}
use Rattle.mr_model.specs.View.{AskSheet, AskCalendar, AskOutcome, AskErrors}
use Rattle.mr_model.specs.Step.{Command, AddRoom, Submit, Cancel, Commit, Truncate, AskPosition}
use Rattle.mr_model.specs.Step as step
use Rattle.mr_model.proofs.BatchesReadBack.{only_if_some}
use Rattle.mr_base.specs.Readings.{number_from_to}
use Rattle.mr_wire.proofs.FieldLaws.{bind_some}
use Rattle.mr_words.specs.CommandNames.{cancel_name, commit_name, truncate_name, position_name, sheet_name, calendar_name, outcome_name, errors_name}
use Rattle.mr_words.specs.CommandTable.{commit_number_in, part_in, cancel_asked, commit_asked, truncation_asked, position_asked}
use Rattle.mr_words.specs.CommandTable.{sheet_asked, calendar_asked, outcome_asked, errors_asked, shared_commands}
use Rattle.mr_words.specs.CommandSpelling.{spelled, may_be_spelled}
use Rattle.mr_words.proofs.TableRows.{EachRow, if_some}

-- ---- single words

-- a number that was read is within its range, and is written so
pub number_from_parts : (low high : ℕ) (t : Text) (n : ℕ) → number_from_to low high t ≡ Some n → (within low high n ≡ true) × (t ≡ decimal n)
number_from_parts low high t n e =
    let o = only_if_some (within low high (number_in t) && bytes_eq (decimal (number_in t)) t) (number_in t) n e in
    let tests = and_parts (within low high (number_in t)) (bytes_eq (decimal (number_in t)) t) o.0 in
    (sym (ap (within low high) o.1) ∙ tests.0, sym ((bytes_eq-Decides (decimal (number_in t)) t).0 tests.1) ∙ ap decimal o.1)

-- a part of a calendar is named by its word
part_parts : (t : Text) (part : CalendarPart) → part_in t ≡ Some part → t ≡ part_text part
part_parts t part e =
    if_some (bytes_eq t (codes "full")) (Some Full) _ part e
    (λ is f. (bytes_eq-Decides t (codes "full")).0 is ∙ ap part_text (same_Some Full part f))
    (λ _ f. if_some (bytes_eq t (codes "committed")) (Some Committed) None part f
    (λ is g. (bytes_eq-Decides t (codes "committed")).0 is ∙ ap part_text (same_Some Committed part g))
    (λ _ g. absurd (none-some part g)))

-- ---- commands

-- the command is none of those whose words differ in scripts
abbrev pub is_shared : Command → Bool
is_shared (AddRoom room) = false
is_shared (Submit s) = false
is_shared _ = true

-- the command is spelled so
pub record IsSpelled (name : Text) (words : List Text) (command : Command) : Type 0 where
  pub so : (name, words) ≡ spelled command
  pub may_be : may_be_spelled command ≡ true
  pub shared : is_shared command ≡ true

-- the command that was made of the words is the one that was read
read_as : (name : Text) (words : List Text) (made command : Command) → Some made ≡ Some command → IsSpelled name words made → IsSpelled name words command
read_as name words made command e = subst (IsSpelled name words) (same_Some made command e)

cancel_spelled : (words : List Text) (c : Command) → cancel_asked words ≡ Some c → IsSpelled cancel_name words c
cancel_spelled [] c e = absurd (none-some c e)
cancel_spelled (w ∷ []) c e = absurd (none-some c e)
cancel_spelled (room ∷ id ∷ []) c e = read_as _ _ (Cancel room id) c e (record { so = refl; may_be = refl; shared = refl })
cancel_spelled (w ∷ v ∷ u ∷ ws) c e = absurd (none-some c e)

commit_spelled : (words : List Text) (c : Command) → commit_asked words ≡ Some c → IsSpelled commit_name words c
commit_spelled [] c e = absurd (none-some c e)
commit_spelled (w ∷ []) c e =
    let (n, is, last) = bind_some (commit_number_in w) (λ n. Some (Commit n)) c e in
    let number = number_from_parts 0 999_999_999_999 w n is in
    read_as _ _ (Commit n) c last (record {
      so = ap (λ (t : Text). (commit_name, t ∷ [])) number.1;
      may_be = (and_parts (leb 0 n) (leb n 999_999_999_999) number.0).1;
      shared = refl;
    })
commit_spelled (w ∷ v ∷ ws) c e = absurd (none-some c e)

truncation_spelled : (words : List Text) (c : Command) → truncation_asked words ≡ Some c → IsSpelled truncate_name words c
truncation_spelled [] c e = absurd (none-some c e)
truncation_spelled (w ∷ []) c e =
    let (n, is, last) = bind_some (commit_number_in w) (λ n. Some (Truncate n)) c e in
    let number = number_from_parts 0 999_999_999_999 w n is in
    read_as _ _ (Truncate n) c last (record {
      so = ap (λ (t : Text). (truncate_name, t ∷ [])) number.1;
      may_be = (and_parts (leb 0 n) (leb n 999_999_999_999) number.0).1;
      shared = refl;
    })
truncation_spelled (w ∷ v ∷ ws) c e = absurd (none-some c e)

position_spelled : (words : List Text) (c : Command) → position_asked words ≡ Some c → IsSpelled position_name words c
position_spelled [] c e = read_as _ _ AskPosition c e (record { so = refl; may_be = refl; shared = refl })
position_spelled (w ∷ ws) c e = absurd (none-some c e)

sheet_spelled : (words : List Text) (c : Command) → sheet_asked words ≡ Some c → IsSpelled sheet_name words c
sheet_spelled [] c e = absurd (none-some c e)
sheet_spelled (w ∷ []) c e = absurd (none-some c e)
sheet_spelled (room ∷ day ∷ []) c e = read_as _ _ (step.Ask room (AskSheet day)) c e (record { so = refl; may_be = refl; shared = refl })
sheet_spelled (w ∷ v ∷ u ∷ ws) c e = absurd (none-some c e)

calendar_spelled : (words : List Text) (c : Command) → calendar_asked words ≡ Some c → IsSpelled calendar_name words c
calendar_spelled [] c e = absurd (none-some c e)
calendar_spelled (w ∷ []) c e = absurd (none-some c e)
calendar_spelled (room ∷ w ∷ []) c e =
    let (part, is, last) = bind_some (part_in w) (λ p. Some (step.Ask room (AskCalendar p))) c e in
    read_as _ _ (step.Ask room (AskCalendar part)) c last (record {
      so = ap (λ (t : Text). (calendar_name, room ∷ t ∷ [])) (part_parts w part is);
      may_be = refl;
      shared = refl;
    })
calendar_spelled (w ∷ v ∷ u ∷ ws) c e = absurd (none-some c e)

outcome_spelled : (words : List Text) (c : Command) → outcome_asked words ≡ Some c → IsSpelled outcome_name words c
outcome_spelled [] c e = absurd (none-some c e)
outcome_spelled (w ∷ []) c e = absurd (none-some c e)
outcome_spelled (room ∷ id ∷ []) c e = read_as _ _ (step.Ask room (AskOutcome id)) c e (record { so = refl; may_be = refl; shared = refl })
outcome_spelled (w ∷ v ∷ u ∷ ws) c e = absurd (none-some c e)

errors_spelled : (words : List Text) (c : Command) → errors_asked words ≡ Some c → IsSpelled errors_name words c
errors_spelled [] c e = absurd (none-some c e)
errors_spelled (room ∷ []) c e = read_as _ _ (step.Ask room AskErrors) c e (record { so = refl; may_be = refl; shared = refl })
errors_spelled (w ∷ v ∷ ws) c e = absurd (none-some c e)

pub shared_spelled : EachRow IsSpelled shared_commands
shared_spelled =
    (cancel_spelled, (commit_spelled, (truncation_spelled, (position_spelled, (sheet_spelled, (calendar_spelled, (outcome_spelled, (errors_spelled, tt))))))))
