-- Names of rooms that rise, as comparisons say it.
use Rattle.std.proofs.Common.{◌≡◌, ◌∙◌, refl, sym, true, ◌+◌, List, get_or}
use Rattle.std.proofs.lemmas.Bool.{true≢false}
use Rattle.std.proofs.lemmas.Cmp.{nat_list_cmp_total}
use Rattle.std.proofs.lemmas.Slice.Eq.{bytes_eq-Decides}
use Rattle.std.specs.Prelude.{bytes_eq}
use Rattle.std.specs.Cmp.Lexicographic.{slice_cmp}
use Rattle.std.specs.Ordering.{is_lt, nat_cmp, ordering_reverse}
use Rattle.std.specs.declared.cmp.Ordering.{Ordering}
use Rattle.std.specs.declared.cmp.Ordering.TheVariants.{Less, Equal, Greater}
use Rattle.mr_model.specs.Texts.{Text}
use Rattle.mr_model.specs.Replica.{text_before}
use Rattle.mr_tables.specs.Rise.{Rise}
use Rattle.mr_tables.proofs.Naming.{before-cmp}
use Rattle.mr_audit.proofs.Searching.{KeysRise}
use Rattle.mr_replay.proofs.IdKeys.{is_lt-Less}

-- what compares alike both ways
pub itself : (o : Ordering) → o ≡ ordering_reverse o → o ≡ Equal
itself Less e = absurd (true≢false (λ i. is_lt (e i)))
itself Equal e = refl
itself Greater e = absurd (true≢false (λ i. is_lt (sym e i)))

pub names_rise : (rooms : List Text) → Rise text_before (λ name. name) rooms → KeysRise (slice_cmp nat_cmp) (λ (name : Text). name) rooms
names_rise rooms rise k d low =
    is_lt-Less (slice_cmp nat_cmp (get_or rooms k d) (get_or rooms (k + 1) d)) (before-cmp (get_or rooms k d) (get_or rooms (k + 1) d) ∙ rise k d low)

-- a name and a name that is equal
pub names_alike : (room name : Text) → bytes_eq room name ≡ true → slice_cmp nat_cmp name room ≡ Equal
names_alike room name e =
    let same = (bytes_eq-Decides room name).0 e in
    (λ i. slice_cmp nat_cmp (sym same i) room) ∙ itself (slice_cmp nat_cmp room room) (nat_list_cmp_total.antisymm room room)
