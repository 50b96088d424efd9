use Rattle.std.proofs.Common.{◌∙◌, sym, bytes_eq}
use Rattle.std.proofs.lemmas.Cmp.{nat_list_cmp_total}
use Rattle.std.proofs.lemmas.Map.Lookups.{exact_bytes}
use Rattle.std.proofs.lemmas.Slice.Eq.{bytes_eq-Decides}
use Rattle.std.specs.Prelude.{slice_index_or}
use Rattle.mr_model.specs.Texts.{Text}
use Rattle.mr_audit.proofs.SortedNames.{names_rise, names_alike}
use Rattle.mr_audit.proofs.Searching.{found_one, found_none}
use Rattle.mr_audit.proofs.rooms.is_among_sorted.Goals as goal

pub returns-in-Ok : goal.returns-in-Ok
returns-in-Ok c = λ rise.
    let room = c.args.room.now in
    let rooms = c.args.rooms.now in
    let k = c.in-Ok.field-0 in
    let alike = c.in-Ok.ensures.position room in
    sym
    (found_one nat_list_cmp_total (λ (name : Text). name) room (bytes_eq room) (names_alike room) rooms (names_rise rooms rise) k room c.in-Ok.ensures.bound alike
    ∙ (bytes_eq-Decides room (slice_index_or rooms k room)).1 (sym (exact_bytes (slice_index_or rooms k room) room alike)))

pub returns-in-Err : goal.returns-in-Err
returns-in-Err c = λ rise.
    let room = c.args.room.now in
    let rooms = c.args.rooms.now in
    sym (found_none nat_list_cmp_total (λ (name : Text). name) room (bytes_eq room) (names_alike room) rooms (names_rise rooms rise) c.in-Err.field-0 c.in-Err.ensures.position)
