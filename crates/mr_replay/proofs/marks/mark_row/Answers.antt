use Rattle.std.proofs.Common.{◌≡◌, ◌∙◌, Bool, None, Some, ap, sym, subst}
use Rattle.std.specs.BTreeMap.{BTreeMap}
use Rattle.std.specs.Map.{lookup, set_value}
use Rattle.mr_model.specs.Writes.{Id}
use Rattle.mr_replay.specs.declared.rows.Row.{Row}
use Rattle.mr_replay.specs.Rows.{row_at, with_mark}
use Rattle.mr_replay.proofs.IdKeys.{at, at_is}
use Rattle.mr_replay.proofs.Marked.{changed-absent, written-changed}
use Rattle.mr_replay.proofs.marks.mark_row.Goals as goal

pub returns-in-Some : goal.returns-in-Some
returns-in-Some c =
    let rows = c.args.rows.now.entries in
    let found : row_at rows c.args.target ≡ Some c.in-Some.row.now = sym (subst (λ (f : Id → Id → Bool). Some c.in-Some.row.now ≡ lookup (f c.args.target) rows) at_is c.in-Some.ensures.value) in
    (c.get_mut.follows.holds _).0 ∙ ap (set_value (at c.args.target) rows) c.mark.ensures ∙ written-changed (with_mark c.args.cancel) c.args.target rows c.in-Some.row.now found

pub returns-in_default : goal.returns-in_default
returns-in_default c =
    let rows = c.args.rows.now.entries in
    let none : row_at rows c.args.target ≡ None = sym (subst (λ (f : Id → Id → Bool). None ≡ lookup (f c.args.target) rows) at_is c.in_default.ensures.value) in
    ap (λ (m : BTreeMap Id Row). m.entries) c.get_mut.follows.holds-at-none ∙ sym (changed-absent (with_mark c.args.cancel) c.args.target rows none)
