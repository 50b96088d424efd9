use Rattle.std.proofs.Common.{◌≡◌, ◌∙◌, Bool, None, Some, cond, ap, sym, subst}
use Rattle.std.specs.Map.{lookup}
use Rattle.mr_model.specs.Writes.{Id}
use Rattle.mr_replay.specs.Rows.{row_at, is_in_the_way}
use Rattle.mr_replay.specs.Index.{is_row}
use Rattle.mr_replay.proofs.IdKeys.{at_is}
use Rattle.mr_replay.proofs.Hiding.{row_at-shown}
use Rattle.mr_replay.proofs.taken.is_row_in_the_way.Goals as goal

pub returns-then-contains : goal.returns-then-contains
returns-then-contains c =
    let rows = c.args.rows.now.entries in
    sym (ap (is_row (is_in_the_way c.args.room.now c.args.slot c.args.length))
    (row_at-shown c.args.hidden.now rows c.args.id ∙ ap (λ t. cond t None (row_at rows c.args.id)) (sym c.contains.ensures ∙ c.if-contains.true)))

pub returns-in-Some : goal.returns-in-Some
returns-in-Some c =
    let rows = c.args.rows.now.entries in
    let there : Some c.in-Some.row.now ≡ row_at rows c.args.id = subst (λ (f : Id → Id → Bool). Some c.in-Some.row.now ≡ lookup (f c.args.id) rows) at_is c.in-Some.ensures.value in
    c.is_in_the_way.ensures ∙ ap (is_row (is_in_the_way c.args.room.now c.args.slot c.args.length)) there
    ∙ sym (ap (is_row (is_in_the_way c.args.room.now c.args.slot c.args.length))
    (row_at-shown c.args.hidden.now rows c.args.id ∙ ap (λ t. cond t None (row_at rows c.args.id)) (sym c.contains.ensures ∙ c.if-contains.false)))

pub returns-in-None : goal.returns-in-None
returns-in-None c =
    let rows = c.args.rows.now.entries in
    let there : None ≡ row_at rows c.args.id = subst (λ (f : Id → Id → Bool). None ≡ lookup (f c.args.id) rows) at_is c.in-None.ensures.value in
    ap (is_row (is_in_the_way c.args.room.now c.args.slot c.args.length)) there
    ∙ sym (ap (is_row (is_in_the_way c.args.room.now c.args.slot c.args.length))
    (row_at-shown c.args.hidden.now rows c.args.id ∙ ap (λ t. cond t None (row_at rows c.args.id)) (sym c.contains.ensures ∙ c.if-contains.false)))
