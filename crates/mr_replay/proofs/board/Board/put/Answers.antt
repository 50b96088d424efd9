use Rattle.std.proofs.Common.{◌≡◌, ◌∙◌, Bool, None, ap, sym, subst}
use Rattle.std.specs.BTreeMap.{insert_entry}
use Rattle.std.specs.Map.{lookup}
use Rattle.mr_base.specs.Ids.{id_cmp}
use Rattle.mr_model.specs.Writes.{Id}
use Rattle.mr_replay.specs.Rows.{Rows, row_at}
use Rattle.mr_replay.specs.Index.{IsIndexed}
use Rattle.mr_replay.proofs.IdKeys.{at_is}
use Rattle.mr_replay.proofs.Indexed.{IsIndexed-put, IsIndexed-absent, IsIndexed-grown, KeepsOthers-grown, Forgets-others, Forgets-stays}
use Rattle.mr_replay.proofs.board.Board.put.Goals as goal

pub invariant_of-self : goal.invariant_of-self
invariant_of-self c = IsIndexed-grown c.self.inside.rows.entries c.self.inside.index c.note.new.index c.note.ensures.grows c.self.invariant

pub invariant_of-self-in-Ok-None : goal.invariant_of-self-in-Ok-None
invariant_of-self-in-Ok-None c =
    subst (λ (rows : Rows). IsIndexed rows c.note.new.index) (sym c.in-Ok-None.ensures.entries)
    (IsIndexed-put c.self.inside.rows.entries c.self.inside.index c.note.new.index c.args.id c.args.row c.self.invariant c.in_ok-note.ensures.noted
    (KeepsOthers-grown c.self.inside.index c.note.new.index c.args.id c.note.ensures.grows))

pub invariant_of-self-in-Ok-Some : goal.invariant_of-self-in-Ok-Some
invariant_of-self-in-Ok-Some c =
    let more = KeepsOthers-grown c.self.inside.index c.note.new.index c.args.id c.note.ensures.grows in
    subst (λ (rows : Rows). IsIndexed rows c.forget.new.index) (sym c.in-Ok-Some.ensures.entries)
    (IsIndexed-put c.self.inside.rows.entries c.self.inside.index c.forget.new.index c.args.id c.args.row c.self.invariant
    (Forgets-stays c.note.new.index c.forget.new.index c.key_if_taken-gone.result c.key_if_taken-stays.result
    c.args.id c.args.row c.key_if_taken-stays.ensures c.forget.ensures c.in_ok-note.ensures.noted)
    (λ j r apart noted. Forgets-others c.note.new.index c.forget.new.index c.key_if_taken-gone.result c.key_if_taken-stays.result
    c.args.id c.in-Ok-Some.replaced c.key_if_taken-gone.ensures c.forget.ensures j r apart (more j r apart noted)))

pub invariant_of-self-in-Err : goal.invariant_of-self-in-Err
invariant_of-self-in-Err c =
    let more = KeepsOthers-grown c.self.inside.index c.note.new.index c.args.id c.note.ensures.grows in
    let none : row_at c.self.inside.rows.entries c.args.id ≡ None = subst (λ (f : Id → Id → Bool). lookup (f c.args.id) c.self.inside.rows.entries ≡ None) at_is c.in-Err.ensures.absent in
    subst (λ (rows : Rows). IsIndexed rows c.forget-in-Err.new.index) (sym c.in-Err.ensures.err)
    (IsIndexed-absent c.self.inside.rows.entries c.self.inside.index c.forget-in-Err.new.index c.args.id none c.self.invariant
    (λ j r apart noted. Forgets-others c.note.new.index c.forget-in-Err.new.index c.key_if_taken-gone-in-Err.result None c.args.id
    c.in-Err.failed.value.1 c.key_if_taken-gone-in-Err.ensures c.forget-in-Err.ensures j r apart (more j r apart noted)))

pub returns-in-Ok-Some-clause-ok : goal.returns-in-Ok-Some-clause-ok
returns-in-Ok-Some-clause-ok c = c.in-Ok-Some.ensures.entries ∙ ap (λ b. insert_entry id_cmp b c.args.id c.args.row) c.self.view_is
