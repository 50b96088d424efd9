use Rattle.std.proofs.Common.{◌∙◌, None, sym, subst}
use Rattle.std.specs.Map.{remove_entry}
use Rattle.mr_replay.specs.Rows.{Rows}
use Rattle.mr_replay.specs.Index.{IsIndexed}
use Rattle.mr_replay.proofs.IdKeys.{at_is}
use Rattle.mr_replay.proofs.Indexed.{IsIndexed-removed, Forgets-others}
use Rattle.mr_replay.proofs.board.Board.remove.Goals as goal

pub invariant_of-self : goal.invariant_of-self
invariant_of-self c =
    let without = c.in-Some.ensures.entries ∙ (λ t. remove_entry (at_is t c.args.id) c.self.inside.rows.entries) in
    subst (λ (rows : Rows). IsIndexed rows c.forget.new.index) (sym without)
    (IsIndexed-removed c.self.inside.rows.entries c.self.inside.index c.forget.new.index c.args.id c.self.invariant
    (Forgets-others c.self.inside.index c.forget.new.index c.key_if_taken-gone.result None c.args.id c.in-Some.removed c.key_if_taken-gone.ensures c.forget.ensures))

pub returns-in-Some : goal.returns-in-Some
returns-in-Some c = c.in-Some.ensures.entries ∙ (λ t. remove_entry (at_is t c.args.id) (c.self.view_is t))
