use Rattle.std.proofs.Common.{◌∙◌, ap, sym, subst}
use Rattle.std.specs.Map.{remove_entry}
use Rattle.mr_model.specs.Writes.{same_id}
use Rattle.mr_replay.specs.Hidden.{shown}
use Rattle.mr_replay.specs.Overlay.{overlaid, CanOverlay}
use Rattle.mr_replay.proofs.Hiding.{hides_more}
use Rattle.mr_replay.proofs.Overlaid.{same_set, can-removed, seen-removed}
use Rattle.mr_replay.proofs.overlay.Overlay.remove.Goals as goal

pub invariant_of-self : goal.invariant_of-self
invariant_of-self c = same_set c.self.inside.base c.self.inside.own c.self.inside.hidden c.insert.new.self c.in_err-insert.ensures.err c.self.invariant

pub invariant_of-self-2 : goal.invariant_of-self-2
invariant_of-self-2 c =
    let o = c.self.inside in
    subst (CanOverlay o.base c.insert.new.self) (sym c.remove.ensures)
    (can-removed o.base o.own o.hidden c.insert.new.self c.args.id c.self.invariant (hides_more c.args.id o.hidden c.insert.new.self c.in_ok-insert.ensures.updates.0))

pub returns-clause-ok : goal.returns-clause-ok
returns-clause-ok c =
    let o = c.self.inside in
    ap (overlaid (shown c.insert.new.self o.base)) c.remove.ensures
    ∙ seen-removed o.base o.own o.hidden c.insert.new.self c.args.id c.self.invariant (hides_more c.args.id o.hidden c.insert.new.self c.in_ok-insert.ensures.updates.0)
    ∙ ap (remove_entry (same_id c.args.id)) c.self.view_is
