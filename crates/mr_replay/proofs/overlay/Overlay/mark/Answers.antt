use Rattle.std.proofs.Common.{◌∙◌, ap, sym}
use Rattle.std.specs.BTreeMap.{insert_entry}
use Rattle.mr_base.specs.Ids.{id_cmp}
use Rattle.mr_replay.specs.Rows.{with_mark}
use Rattle.mr_replay.proofs.Marked.{changed-absent}
use Rattle.mr_replay.proofs.Hiding.{put-changed}
use Rattle.mr_replay.proofs.overlay.Overlay.mark.Goals as goal

pub returns-in_ok-put-clause-board : goal.returns-in_ok-put-clause-board
returns-in_ok-put-clause-board c =
    c.in_ok-put.ensures.ok ∙ ap (insert_entry id_cmp c.args.self.now c.args.target) c.mark.ensures
    ∙ put-changed (with_mark c.args.cancel) c.args.self.now c.args.target c.in-Some.row c.is_in_order.ensures (sym c.in_ok-row.ensures.row ∙ c.in-Some.is)

pub returns-in_default-clause-board : goal.returns-in_default-clause-board
returns-in_default-clause-board c = sym (changed-absent (with_mark c.args.cancel) c.args.target c.args.self.now (sym c.in_ok-row.ensures.row ∙ c.in_default.is))
