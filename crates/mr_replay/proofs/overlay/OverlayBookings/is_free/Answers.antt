use Rattle.std.proofs.Common.{◌∙◌, Bool, ◌&&◌, ap, sym}
use Rattle.mr_model.specs.Replay.{is_free}
use Rattle.mr_replay.specs.Rows.{Rows, bookings_of}
use Rattle.mr_replay.proofs.Overlaid.{free-seen}
use Rattle.mr_replay.proofs.overlay.OverlayBookings.is_free.Goals as goal

pub returns-then-check_but : goal.returns-then-check_but
returns-then-check_but c =
    let free : Rows → Bool = λ b. is_free (bookings_of c.args.room.now b) c.args.length c.args.slot in
    let o = c.self.inside in
    c.check.ensures.test ∙ ap (λ t. t && free o.own) (sym (sym c.check_but.ensures ∙ c.if-check_but.true))
    ∙ sym (free-seen c.args.room.now c.args.slot c.args.length o.base o.own o.hidden c.self.invariant) ∙ ap free c.self.view_is

pub returns-else-check_but : goal.returns-else-check_but
returns-else-check_but c =
    let free : Rows → Bool = λ b. is_free (bookings_of c.args.room.now b) c.args.length c.args.slot in
    let o = c.self.inside in
    c.if-check_but.false ∙ ap (λ t. t && free o.own) (sym (sym c.check_but.ensures ∙ c.if-check_but.false))
    ∙ sym (free-seen c.args.room.now c.args.slot c.args.length o.base o.own o.hidden c.self.invariant) ∙ ap free c.self.view_is
