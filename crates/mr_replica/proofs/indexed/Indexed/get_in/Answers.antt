use Rattle.std.proofs.Common.{Some, None, cond, sym, ap, ◌∙◌}
use Rattle.std.specs.Option.{option_copied}
use Rattle.std.specs.Prelude.{bytes_eq}
use Rattle.mr_replica.specs.Keyed.{if_passes}
use Rattle.mr_replica.proofs.RowsById.{found_both}
use Rattle.mr_replica.proofs.indexed.Indexed.get_in.Goals as goal
use Rattle.mr_replica.proofs.indexed.Indexed.get_in.Goals.{in_default-via-in-Some+else-is_in, in_default-via-in_default}

pub returns-in-Some : goal.returns-in-Some
returns-in-Some g c =
    ap (λ b. cond b (Some c.in-Some.row.now) None) (sym c.if-is_in.true ∙ c.is_in.ensures)
    ∙ ap (if_passes (λ r. bytes_eq (g.R.IdRow.room r) c.args.room.now)) c.in-Some.ensures.row
    ∙ sym (found_both g.R.IdRow.id c.args.id (λ r. bytes_eq (g.R.IdRow.room r) c.args.room.now) c.args.self.now.rows c.get.ensures.order)

pub returns-in_default : goal.returns-in_default
returns-in_default g c =
    elim c.in_default.branch [
      | in_default-via-in-Some+else-is_in w ↦
          ap (λ b. cond b (Some w.in-Some.row.now) None) (sym w.if-is_in.false ∙ w.is_in.ensures)
          ∙ ap (if_passes (λ r. bytes_eq (g.R.IdRow.room r) c.args.room.now)) w.in-Some.ensures.row
          ∙ sym (found_both g.R.IdRow.id c.args.id (λ r. bytes_eq (g.R.IdRow.room r) c.args.room.now) c.args.self.now.rows c.get.ensures.order)
      | in_default-via-in_default w ↦
          ap (if_passes (λ r. bytes_eq (g.R.IdRow.room r) c.args.room.now)) (sym (ap option_copied w.in_default.is) ∙ c.get.ensures.row)
          ∙ sym (found_both g.R.IdRow.id c.args.id (λ r. bytes_eq (g.R.IdRow.room r) c.args.room.now) c.args.self.now.rows c.get.ensures.order)
    ]
