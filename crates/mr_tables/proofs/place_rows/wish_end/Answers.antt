use Rattle.std.proofs.Common.{ℕ, ◌≤◌, refl, subst, sym}
use Rattle.mr_tables.proofs.Fitting.{choice_fits}
use Rattle.mr_tables.proofs.place_rows.wish_end.Goals as goal

pub returns-clause-fits : goal.returns-clause-fits
returns-clause-fits c =
    let P : ℕ → Type 0 = λ n. n ≤ 1440 in
    subst P (sym c.wish_stop.ensures) (choice_fits c.args.meeting.now 0 c.args.meeting.now.wish c.is_within_limits.ensures refl)
