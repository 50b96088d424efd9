use Rattle.std.proofs.Common.{◌≡◌, ap, sym, ◌∙◌, ◌++◌, ◌-◌, arith}
use Rattle.std.specs.Prelude.{flat_map}
use Rattle.mr_model.specs.Texts.{numbers_on}
use Rattle.mr_model.proofs.UniqueReplay.{none_some}
use Rattle.mr_tables.specs.Written.{changed_tally}
use Rattle.mr_tables.proofs.Servers.{flat-more, server_is, server_there}
use Rattle.mr_tables.proofs.vector.changed_tallies.Goals as goal
use Rattle.mr_tables.proofs.vector.changed_tallies.Goals.{in-Some+in_ok-push_changed, in_default}

pub loop-number-preserved : goal.loop-number-preserved
loop-number-preserved c =
    let n = c.loop-number.number in
    let rows = changed_tally c.args.old.now.tallies c.args.new.now.tallies in
    let low = c.loop-number.auto.number in
    let test = c.loop-number-test.true in
    elim c.match-new.branch [
      | in-Some+in_ok-push_changed w ↦
          (let server = server_is n w.in-Some.server (sym c.new.ensures ∙ w.in-Some.is) in
          ap (λ v. v.items) w.rows-is ∙ w.in_ok-push_changed.ensures.rows ∙ ap (λ so_far. so_far ++ rows w.in-Some.server) c.loop-number.invariant
          ∙ ap (λ s. flat_map rows (numbers_on 1 (n - 1)) ++ rows s) server ∙ sym (flat-more rows n low))
      | in_default w ↦ absurd (none_some n (sym w.in_default.is ∙ c.new.ensures ∙ server_there n low (omega arith)))
    ]

pub returns-clause-rows : goal.returns-clause-rows
returns-clause-rows c =
    let n = c.loop-number.number in
    let low = c.loop-number-test.false in
    let high = c.loop-number.auto.number-end in
    let all : n ≡ 100 = omega arith in
    c.loop-number.invariant ∙ ap (λ m. flat_map (changed_tally c.args.old.now.tallies c.args.new.now.tallies) (numbers_on 1 (m - 1))) all
