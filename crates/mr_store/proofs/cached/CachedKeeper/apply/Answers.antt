use Rattle.std.proofs.Common.{sym, ◌∙◌}
use Rattle.mr_store.proofs.Remembered.{changed_above, changed_both, changed_open}
use Rattle.mr_store.proofs.cached.CachedKeeper.apply.Goals as goal

pub returns : goal.returns
returns g c =
    record {
      atomic = changed_above g.K.Keeper c.args.change.now c.args.self.now c.self.inside.keeper
          c.write_through-answer.new.keeper c.write_through-answer.result c.self.view_is c.write_through-answer.ensures.atomic;
    }

pub invariant_of-self : goal.invariant_of-self
invariant_of-self g c = (
  changed_both g.K.Keeper c.args.change.now c.self.inside.keeper c.write_through-answer.new.keeper c.write_through-answer.result c.self.inside.memory
      c.write_through-answer.new.memory c.write_through-answer.ensures.atomic c.self.invariant.0 c.write_through-answer.ensures.made c.write_through-answer.ensures.kept,
  λ sure. changed_open g.K.Keeper c.args.change.now c.self.inside.keeper c.write_through-answer.new.keeper c.write_through-answer.result
      c.write_through-answer.new.memory c.write_through-answer.ensures.atomic (sym c.is_err-self-inside.ensures.value ∙ sure),
)
