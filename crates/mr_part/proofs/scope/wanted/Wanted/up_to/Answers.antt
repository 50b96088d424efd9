use Rattle.std.proofs.Common.{rules, ◌∙◌, ap, sym, subst, List}
use Rattle.mr_model.specs.Scopes.{UpTo}
use Rattle.mr_model.specs.Tables.{LogRow, Tables}
use Rattle.mr_part.specs.Parts.{kept_in}
use Rattle.mr_part.specs.RowTests.{ArePicked, passes_log_test}
use Rattle.mr_part.specs.declared.scope.logs.LogTest.TheVariants as test
use Rattle.mr_part.proofs.PartScopes.{picked_up_to}
use Rattle.mr_part.proofs.scope.wanted.Wanted.up_to.Goals as goal

pub returns-in_err-kept-clause-only : goal.returns-in_err-kept-clause-only
returns-in_err-kept-clause-only c = λ a h e.
    let log = c.deref.ensures.value ∙ ap (λ (t : Tables). t.log) c.tables.view_is in
    let told = subst (λ (rows : List LogRow). ArePicked a (passes_log_test (test.UpTo c.args.number)) rows (kept_in (UpTo c.args.number) a))
    (sym log) (picked_up_to a c.args.number c.args.tables.now h e) in
    let only = c.in_err-kept.ensures.only a (kept_in (UpTo c.args.number) a) h told in
    search (rules, only)

pub returns-clause-wanted : goal.returns-clause-wanted
returns-clause-wanted c =
    let log = c.deref.ensures.value ∙ ap (λ (t : Tables). t.log) c.tables.view_is in
    record {
      bookings_are = c.nothing.ensures;
      kept_are = λ a h e.
          let told = subst (λ (rows : List LogRow). ArePicked a (passes_log_test (test.UpTo c.args.number)) rows (kept_in (UpTo c.args.number) a))
          (sym log) (picked_up_to a c.args.number c.args.tables.now h e) in
          c.in_ok-kept.ensures.writes a (kept_in (UpTo c.args.number) a) h told;
    }
