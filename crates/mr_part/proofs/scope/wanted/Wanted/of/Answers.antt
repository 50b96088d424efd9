use Rattle.std.proofs.Common.{◌≡◌, ap, sym, subst}
use Rattle.mr_model.specs.Replica.{Replica}
use Rattle.mr_model.specs.Scopes.{Scope}
use Rattle.mr_model.specs.Tables.{Tables}
use Rattle.mr_part.specs.Parts.{HasRowsButBookings}
use Rattle.mr_part.specs.RowTests.{IsWanted}
use Rattle.mr_part.specs.ScopeOf.{scope_of}
use Rattle.mr_part.proofs.scope.wanted.Wanted.of.Goals as goal

-- the rows in scope of one and the same scope
in_this : (s r : Scope) (t : Tables) (a : Replica) → s ≡ r → HasRowsButBookings t s a → HasRowsButBookings t r a
in_this s r t a is e = subst (λ x. HasRowsButBookings t x a) is e

pub returns-in-Nothing-clause-wanted : goal.returns-in-Nothing-clause-wanted
returns-in-Nothing-clause-wanted c = subst (λ s. IsWanted c.nothing.result s c.args.tables.now) (sym (ap scope_of c.in-Nothing.is)) (c.nothing.ensures c.args.tables.now)

pub returns-in-OfTarget-clause-wanted : goal.returns-in-OfTarget-clause-wanted
returns-in-OfTarget-clause-wanted c = subst (λ s. IsWanted c.of_target.result s c.args.tables.now) (sym (ap scope_of c.in-OfTarget.is)) (c.of_target.ensures c.args.tables.now)

pub returns-in-NextCommits-clause-only : goal.returns-in-NextCommits-clause-only
returns-in-NextCommits-clause-only c = λ a h e. c.next_commits.ensures.only a h (in_this (scope_of c.args.scope.now) _ c.args.tables.now a (ap scope_of c.in-NextCommits.is) e)

pub returns-in-UpTo-clause-only : goal.returns-in-UpTo-clause-only
returns-in-UpTo-clause-only c = λ a h e. c.up_to.ensures.only a h (in_this (scope_of c.args.scope.now) _ c.args.tables.now a (ap scope_of c.in-UpTo.is) e)

pub returns-in-Above-clause-only : goal.returns-in-Above-clause-only
returns-in-Above-clause-only c = λ a h e. c.above.ensures.only a h (in_this (scope_of c.args.scope.now) _ c.args.tables.now a (ap scope_of c.in-Above.is) e)

pub returns-in-Items-clause-only : goal.returns-in-Items-clause-only
returns-in-Items-clause-only c = λ a h e. c.of_items.ensures.only a h (in_this (scope_of c.args.scope.now) _ c.args.tables.now a (ap scope_of c.in-Items.is) e)
