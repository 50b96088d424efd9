use Rattle.std.proofs.Common.{◌≡◌, [], Result, sym, ap, subst, ◌∙◌}
use Rattle.std.specs.Prelude.{filter, IfOk}
use Rattle.std.proofs.lemmas.Result.{IfOk-weaker}
use Rattle.mr_model.specs.Scopes.{in_scope, with_rows}
use Rattle.mr_model.specs.Tables.{Tables}
use Rattle.mr_part.specs.ScopeOf.{scope_of}
use Rattle.mr_part.specs.declared.scope.Scope.{Scope}
use Rattle.mr_part.specs.declared.scope.Scope.TheVariants.{NextCommits, UpTo, Above}
use Rattle.mr_replica.specs.Needed.{is_log_needed}
use Rattle.mr_replica.proofs.ScopeRows.{commits_scope, up_to_scope, above_scope}
use Rattle.mr_replica.proofs.memory.Memory.rows_for.Goals as goal

-- the tables that are made for a scope have in it what all tables have
told : {E : Type 0} (given scope : Scope) (t : Tables) (made : Result Tables E) (rows : Scope → Tables) → given ≡ scope → in_scope (scope_of scope) (rows scope)
    ≡ in_scope (scope_of scope) t → IfOk made (λ u. u ≡ rows given) → IfOk made (λ u. in_scope (scope_of given) u ≡ in_scope (scope_of given) t)
told given scope t made rows is same h =
    IfOk-weaker made (λ u. u ≡ rows given) (λ u. in_scope (scope_of given) u ≡ in_scope (scope_of given) t)
    (λ u e. ap (in_scope (scope_of given)) e ∙ subst (λ s. in_scope (scope_of s) (rows s) ≡ in_scope (scope_of s) t) (sym is) same) h

pub returns-in-NextCommits : goal.returns-in-NextCommits
returns-in-NextCommits c =
    let t = c.args.self.now in
    let n = c.in-NextCommits.field-0 in
    told c.args.scope.now (NextCommits n) t c.rows_to_commit.result
    (λ s. with_rows t (filter (is_log_needed t.meta.commits (scope_of s)) t.log) [] [] t.cancelled) c.in-NextCommits.is (commits_scope t n) c.rows_to_commit.ensures

pub returns-in-UpTo : goal.returns-in-UpTo
returns-in-UpTo c =
    let t = c.args.self.now in
    let n = c.in-UpTo.field-0 in
    told c.args.scope.now (UpTo n) t c.rows_of_log.result (λ s. with_rows t (filter (is_log_needed t.meta.commits (scope_of s)) t.log) [] [] []) c.in-UpTo.is (up_to_scope t n) c.rows_of_log.ensures

pub returns-in-Above : goal.returns-in-Above
returns-in-Above c =
    let t = c.args.self.now in
    let n = c.in-Above.field-0 in
    told c.args.scope.now (Above n) t c.rows_of_log-in-Above.result
    (λ s. with_rows t (filter (is_log_needed t.meta.commits (scope_of s)) t.log) [] [] []) c.in-Above.is (above_scope t n) c.rows_of_log-in-Above.ensures
