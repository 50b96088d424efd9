use Rattle.std.proofs.Common.{◌≡◌, [], ◌⊎◌, inl, inr, ℕ, List, sym, ap, subst, ◌∙◌}
use Rattle.std.specs.List.{filter}
use Rattle.std.specs.Prelude.{IfOk}
use Rattle.mr_model.specs.Tables.{LogRow}
use Rattle.mr_part.specs.ScopeOf.{scope_of}
use Rattle.mr_part.specs.declared.scope.Scope.{Scope}
use Rattle.mr_part.specs.declared.scope.Scope.TheVariants.{Nothing, InRoom, OfTarget}
use Rattle.mr_replica.specs.Needed.{is_log_needed}
use Rattle.mr_replica.specs.RowKeys.{is_between, log_key}
use Rattle.mr_replica.proofs.LogEnds.{above_between, commits_between, up_to_between}
use Rattle.mr_replica.proofs.NamedRows.{none_picked}
use Rattle.mr_replica.proofs.indexed.Indexed+LogRow.needed.Goals as goal

-- the scope has no rows of the log
none_needed : {A B : Type 0} (known : ℕ) (all : List LogRow) (s : Scope) (f : A → Scope) (g : B → Scope)
    → ((x : A) → filter (is_log_needed known (scope_of (f x))) all ≡ []) → ((x : B) → filter (is_log_needed known (scope_of (g x))) all ≡ [])
    → (s ≡ Nothing) ⊎ (((x : A) × (s ≡ f x)) ⊎ ((x : B) × (s ≡ g x))) → filter (is_log_needed known (scope_of s)) all ≡ []
none_needed known all s f g p q (inl e) = ap (λ s. filter (is_log_needed known (scope_of s)) all) e ∙ none_picked all
none_needed known all s f g p q (inr (inl (x, e))) = ap (λ s. filter (is_log_needed known (scope_of s)) all) e ∙ p x
none_needed known all s f g p q (inr (inr (x, e))) = ap (λ s. filter (is_log_needed known (scope_of s)) all) e ∙ q x

pub returns-in-Nothing : goal.returns-in-Nothing
returns-in-Nothing c =
    let all = c.args.self.now.rows in
    c.new.ensures.items ∙ sym (none_needed c.args.known all c.args.scope.now InRoom OfTarget (λ x. none_picked all) (λ x. none_picked all) c.in-Nothing.is)

pub returns-in-NextCommits : goal.returns-in-NextCommits
returns-in-NextCommits c =
    let all = c.args.self.now.rows in
    subst (λ rs. IfOk c.ranged.result (λ rows. rows.items ≡ rs))
    ((λ t. filter (λ r. is_between (c.log_end.ensures t) (c.log_end-in-NextCommits.ensures t) (log_key r)) all)
    ∙ (λ t. filter (λ r. commits_between r t) all) ∙ ap (λ s. filter (is_log_needed c.args.known (scope_of s)) all) (sym c.in-NextCommits.is))
    c.ranged.ensures

pub returns-in-UpTo : goal.returns-in-UpTo
returns-in-UpTo c =
    let all = c.args.self.now.rows in
    subst (λ rs. IfOk c.ranged-in-UpTo.result (λ rows. rows.items ≡ rs))
    ((λ t. filter (λ r. is_between (c.log_end-in-UpTo.ensures t) (c.number_end.ensures t) (log_key r)) all)
    ∙ (λ t. filter (λ r. up_to_between c.in-UpTo.number r t) all) ∙ ap (λ s. filter (is_log_needed c.args.known (scope_of s)) all) (sym c.in-UpTo.is))
    c.ranged-in-UpTo.ensures

pub returns-in-Above : goal.returns-in-Above
returns-in-Above c =
    let all = c.args.self.now.rows in
    subst (λ rs. IfOk c.ranged-in-Above.result (λ rows. rows.items ≡ rs))
    ((λ t. filter (λ r. is_between (c.number_end-in-Above.ensures t) (c.log_end-in-Above.ensures t) (log_key r)) all)
    ∙ (λ t. filter (λ r. above_between c.in-Above.commits r t) all) ∙ ap (λ s. filter (is_log_needed c.args.known (scope_of s)) all) (sym c.in-Above.is))
    c.ranged-in-Above.ensures
