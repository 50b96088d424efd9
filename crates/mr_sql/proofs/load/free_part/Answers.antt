use Rattle.std.proofs.Common.{◌≡◌, sym, ap, ◌∙◌, rules}
use Rattle.std.proofs.lemmas.Bool.{true≢false}
use Rattle.mr_tables.specs.Summary.{summary_of}
use Rattle.mr_part.specs.NextId.{id_given}
use Rattle.mr_part.specs.Parts.{PartView}
use Rattle.mr_part.specs.ScopeOf.{scope_of}
use Rattle.mr_store.specs.Taken.{is_id_taken}
use Rattle.mr_sql.proofs.load.free_part.Goals as goal

pub returns-in_err-part-clause-only : goal.returns-in_err-part-clause-only
returns-in_err-part-clause-only c = λ a sound same free. let told = c.in_err-part.ensures.only a sound same in search rules

pub returns-then-is_taken-clause-only : goal.returns-then-is_taken-clause-only
returns-then-is_taken-clause-only c = λ a sound same free.
    let scope = scope_of c.args.scope.now in
    let given : c.id_given.result ≡ id_given scope c.in_ok-part.part.summary = search rules in
    let own : id_given scope c.in_ok-part.part.summary ≡ id_given scope (summary_of a) = ap (λ (p : PartView). id_given scope p.summary) (c.in_ok-part.ensures.part a sound same) in
    absurd (true≢false (sym c.if-is_taken.true ∙ c.is_taken.ensures ∙ ap (λ id. is_id_taken id c.args.tables.now) (given ∙ own) ∙ free))
