use Rattle.std.proofs.Common.{◌∙◌, ap, sym, subst, ℕ, List}
use Rattle.matchit.specs.Params.{AllText, walk}
use Rattle.matchit.specs.Rows.{RowsOf}
use Rattle.matchit.specs.Router.{RouteOf}
use Rattle.matchit.specs.Seek.{first}
use Rattle.mr_web.specs.declared.routes.Resource.{Resource}
use Rattle.mr_web.proofs.PathWords.{words_are_text}
use Rattle.mr_web.proofs.checks.asked_of.Goals as goal

pub asked_at-requires : goal.asked_at-requires
asked_at-requires c =
    let target = c.args.target.now in
    let params = c.in-Ok-at.found.params in
    let found = ap (λ (rows : RowsOf (RouteOf Resource)). first rows target) (sym c.in-Ok.ensures) ∙ c.in-Ok-at.ensures.found in
    let P : List ℕ → Type 0 = λ path. AllText (walk params.pattern.now params.text.now path params.names.now 0 0) in
    subst P (sym c.in-Ok-at.ensures.path) (words_are_text target _ c.utf8.target found)
