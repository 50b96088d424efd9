use Rattle.std.proofs.Common.{◌≡◌, length, subst, sym, ap, rules, ◌∙◌}
use Rattle.sqlite_pool.specs.Stored.{Recovers}
use Rattle.sqlite_pool.specs.StoredLaws.{recovers_once}
use Rattle.sqlite_pool.specs.File.{in_use}
use Rattle.sqlite_trees.specs.declared.store.Shape.TheVariants.{Table}
use Rattle.sqlite_store.specs.Db.{rows_at}
use Rattle.sqlite_store.specs.Unopened.{state_of, image}
use Rattle.sqlite_store.specs.FileStore.{state}
use Rattle.mr_trees.proofs.opening.open_listed.Goals as goal

pub returns-in-Ok-open-clause-found : goal.returns-in-Ok-open-clause-found
returns-in-Ok-open-clause-found g c clean =
    let mid = c.read_catalog.new.self in
    let size = (state_of c.args.fresh).page_size in
    let before = c.in-Ok-open.ensures.honest clean in
    let catalog = c.in-Ok.ensures.ok before in
    let first = (c.read_catalog.ensures.kept before).size in
    let now = subst (λ n. Recovers n (image mid) (state c.in-Ok-open.store).committed) first (c.in-Ok-open.ensures.found clean) in
    subst (Recovers size (image c.args.fresh)) (recovers_once size (image mid) catalog.pages _ catalog.again now) catalog.found

pub returns-in-Ok-open-clause-listed : goal.returns-in-Ok-open-clause-listed
returns-in-Ok-open-clause-listed g c clean =
    let mid = c.read_catalog.new.self in
    let told : length c.in-Ok.entries.items ≡ c.args.count = search rules in
    let size = (state_of c.args.fresh).page_size in
    let before = c.in-Ok-open.ensures.honest clean in
    let catalog = c.in-Ok.ensures.ok before in
    let first = (c.read_catalog.ensures.kept before).size in
    let now = subst (λ n. Recovers n (image mid) (state c.in-Ok-open.store).committed) first (c.in-Ok-open.ensures.found clean) in
    ap (λ p. length (rows_at size (in_use size p) Table 1)) (sym (recovers_once size (image mid) catalog.pages _ catalog.again now))
    ∙ ap length (sym catalog.lists) ∙ told
