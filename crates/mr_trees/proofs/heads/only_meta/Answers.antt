use Rattle.std.proofs.Common.{◌≡◌, [], ◌∷◌, map, sym, ap, subst, ◌∙◌, arith}
use Rattle.std.specs.List.{AllByRecursion}
use Rattle.std.specs.Prelude.{unwrap_or}
use Rattle.sqlite_trees.specs.View.{IsClean}
use Rattle.sqlite_exec.specs.Loops.{left_of}
use Rattle.sqlite_exec.proofs.CheckLemmas as lemma
use Rattle.mr_rows.specs.Form.{meta_form}
use Rattle.mr_rows.specs.RowCells.{meta_in}
use Rattle.mr_rows.specs.Shown.{IsStoredAs}
use Rattle.mr_trees.proofs.ScanLemmas.{begun}
use Rattle.mr_trees.proofs.heads.only_meta.Goals as goal

pub returns-clause-ok : goal.returns-clause-ok
returns-clause-ok g c clean =
    let once : IsClean (g.S.Store.view c.next.new.self) = omega (arith, c.next-2.ensures.quiet.clean, clean) in
    let before : IsClean (g.S.Store.view c.seek.new.self) = omega (arith, c.next.ensures.quiet.clean, once) in
    let begin = begun (g.S.Store.view c.args.store.now) (g.S.Store.view c.seek.new.self) _ 0 0 _ c.new-row.ensures (λ i. 0) (c.in_ok-seek.ensures.ok before) in
    let first = lemma.stepped _ _ 0 c.next.new.row (rw c.if-not-branch.false at (c.in_ok-next.ensures.ok once)) in
    let rest : left_of (g.S.Store.view c.next.new.self) 0 ≡ [] = ap (λ o. unwrap_or o []) (rw c.if-branch.false at (c.in_ok-next-2.ensures.ok clean)).0 in
    ap (map meta_in) (sym begin ∙ first ∙ ap (λ more. c.next.new.row ∷ more) rest) ∙ ap (λ m. m ∷ []) (sym c.in_ok-meta.ensures.row)

pub returns-clause-stored : goal.returns-clause-stored
returns-clause-stored g c clean =
    let once : IsClean (g.S.Store.view c.next.new.self) = omega (arith, c.next-2.ensures.quiet.clean, clean) in
    let before : IsClean (g.S.Store.view c.seek.new.self) = omega (arith, c.next.ensures.quiet.clean, once) in
    let begin = begun (g.S.Store.view c.args.store.now) (g.S.Store.view c.seek.new.self) _ 0 0 _ c.new-row.ensures (λ i. 0) (c.in_ok-seek.ensures.ok before) in
    let first = lemma.stepped _ _ 0 c.next.new.row (rw c.if-not-branch.false at (c.in_ok-next.ensures.ok once)) in
    let rest : left_of (g.S.Store.view c.next.new.self) 0 ≡ [] = ap (λ o. unwrap_or o []) (rw c.if-branch.false at (c.in_ok-next-2.ensures.ok clean)).0 in
    subst (AllByRecursion (IsStoredAs meta_form)) (ap (λ more. c.next.new.row ∷ more) (sym rest) ∙ sym first ∙ begin) (c.in_ok-meta.ensures.stored, tt)
