-- Lists have one board at most that holds them.
use Rattle.std.proofs.Common.{◌≡◌, Bool, true, false, cond, T, ◌&&◌, List, [], ◌∷◌, Some, ap, refl, sym, ◌∙◌, subst}
use Rattle.std.specs.declared.cmp.Ordering.TheVariants.{Less}
use Rattle.std.specs.Ordering.{is_lt}
use Rattle.std.specs.List.{AllByRecursion}
use Rattle.std.specs.List.Sorted.{IsStrictlySortedBy}
use Rattle.std.specs.Map.{keys_of, lookup}
use Rattle.std.specs.FinMap.Entries.{find, is_sorted, below_all, same_entries}
use Rattle.mr_model.specs.Texts.{Text}
use Rattle.mr_model.specs.Writes.{Id, Write}
use Rattle.mr_base.specs.Ids.{id_cmp}
use Rattle.mr_replay.specs.Rows.{Rows, row_at}
use Rattle.mr_replay.specs.Holds.{HoldsEach}
use Rattle.mr_replay.proofs.IdKeys.{exact_ids, ids_total, at, at_is}
use Rattle.mr_replay.proofs.Entries.{IsInOrder}
use Rattle.mr_replay.proofs.OneRoom.{same_row}

below : (k : Id) (es : Rows) → AllByRecursion (λ y. id_cmp k y ≡ Less) (keys_of es) → T (below_all id_cmp k es)
below k [] h = tt
below k (e ∷ es) h = subst (λ o. T (is_lt o && below_all id_cmp k es)) (sym h.0) (below k es h.1)

pub both_hold : (a b : Bool) → T a → T b → T (a && b)
both_hold true b p q = q
both_hold false b p q = absurd p

pub sorted_test : (es : Rows) → IsInOrder es → T (is_sorted id_cmp es)
unfolding IsStrictlySortedBy
sorted_test [] h = tt
sorted_test (e ∷ es) h = both_hold (below_all id_cmp e.0 es) (is_sorted id_cmp es) (below e.0 es h.0) (sorted_test es h.1)

find-at : (es : Rows) (q : Id) → find id_cmp q es ≡ lookup (at q) es
find-at [] q = refl
find-at (e ∷ es) q = ap (cond (at q e.0) (Some e.1)) (find-at es q)

pub find-row_at : (es : Rows) (q : Id) → find id_cmp q es ≡ row_at es q
find-row_at es q = find-at es q ∙ ap (λ (f : Id → Id → Bool). lookup (f q) es) at_is

pub one_board : (lists : Text → List Write) (b c : Rows) → HoldsEach lists b → HoldsEach lists c → b ≡ c
one_board lists b c h g =
    same_entries id_cmp ids_total exact_ids b c (sorted_test b h.ordered) (sorted_test c g.ordered)
    (λ q. find-row_at b q ∙ same_row (row_at b q) (row_at c q) (λ room. h.rooms room q ∙ sym (g.rooms room q)) ∙ sym (find-row_at c q))
