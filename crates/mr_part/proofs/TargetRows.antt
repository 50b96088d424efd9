-- The rows of what some writes aim at, one by one.
use Rattle.std.proofs.Common.{◌≡◌, refl, sym, ap, ◌∙◌, ℕ, zero, suc, ◌+◌, ◌<◌, ◌≤◌, List, [], ◌∷◌, ◌++◌, length, get_or, map, take, inl, inr, Option, arith, append_assoc, append-nil}
use Rattle.std.proofs.lemmas.List.{take_more}
use Rattle.std.specs.Prelude.{flat_map}
use Rattle.mr_model.specs.Dropped.{Has}
use Rattle.mr_model.specs.Writes.{Id, Write}
use Rattle.mr_model.specs.Tables.{PlaceRow}
use Rattle.mr_replay.specs.Rows.{Rows}
use Rattle.mr_tables.specs.declared.summary.Tally.{Tally}
use Rattle.mr_part.specs.Targets.{taken_by, target_if_moved, moved_target, moved_targets}
use Rattle.mr_part.proofs.Moves.{told_at}

-- what stands at a place in a list is in it
pub has_at : {A : Type 0} (xs : List A) (k : ℕ) (x : A) → k < length xs → x ≡ get_or xs k x → Has x xs
has_at [] k x h e = absurd (omega arith)
has_at (y ∷ ys) zero x h e = inl e
has_at (y ∷ ys) (suc k) x h e = inr (has_at ys k x (omega arith) e)

flat_more : {A B : Type 0} (f : A → List B) (xs : List A) (x : A) → flat_map f (xs ++ x ∷ []) ≡ flat_map f xs ++ f x
flat_more f [] x = append-nil (f x)
flat_more f (y ∷ ys) x = ap (λ zs. f y ++ zs) (flat_more f ys x) ∙ sym (append_assoc (f y) (flat_map f ys) (f x))

-- with those of one write more
pub targets_more : (ts : List Tally) (old b : Rows) (ws : List Write) (was : List (Option Id)) (k : ℕ) (w : Write) (by : Option Id) (done next : List PlaceRow)
    → k < length ws → w ≡ get_or ws k w → by ≡ get_or was k by → was ≡ map (taken_by old) ws
    → done ≡ moved_targets ts old b (take k ws) → next ≡ done ++ target_if_moved ts by b w.room w.action → next ≡ moved_targets ts old b (take (k + 1) ws)
targets_more ts old b ws was k w by done next low at is are have more =
    let own : by ≡ taken_by old w = is ∙ sym (told_at (taken_by old) ws was k w by low at are) in
    more ∙ (λ i. have i ++ target_if_moved ts (own i) b w.room w.action)
    ∙ sym (ap (moved_targets ts old b) (take_more ws k w low ∙ ap (λ v. take k ws ++ v ∷ []) (sym at)) ∙ flat_more (moved_target ts old b) (take k ws) w)

-- at the end they are those of all
pub targets_all : (ts : List Tally) (old b : Rows) (ws : List Write) (k : ℕ) (done : List PlaceRow) → length ws ≤ k → done ≡ moved_targets ts old b (take k ws) → done ≡ moved_targets ts old b ws
targets_all ts old b ws k done all have = have ∙ ap (moved_targets ts old b) (take_whole ws k all)
  where
    take_whole : (vs : List Write) (n : ℕ) → length vs ≤ n → take n vs ≡ vs
    take_whole [] zero h = refl
    take_whole [] (suc n) h = refl
    take_whole (v ∷ vs) zero h = absurd (omega arith)
    take_whole (v ∷ vs) (suc n) h = ap (λ us. v ∷ us) (take_whole vs n (omega arith))

-- ---- one row
