-- Of the writes that a batch executes anew, those that get other rows in the log: how they are picked.
use Rattle.std.proofs.Common.{◌≡◌, ℕ, suc, ◌<◌, ◌≤◌, ◌||◌, ltb, Bool, true, false, cond, List, [], ◌∷◌, ◌++◌, length}
use Rattle.std.proofs.Common.{get_or, take, drop, map, refl, sym, ap, ◌∙◌, append_assoc, append-nil, arith, eqb-true}
use Rattle.std.specs.List.{filter}
use Rattle.std.proofs.lemmas.Bool.{true≢false}
use Rattle.std.proofs.lemmas.Bool.Decides.{nat_tests}
use Rattle.std.proofs.lemmas.List.{take_all, drop_all, take-append-le, drop-append-le, get_or-map, map-append, length-append, length_push}
use Rattle.std.proofs.lemmas.List.Elements.{filter-append}
use Rattle.mr_model.specs.Replay.{Place, Taken, Logged, Done, Void}
use Rattle.mr_model.specs.Writes.{Write}
use Rattle.mr_replay.specs.Places.{UndoRow}
use Rattle.mr_replay.specs.Rows.{Rows, executed, undo_rows_of}
use Rattle.mr_part.specs.PartMoves.{same_place, picked}
use Rattle.mr_part.specs.Logged.{undo_with}

pub same_place-true : (p q : Place) → same_place p q ≡ true → p ≡ q
same_place-true (Taken j) (Taken k) e = ap Taken (eqb-true j k e)
same_place-true (Taken j) Logged e = absurd (true≢false (sym e))
same_place-true (Taken j) Done e = absurd (true≢false (sym e))
same_place-true (Taken j) Void e = absurd (true≢false (sym e))
same_place-true Logged (Taken k) e = absurd (true≢false (sym e))
same_place-true Logged Logged e = refl
same_place-true Logged Done e = absurd (true≢false (sym e))
same_place-true Logged Void e = absurd (true≢false (sym e))
same_place-true Done (Taken k) e = absurd (true≢false (sym e))
same_place-true Done Logged e = absurd (true≢false (sym e))
same_place-true Done Done e = refl
same_place-true Done Void e = absurd (true≢false (sym e))
same_place-true Void (Taken k) e = absurd (true≢false (sym e))
same_place-true Void Logged e = absurd (true≢false (sym e))
same_place-true Void Done e = absurd (true≢false (sym e))
same_place-true Void Void e = refl

-- one write more
pub picked_more : (news : ℕ) (test : Write → Bool) (ws : List Write) (w : Write) (is_changed : Bool) → is_changed ≡ (ltb (length ws) news || test w)
    → picked news test (ws ++ w ∷ []) ≡ cond is_changed (picked news test ws ++ w ∷ []) (picked news test ws)
picked_more news test ws w is_changed e = go (ltb (length ws) news) refl ∙ ap (λ b. cond b (picked news test ws ++ w ∷ []) (picked news test ws)) (sym e)
  where
    last : (b : Bool) → (vs : List Write) → vs ++ cond b (w ∷ []) [] ≡ cond b (vs ++ w ∷ []) vs
    last true vs = refl
    last false vs = append-nil vs

    go : (b : Bool) → ltb (length ws) news ≡ b → picked news test (ws ++ w ∷ []) ≡ cond (b || test w) (picked news test ws ++ w ∷ []) (picked news test ws)
    go true low =
        let few : length ws < news = grind (arith, nat_tests) in
        let size = length_push ws w in
        let all : picked news test ws ≡ ws = (λ i. take_all news ws (omega (arith, few)) i ++ filter test (drop_all news ws (omega (arith, few)) i)) ∙ append-nil ws in
        (λ i. take_all news (ws ++ w ∷ []) (omega (arith, few, size)) i ++ filter test (drop_all news (ws ++ w ∷ []) (omega (arith, few, size)) i))
        ∙ append-nil (ws ++ w ∷ []) ∙ ap (λ vs. vs ++ w ∷ []) (sym all)
    go false high =
        let many : news ≤ length ws = grind (arith, nat_tests) in
        (λ i. take-append-le news ws (w ∷ []) many i ++ filter test (drop-append-le news ws (w ∷ []) many i))
        ∙ ap (λ vs. take news ws ++ vs) (filter-append test (drop news ws) (w ∷ []))
        ∙ sym (append_assoc (take news ws) (filter test (drop news ws)) (filter test (w ∷ [])))
        ∙ last (test w) (picked news test ws)

rows_more : (place : Write → Place) (is_changed : Bool) (ws : List Write) (w : Write)
    → cond is_changed (map (undo_with place) ws ++ undo_with place w ∷ []) (map (undo_with place) ws) ≡ map (undo_with place) (cond is_changed (ws ++ w ∷ []) ws)
rows_more place true ws w = sym (map-append (undo_with place) ws (w ∷ []))
rows_more place false ws w = refl

pub as_many-more : {A B : Type 0} (is_changed : Bool) (xs : List A) (ys : List B) (x : A) (y : B)
    → length xs ≡ length ys → length (cond is_changed (xs ++ x ∷ []) xs) ≡ length (cond is_changed (ys ++ y ∷ []) ys)
as_many-more true xs ys x y e = let m = length-append xs (x ∷ []) in let n = length-append ys (y ∷ []) in omega (arith, m, n, e)
as_many-more false xs ys x y e = e

-- one write more, and what undoes it
pub changed_more : (news : ℕ) (test : Write → Bool) (place : Write → Place) (done : List Write) (w : Write) (u : UndoRow) (is_changed : Bool)
    (writes now : List Write) (us them : List UndoRow) → u ≡ undo_with place w → is_changed ≡ (ltb (length done) news || test w)
    → now ≡ cond is_changed (writes ++ w ∷ []) writes → them ≡ cond is_changed (us ++ u ∷ []) us
    → (writes ≡ picked news test done) × (us ≡ map (undo_with place) (picked news test done))
    → (now ≡ picked news test (done ++ w ∷ [])) × (them ≡ map (undo_with place) (picked news test (done ++ w ∷ [])))
changed_more news test place done w u is_changed writes now us them mine e now_is them_is (have, have_rows) =
    let more = picked_more news test done w is_changed e in (
      now_is ∙ ap (λ vs. cond is_changed (vs ++ w ∷ []) vs) have ∙ sym more,
      them_is ∙ (λ i. cond is_changed (have_rows i ++ mine i ∷ []) (have_rows i)) ∙ rows_more place is_changed (picked news test done) w ∙ sym (ap (map (undo_with place)) more),
    )

-- the row of a write that comes next
pub row_next : (f : Write → UndoRow) (ws : List Write) (us : List UndoRow) (k : ℕ) (w : Write) (u : UndoRow) → k < length ws → w ≡ get_or ws k w → u ≡ get_or us k u → us ≡ map f ws → u ≡ f w
row_next f ws us k w u h is_w is_u are = is_u ∙ ap (λ xs. get_or xs k u) are ∙ get_or-map f ws k w u h ∙ ap f (sym is_w)

-- the first writes, and the others that pass
pub picked_parts : (test : Write → Bool) (vs ws : List Write) → picked (length vs) test (vs ++ ws) ≡ vs ++ filter test ws
picked_parts test [] ws = refl
picked_parts test (v ∷ vs) ws = ap (λ us. v ∷ us) (picked_parts test vs ws)

-- each write that is executed has a row
pub as_many_rows : (b : Rows) (ws : List Write) → length ws ≡ length (undo_rows_of b ws)
as_many_rows b [] = refl
as_many_rows b (w ∷ ws) = ap (λ n. suc n) (as_many_rows (executed b w) ws)
