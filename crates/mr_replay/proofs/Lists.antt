-- Lists of writes: different ids, the parts of rooms, and lists with one of them replaced.
use Rattle.std.proofs.Common.{◌≡◌, Bool, true, false, cond, List, [], ◌∷◌, ◌++◌, map, ap, refl, sym, ◌∙◌, subst, append-nil}
use Rattle.std.specs.Str.{bytes_eq}
use Rattle.std.proofs.lemmas.Bool.{true≢false, or_parts, or_from, false_from_ne_true, cond-true}
use Rattle.std.proofs.lemmas.List.{map-append}
use Rattle.std.proofs.lemmas.List.Elements.{filter-append}
use Rattle.std.proofs.lemmas.List.Folds.{list_any-append}
use Rattle.std.proofs.lemmas.Slice.Eq.{bytes_eq-Decides}
use Rattle.mr_model.specs.Texts.{Text}
use Rattle.mr_model.specs.Writes.{Id, Write, id_of, same_id}
use Rattle.mr_model.specs.Replica.{is_among}
use Rattle.mr_model.specs.View.{of_room}
use Rattle.mr_replay.specs.Holds.{AreDistinct, HaveDistinctIds, AreOfRoom, with_list}
use Rattle.mr_replay.proofs.IdKeys.{same_id_equivalence}

-- ---- names

pub one_name : (a b : Text) → bytes_eq a b ≡ true → a ≡ b
one_name a b e = (bytes_eq-Decides a b).0 e

pub same_name : (a b : Text) → a ≡ b → bytes_eq a b ≡ true
same_name a b e = (bytes_eq-Decides a b).1 e

-- a name that is equal to one of two different names is not equal to the other
pub other_name : (own room other : Text) → own ≡ room → bytes_eq other room ≡ false → bytes_eq own other ≡ false
other_name own room other is e = false_from_ne_true (bytes_eq own other) (λ h. true≢false (sym (same_name other room (sym (one_name own other h) ∙ is)) ∙ e))

-- ---- different ids

among-append : (i : Id) (xs ys : List Id) → is_among i (xs ++ ys) ≡ false → (is_among i xs ≡ false) × (is_among i ys ≡ false)
among-append i xs ys h = or_parts (is_among i xs) (is_among i ys) (sym (list_any-append (same_id i) xs ys) ∙ h)

distinct_ids-front : (is js : List Id) → AreDistinct (is ++ js) → AreDistinct is
distinct_ids-front [] js h = tt
distinct_ids-front (i ∷ is) js h = ((among-append i is js h.0).0, distinct_ids-front is js h.1)

distinct_ids-next : (is : List Id) (i : Id) (js : List Id) → AreDistinct (is ++ i ∷ js) → is_among i is ≡ false
distinct_ids-next [] i js h = refl
distinct_ids-next (k ∷ is) i js h =
    let here = or_parts (same_id k i) (is_among k js) (among-append k is (i ∷ js) h.0).1 in
    or_from _ _ (same_id_equivalence.symm i k ∙ here.0) (distinct_ids-next is i js h.1)

distinct_ids-back : (is js : List Id) → AreDistinct (is ++ js) → AreDistinct js
distinct_ids-back [] js h = h
distinct_ids-back (i ∷ is) js h = distinct_ids-back is js h.1

pub distinct_front : (ws vs : List Write) → HaveDistinctIds (ws ++ vs) → HaveDistinctIds ws
distinct_front ws vs h = distinct_ids-front (map id_of ws) (map id_of vs) (subst (λ is. AreDistinct is) (map-append id_of ws vs) h)

pub distinct_back : (ws vs : List Write) → HaveDistinctIds (ws ++ vs) → HaveDistinctIds vs
distinct_back ws vs h = distinct_ids-back (map id_of ws) (map id_of vs) (subst (λ is. AreDistinct is) (map-append id_of ws vs) h)

pub distinct_next : (ws : List Write) (w : Write) (vs : List Write) → HaveDistinctIds (ws ++ w ∷ vs) → is_among (id_of w) (map id_of ws) ≡ false
distinct_next ws w vs h = distinct_ids-next (map id_of ws) (id_of w) (map id_of vs) (subst (λ is. AreDistinct is) (map-append id_of ws (w ∷ vs)) h)

among_without : (i : Id) (is : List Id) (j : Id) (js : List Id) → is_among i (is ++ j ∷ js) ≡ false → is_among i (is ++ js) ≡ false
among_without i is j js h =
    let parts = among-append i is (j ∷ js) h in
    list_any-append (same_id i) is js ∙ or_from _ _ parts.0 (or_parts (same_id i j) (is_among i js) parts.1).1

distinct_ids-without : (is : List Id) (j : Id) (js : List Id) → AreDistinct (is ++ j ∷ js) → AreDistinct (is ++ js)
distinct_ids-without [] j js h = h.1
distinct_ids-without (i ∷ is) j js h = (among_without i is j js h.0, distinct_ids-without is j js h.1)

pub distinct_without : (ws : List Write) (v : Write) (vs : List Write) → HaveDistinctIds (ws ++ v ∷ vs) → HaveDistinctIds (ws ++ vs)
distinct_without ws v vs h =
    subst (λ is. AreDistinct is) (sym (map-append id_of ws vs)) (distinct_ids-without (map id_of ws) (id_of v) (map id_of vs) (subst (λ is. AreDistinct is) (map-append id_of ws (v ∷ vs)) h))

-- ---- the part of a room

among-cond : (i : Id) (w : Write) (ws : List Write) (b : Bool) → same_id i (id_of w) ≡ false → is_among i (map id_of ws) ≡ false → is_among i (map id_of (cond b (w ∷ ws) ws)) ≡ false
among-cond i w ws true p h = or_from _ _ p h
among-cond i w ws false p h = h

pub among-part : (room : Text) (ws : List Write) (i : Id) → is_among i (map id_of ws) ≡ false → is_among i (map id_of (of_room room ws)) ≡ false
among-part room [] i h = refl
among-part room (w ∷ ws) i h =
    let parts = or_parts (same_id i (id_of w)) (is_among i (map id_of ws)) h in
    among-cond i w (of_room room ws) (bytes_eq w.room room) parts.0 (among-part room ws i parts.1)

distinct-cond : (w : Write) (ws : List Write) (b : Bool) → is_among (id_of w) (map id_of ws) ≡ false → HaveDistinctIds ws → HaveDistinctIds (cond b (w ∷ ws) ws)
distinct-cond w ws true p h = (p, h)
distinct-cond w ws false p h = h

pub distinct-part : (room : Text) (ws : List Write) → HaveDistinctIds ws → HaveDistinctIds (of_room room ws)
distinct-part room [] h = tt
distinct-part room (w ∷ ws) h = distinct-cond w (of_room room ws) (bytes_eq w.room room) (among-part room ws (id_of w) h.0) (distinct-part room ws h.1)

pub part-own : (room : Text) (ws : List Write) (w : Write) → w.room ≡ room → of_room room (ws ++ w ∷ []) ≡ of_room room ws ++ w ∷ []
part-own room ws w is = filter-append (λ (v : Write). bytes_eq v.room room) ws (w ∷ []) ∙ ap (λ b. of_room room ws ++ cond b (w ∷ []) []) (same_name w.room room is)

pub part-other : (room : Text) (ws : List Write) (w : Write) → bytes_eq w.room room ≡ false → of_room room (ws ++ w ∷ []) ≡ of_room room ws
part-other room ws w e = filter-append (λ (v : Write). bytes_eq v.room room) ws (w ∷ []) ∙ ap (λ b. of_room room ws ++ cond b (w ∷ []) []) e ∙ append-nil (of_room room ws)

-- ---- a list in the place of a room's

pub with_list-own : (room : Text) (ws : List Write) (lists : Text → List Write) → with_list room ws lists room ≡ ws
with_list-own room ws lists = cond-true (bytes_eq room room) ws (lists room) (same_name room room refl)

pub with_list-twice : (room : Text) (ws vs : List Write) (lists : Text → List Write) → with_list room ws (with_list room vs lists) ≡ with_list room ws lists
with_list-twice room ws vs lists t other = go (bytes_eq other room) t
  where
    go : (b : Bool) → cond b ws (cond b vs (lists other)) ≡ cond b ws (lists other)
    go true = refl
    go false = refl

pub with_list-same : (room : Text) (ws : List Write) (lists : Text → List Write) → lists room ≡ ws → with_list room ws lists ≡ lists
with_list-same room ws lists is t other = go (bytes_eq other room) refl t
  where
    go : (b : Bool) → bytes_eq other room ≡ b → cond b ws (lists other) ≡ lists other
    go true e = sym is ∙ ap lists (sym (one_name other room e))
    go false e = refl

pub parts-push : (ws : List Write) (w : Write) → with_list w.room (of_room w.room ws ++ w ∷ []) (λ room. of_room room ws) ≡ (λ room. of_room room (ws ++ w ∷ []))
parts-push ws w t other = go (bytes_eq other w.room) refl t
  where
    go : (b : Bool) → bytes_eq other w.room ≡ b → cond b (of_room w.room ws ++ w ∷ []) (of_room other ws) ≡ of_room other (ws ++ w ∷ [])
    go true e = ap (λ r. of_room r ws ++ w ∷ []) (sym (one_name other w.room e)) ∙ sym (part-own other ws w (sym (one_name other w.room e)))
    go false e = sym (part-other other ws w (other_name w.room w.room other refl e))

pub parts-pop : (ws : List Write) (w : Write) → with_list w.room (of_room w.room ws) (λ room. of_room room (ws ++ w ∷ [])) ≡ (λ room. of_room room ws)
parts-pop ws w t other = go (bytes_eq other w.room) refl t
  where
    go : (b : Bool) → bytes_eq other w.room ≡ b → cond b (of_room w.room ws) (of_room other (ws ++ w ∷ [])) ≡ of_room other ws
    go true e = ap (λ r. of_room r ws) (sym (one_name other w.room e))
    go false e = part-other other ws w (other_name w.room w.room other refl e)

pub of_room-front : (room : Text) (ws vs : List Write) → AreOfRoom room (ws ++ vs) → AreOfRoom room ws
of_room-front room [] vs h = tt
of_room-front room (w ∷ ws) vs h = (h.0, of_room-front room ws vs h.1)

pub of_room-next : (room : Text) (ws : List Write) (w : Write) (vs : List Write) → AreOfRoom room (ws ++ w ∷ vs) → w.room ≡ room
of_room-next room [] w vs h = h.0
of_room-next room (v ∷ ws) w vs h = of_room-next room ws w vs h.1

-- a room's part of writes that are all of it
pub part-all : (room own : Text) (ws : List Write) → own ≡ room → AreOfRoom room ws → of_room own ws ≡ ws
part-all room own [] is h = refl
part-all room own (w ∷ ws) is h =
    cond-true (bytes_eq w.room own) (w ∷ of_room own ws) (of_room own ws) (same_name w.room own (h.0 ∙ sym is)) ∙ ap (λ vs. w ∷ vs) (part-all room own ws is h.1)

pub of_room-back : (room : Text) (ws vs : List Write) → AreOfRoom room (ws ++ vs) → AreOfRoom room vs
of_room-back room [] vs h = h
of_room-back room (w ∷ ws) vs h = of_room-back room ws vs h.1

pub of_room-append : (room : Text) (ws vs : List Write) → AreOfRoom room ws → AreOfRoom room vs → AreOfRoom room (ws ++ vs)
of_room-append room [] vs a c = c
of_room-append room (w ∷ ws) vs a c = (a.0, of_room-append room ws vs a.1 c)
