-- Ordered sets of what the items of a batch name, and of rooms: how they are filled, and what they are asked.
use Rattle.std.proofs.Common.{◌≡◌, refl, sym, ap, ◌∙◌, Bool, true, false, not, ◌||◌, ◌&&◌, cond}
use Rattle.std.proofs.lemmas.Map.Text.{is_eq-slice_cmp}
use Rattle.std.proofs.lemmas.Slice.Eq.{bytes_eq-Decides}
use Rattle.std.specs.BTreeSet.{BTreeSet, Updates}
use Rattle.std.specs.Cmp.Lexicographic.{slice_cmp}
use Rattle.std.specs.List.{list_any}
use Rattle.std.specs.Ordering.{nat_cmp}
use Rattle.std.specs.Prelude.{bytes_eq}
use Rattle.mr_model.specs.Texts.{Text}
use Rattle.mr_model.specs.Writes.{Id, same_id}
use Rattle.mr_model.proofs.MembersAlike.{bool_same}
use Rattle.mr_base.specs.Ids.{id_cmp}
use Rattle.mr_replay.proofs.IdKeys.{at_is}
use Rattle.mr_part.specs.Sets.{has_id, IsSetOf}
use Rattle.mr_replay.specs.Seen.{has_room}

-- what is added to a set so far, beside what is left
pub added_more : (new old added left all : Bool) → new ≡ (added || old) → (old || (added || left)) ≡ all → (new || left) ≡ all
added_more new old added left all now was = ap (λ b. b || left) now ∙ swapped added old ∙ was
  where
    swapped : (a b : Bool) → ((a || b) || left) ≡ (b || (a || left))
    swapped true true = refl
    swapped true false = refl
    swapped false b = refl

or-cond : (a b : Bool) → cond a true b ≡ (a || b)
or-cond true b = refl
or-cond false b = refl

-- a set with one id more
pub id_more : (old new : BTreeSet Id) (added id : Id) → Updates id_cmp old new added true → has_id new id ≡ (same_id added id || has_id old id)
id_more old new added id updates =
    updates.0 id ∙ (λ t. cond (at_is t added id) true (has_id old id)) ∙ or-cond (same_id added id) (has_id old id)

-- ---- rooms

bytes_swap : (a b : Text) → bytes_eq a b ≡ bytes_eq b a
bytes_swap a b =
    bool_same (bytes_eq a b) (bytes_eq b a) (λ e. (bytes_eq-Decides b a).1 (sym ((bytes_eq-Decides a b).0 e))) (λ e. (bytes_eq-Decides a b).1 (sym ((bytes_eq-Decides b a).0 e)))

-- a set with one room more
pub room_more : (old new : BTreeSet Text) (added name : Text) → Updates (slice_cmp nat_cmp) old new added true → has_room new name ≡ (bytes_eq name added || has_room old name)
room_more old new added name updates =
    updates.0 name ∙ ap (λ b. cond b true (has_room old name)) (is_eq-slice_cmp added name ∙ bytes_swap added name)
    ∙ or-cond (bytes_eq name added) (has_room old name)

-- and with one less
pub room_less : (old new : BTreeSet Text) (gone name : Text) → Updates (slice_cmp nat_cmp) old new gone false → has_room new name ≡ (not (bytes_eq name gone) && has_room old name)
room_less old new gone name updates = updates.0 name ∙ ap (λ b. cond b false (has_room old name)) (is_eq-slice_cmp gone name ∙ bytes_swap gone name) ∙ go (bytes_eq name gone) (has_room old name)
  where
    go : (a b : Bool) → cond a false b ≡ (not a && b)
    go true b = refl
    go false b = refl

-- a set has its keys
pub set_of_keys : (set : BTreeSet Text) → IsSetOf set set.keys
set_of_keys set room = λ t. list_any (λ name. is_eq-slice_cmp room name t) set.keys
