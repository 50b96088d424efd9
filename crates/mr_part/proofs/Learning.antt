-- A candidate that takes a write or a commit shows the replica that takes it.
use Rattle.std.proofs.Common.{◌≡◌, ◌||◌, Bool, true, false, cond, List, [], ◌∷◌, ◌++◌, take, drop, ap, refl, sym, ◌∙◌, subst, append_assoc, inl}
use Rattle.std.specs.Prelude.{bytes_eq}
use Rattle.std.specs.List.{list_any, filter_map, cons_option}
use Rattle.std.proofs.lemmas.List.{take-append-drop}
use Rattle.std.proofs.lemmas.Slice.Eq.{bytes_eq-Decides}
use Rattle.std.proofs.lemmas.List.Elements.{filter_map-append}
use Rattle.mr_model.specs.Texts.{Text}
use Rattle.mr_model.specs.Writes.{Id, Write}
use Rattle.mr_model.specs.Replica.{Replica, IsReplica, write_with, text_before, with_write, with_room, tentative, add_write, add_commit}
use Rattle.mr_model.specs.Dropped.{Has}
use Rattle.mr_model.specs.Kept.{kept_in_order, kept_committed}
use Rattle.mr_model.specs.Changes.{IsNext, CommitMoved}
use Rattle.mr_model.proofs.Members.{has_right}
use Rattle.mr_model.proofs.KnownById.{with_id, tentative_known}
use Rattle.mr_model.proofs.TwinChanges.{drop-front}
use Rattle.mr_model.proofs.Orders.{committed-with, tentative-add_write}
use Rattle.mr_replay.proofs.Overlaid.{or_swap}

-- ---- rooms

-- a list with one room more
pub any-with_room : (name t : Text) (ts : List Text) → list_any (bytes_eq name) (with_room t ts) ≡ (bytes_eq name t || list_any (bytes_eq name) ts)
any-with_room name t [] = refl
any-with_room name t (x ∷ xs) = go (text_before t x) (bytes_eq t x) refl (any-with_room name t xs)
  where
    twice : (a b : Bool) → (a || b) ≡ (a || (a || b))
    twice true b = refl
    twice false b = refl

    go : (b c : Bool) → bytes_eq t x ≡ c → list_any (bytes_eq name) (with_room t xs) ≡ (bytes_eq name t || list_any (bytes_eq name) xs)
        → list_any (bytes_eq name) (cond b (t ∷ x ∷ xs) (cond c (x ∷ xs) (x ∷ with_room t xs))) ≡ (bytes_eq name t || (bytes_eq name x || list_any (bytes_eq name) xs))
    go true c e ih = refl
    go false true e ih = twice (bytes_eq name x) (list_any (bytes_eq name) xs) ∙ ap (λ s. bytes_eq name s || (bytes_eq name x || list_any (bytes_eq name) xs)) (sym ((bytes_eq-Decides t x).0 e))
    go false false e ih = ap (λ b. bytes_eq name x || b) ih ∙ or_swap (bytes_eq name x) (bytes_eq name t) (list_any (bytes_eq name) xs)

-- ---- a write

pub kept-learned : (r : Replica) (w : Write) → IsReplica r → IsNext r w → kept_in_order (add_write r w) ≡ kept_committed r ++ with_write w (tentative r)
kept-learned r w sound next =
    let inside = λ (id : Id) (h : Has id (drop r.dropped r.commits)). subst (Has id) (take-append-drop r.dropped r.commits) (has_right id (take r.dropped r.commits) (drop r.dropped r.commits) h) in
    λ t. committed-with r w (drop r.dropped r.commits) sound next inside t ++ tentative-add_write r w sound next t

-- ---- a commit

pub kept-moved : (r : Replica) (id : Id) → IsReplica r → (m : CommitMoved r id) → kept_in_order (add_commit r id) ≡ kept_committed r ++ m.moved ∷ (m.before ++ m.behind)
kept-moved r id sound m =
    let known = (tentative_known r m.moved (subst (Has m.moved) (sym m.was) (has_right m.moved m.before (m.moved ∷ m.behind) (inl refl)))).0 in
    let there = with_id r m.moved id sound known m.is_moved in
    let front : filter_map (write_with r) (drop r.dropped (r.commits ++ id ∷ [])) ≡ kept_committed r ++ m.moved ∷ [] =
    ap (filter_map (write_with r)) (drop-front r.dropped r.commits (id ∷ []) sound.dropped_committed)
    ∙ filter_map-append (write_with r) (drop r.dropped r.commits) (id ∷ []) ∙ ap (λ o. kept_committed r ++ cons_option o []) there in
    (λ t. front t ++ m.tentative_is t) ∙ append_assoc (kept_committed r) (m.moved ∷ []) (m.before ++ m.behind)
