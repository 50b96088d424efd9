-- The replicas of a world and those that they stand for, one after the other.
use Rattle.std.proofs.Common.{◌≡◌, refl, sym, ap, subst, ◌∙◌, ℕ, zero, suc, ◌<◌, ◌≤◌, true, false, eqb, eqb-true, eq-eqb, List}
use Rattle.std.proofs.Common.{[], ◌∷◌, ◌++◌, length, get_or, Some, None, not-suc-le-zero, le_of_suc-le-suc, inl, inr, ◌⊎◌}
use Rattle.std.proofs.lemmas.Bool.{cases_Bool, cond-true, cond-false}
use Rattle.std.proofs.lemmas.Option.{none-some, same_Some}
use Rattle.std.specs.List.{find, slice_get, slice_set}
use Rattle.mr_model.specs.Replica.{Replica}
use Rattle.mr_model.specs.World.{put_replica, primary_among}
use Rattle.mr_service.specs.Worlds.{MemberView, StandsForMember, StandForAll, member_index, primary_in}

-- the first replica with a server, and what becomes of all where another takes its place
pub record FoundAt (ms : List MemberView) (rs : List Replica) (s : ℕ) : Type 0 where
  pub replica : Replica
  pub found : find (λ r. eqb r.server s) rs ≡ Some replica
  pub at : slice_get rs (member_index ms s) ≡ Some replica
  pub its_server : replica.server ≡ s
  pub stands : (m : MemberView) → m ≡ get_or ms (member_index ms s) m → StandsForMember m replica
  pub put : (m : MemberView) (r : Replica) → StandsForMember m r → r.server ≡ s → StandForAll (slice_set ms (member_index ms s) m) (put_replica r rs)

found_here : (m : MemberView) (ms : List MemberView) (r : Replica) (rs : List Replica) (s : ℕ) → StandsForMember m r → StandForAll ms rs → eqb m.server s ≡ true → FoundAt (m ∷ ms) (r ∷ rs) s
found_here m ms r rs s h hs e =
    let place : member_index (m ∷ ms) s ≡ 0 = cond-true (eqb m.server s) 0 (suc (member_index ms s)) e in
    let own : r.server ≡ s = sym h.server ∙ eqb-true m.server s e in
    record {
      replica = r;
      found = cond-true (eqb r.server s) (Some r) (find (λ x. eqb x.server s) rs) (eq-eqb r.server s own);
      at = ap (slice_get (r ∷ rs)) place;
      its_server = own;
      stands = λ x is. subst (λ y. StandsForMember y r) (sym (is ∙ ap (λ k. get_or (m ∷ ms) k x) place)) h;
      put =
          λ x y there same.
          subst (λ k. StandForAll (slice_set (m ∷ ms) k x) (put_replica y (r ∷ rs))) (sym place)
          (subst (λ ys. StandForAll (x ∷ ms) ys) (sym (cond-true (eqb r.server y.server) (y ∷ rs) (r ∷ put_replica y rs) (eq-eqb r.server y.server (own ∙ sym same)))) (there, hs));
    }

found_behind : (m : MemberView) (ms : List MemberView) (r : Replica) (rs : List Replica) (s : ℕ) → StandsForMember m r → eqb m.server s ≡ false → FoundAt ms rs s → FoundAt (m ∷ ms) (r ∷ rs) s
found_behind m ms r rs s h e f =
    let place : member_index (m ∷ ms) s ≡ suc (member_index ms s) = cond-false (eqb m.server s) 0 (suc (member_index ms s)) e in
    let other : eqb r.server s ≡ false = ap (λ n. eqb n s) (sym h.server) ∙ e in
    record {
      replica = f.replica;
      found = cond-false (eqb r.server s) (Some r) (find (λ x. eqb x.server s) rs) other ∙ f.found;
      at = ap (slice_get (r ∷ rs)) place ∙ f.at;
      its_server = f.its_server;
      stands = λ x is. f.stands x (is ∙ ap (λ k. get_or (m ∷ ms) k x) place);
      put =
          λ x y there same.
          subst (λ k. StandForAll (slice_set (m ∷ ms) k x) (put_replica y (r ∷ rs))) (sym place)
          (subst (λ ys. StandForAll (m ∷ slice_set ms (member_index ms s) x) ys) (sym (cond-false (eqb r.server y.server) (y ∷ rs) (r ∷ put_replica y rs) (ap (eqb r.server) same ∙ other)))
          (h, f.put x y there same));
    }

-- a replica with the server is found at its place
pub found_at : (ms : List MemberView) (rs : List Replica) (s : ℕ) → StandForAll ms rs → member_index ms s < length ms → FoundAt ms rs s
found_at [] rs s h low = absurd (not-suc-le-zero low)
found_at (m ∷ ms) [] s h low = absurd h
found_at (m ∷ ms) (r ∷ rs) s h low = go (found_at ms rs s h.1) (cases_Bool (eqb m.server s))
  where
    go : (member_index ms s < length ms → FoundAt ms rs s) → (eqb m.server s ≡ true) ⊎ (eqb m.server s ≡ false) → FoundAt (m ∷ ms) (r ∷ rs) s
    go later (inl e) = found_here m ms r rs s h.0 h.1 e
    go later (inr e) =
        let place : member_index (m ∷ ms) s ≡ suc (member_index ms s) = cond-false (eqb m.server s) 0 (suc (member_index ms s)) e in
        found_behind m ms r rs s h.0 e (later (le_of_suc-le-suc (subst (λ k. k < suc (length ms)) place low)))

-- where all replicas stand before it, there is none
pub found_none : (ms : List MemberView) (rs : List Replica) (s : ℕ) → StandForAll ms rs → length ms ≤ member_index ms s → find (λ r. eqb r.server s) rs ≡ None
found_none [] [] s h low = refl
found_none [] (r ∷ rs) s h low = absurd h
found_none (m ∷ ms) [] s h low = absurd h
found_none (m ∷ ms) (r ∷ rs) s h low = go (found_none ms rs s h.1) (cases_Bool (eqb m.server s))
  where
    go : (length ms ≤ member_index ms s → find (λ x. eqb x.server s) rs ≡ None) → (eqb m.server s ≡ true) ⊎ (eqb m.server s ≡ false) → find (λ x. eqb x.server s) (r ∷ rs) ≡ None
    go later (inl e) =
        let place : member_index (m ∷ ms) s ≡ 0 = cond-true (eqb m.server s) 0 (suc (member_index ms s)) e in
        absurd (not-suc-le-zero (subst (λ k. suc (length ms) ≤ k) place low))
    go later (inr e) =
        let place : member_index (m ∷ ms) s ≡ suc (member_index ms s) = cond-false (eqb m.server s) 0 (suc (member_index ms s)) e in
        cond-false (eqb r.server s) (Some r) (find (λ x. eqb x.server s) rs) (ap (λ n. eqb n s) (sym h.0.server) ∙ e)
        ∙ later (le_of_suc-le-suc (subst (λ k. suc (length ms) ≤ k) place low))

-- one replica more
pub stand_more : (ms : List MemberView) (rs : List Replica) (m : MemberView) (r : Replica) → StandForAll ms rs → StandsForMember m r → StandForAll (ms ++ m ∷ []) (rs ++ r ∷ [])
stand_more [] [] m r h k = (k, tt)
stand_more [] (x ∷ rs) m r h k = absurd h
stand_more (y ∷ ms) [] m r h k = absurd h
stand_more (y ∷ ms) (x ∷ rs) m r h k = (h.0, stand_more ms rs m r h.1 k)

-- the primary of the first replica
pub same_primary : (ms : List MemberView) (rs : List Replica) (s : ℕ) → StandForAll ms rs → primary_in ms s ≡ primary_among rs s
same_primary [] [] s h = refl
same_primary [] (r ∷ rs) s h = absurd h
same_primary (m ∷ ms) [] s h = absurd h
same_primary (m ∷ ms) (r ∷ rs) s h = h.0.primary

-- a replica that is put in its own place changes nothing
pub put_itself : (rs : List Replica) (r : Replica) (s : ℕ) → r.server ≡ s → find (λ x. eqb x.server s) rs ≡ Some r → put_replica r rs ≡ rs
put_itself [] r s own e = absurd (none-some r e)
put_itself (x ∷ rs) r s own e = go (put_itself rs r s own) (cases_Bool (eqb x.server s))
  where
    go : (find (λ y. eqb y.server s) rs ≡ Some r → put_replica r rs ≡ rs) → (eqb x.server s ≡ true) ⊎ (eqb x.server s ≡ false) → put_replica r (x ∷ rs) ≡ x ∷ rs
    go later (inl t) =
        let same : x ≡ r = same_Some x r (sym (cond-true (eqb x.server s) (Some x) (find (λ y. eqb y.server s) rs) t) ∙ e) in
        cond-true (eqb x.server r.server) (r ∷ rs) (x ∷ put_replica r rs) (eq-eqb x.server r.server (ap (λ (y : Replica). y.server) same)) ∙ ap (λ y. y ∷ rs) (sym same)
    go later (inr f) =
        cond-false (eqb x.server r.server) (r ∷ rs) (x ∷ put_replica r rs) (ap (eqb x.server) own ∙ f)
        ∙ ap (λ ys. x ∷ ys) (later (sym (cond-false (eqb x.server s) (Some x) (find (λ y. eqb y.server s) rs) f) ∙ e))

-- ---- places

-- at each place a replica stands for its own
pub stand_at : (ms : List MemberView) (rs : List Replica) (k : ℕ) (m : MemberView) (r : Replica) → StandForAll ms rs → k < length ms → m ≡ get_or ms k m → slice_get rs k ≡ Some r → StandsForMember m r
stand_at [] rs k m r h low is e = absurd (not-suc-le-zero low)
stand_at (x ∷ ms) [] k m r h low is e = absurd h
stand_at (x ∷ ms) (y ∷ rs) zero m r h low is e = subst (λ z. StandsForMember m z) (same_Some y r e) (subst (λ z. StandsForMember z y) (sym is) h.0)
stand_at (x ∷ ms) (y ∷ rs) (suc k) m r h low is e = stand_at ms rs k m r h.1 (le_of_suc-le-suc low) is e

-- one that stands for all that another stood for may take its place
pub stand_still : (ms : List MemberView) (rs : List Replica) (k : ℕ) (m after : MemberView) → ((r : Replica) → StandsForMember m r → StandsForMember after r)
    → k < length ms → m ≡ get_or ms k m → StandForAll ms rs → StandForAll (slice_set ms k after) rs
stand_still [] rs k m after keeps low is h = absurd (not-suc-le-zero low)
stand_still (x ∷ ms) [] k m after keeps low is h = absurd h
stand_still (x ∷ ms) (y ∷ rs) zero m after keeps low is h = (keeps y (subst (λ z. StandsForMember z y) (sym is) h.0), h.1)
stand_still (x ∷ ms) (y ∷ rs) (suc k) m after keeps low is h = (h.0, stand_still ms rs k m after keeps (le_of_suc-le-suc low) is h.1)
