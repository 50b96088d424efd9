-- Ids that are not given out yet are in no row.
use Rattle.std.proofs.Common.{◌≡◌, refl, sym, ap, ◌∙◌, ◌<◌, Bool, false, ◌||◌, List, [], ◌∷◌, ◌++◌, map, inl, inr}
use Rattle.std.proofs.lemmas.Bool.{false_from_ne_true}
use Rattle.std.specs.List.{list_any}
use Rattle.mr_model.specs.Dropped.{Has}
use Rattle.mr_model.specs.Writes.{Id, same_id}
use Rattle.mr_model.specs.Replica.{Replica, count_of}
use Rattle.mr_model.specs.Tables.{Tables, Stands, tables_of}
use Rattle.mr_model.specs.Queries.{booking_id, error_id, cancelled_id, cancel_id, log_id}
use Rattle.mr_agree.specs.Agreeing.{row_ids, log_ids}
use Rattle.mr_agree.specs.Ids.{has_place_of, has_row_of_id}
use Rattle.mr_model.proofs.Members.{has_left, has_right, same_id-true}
use Rattle.mr_agree.proofs.AgreeLog.{next_is_free}

-- an id that isn't among those of these rows
none_has : {R : Type 0} (key : R → Id) (id : Id) (rows : List R) → (Has id (map key rows) → ⊥) → list_any (λ r. same_id (key r) id) rows ≡ false
none_has key id [] never = refl
none_has key id (x ∷ rows) never =
    both (same_id (key x) id) (list_any (λ r. same_id (key r) id) rows) (false_from_ne_true (same_id (key x) id) (λ e. never (inl (sym (same_id-true (key x) id e)))))
    (none_has key id rows (λ h. never (inr h)))
  where
    both : (a b : Bool) → a ≡ false → b ≡ false → (a || b) ≡ false
    both a b p q = ap (λ x. x || b) p ∙ q

neither : (a b : Bool) → a ≡ false → b ≡ false → (a || b) ≡ false
neither a b p q = ap (λ x. x || b) p ∙ q

no_place_has : (t : Tables) (id : Id) → (Has id (row_ids t) → ⊥) → has_place_of id t ≡ false
no_place_has t id never =
    let bookings = map booking_id t.booking in
    let errors = map error_id t.errorlog in
    let cancelled = map cancelled_id t.cancelled in
    let cancels = map cancel_id t.cancels in
    let behind : Has id (errors ++ (cancelled ++ cancels)) → ⊥ = λ h. never (has_right id bookings (errors ++ (cancelled ++ cancels)) h) in
    let last : Has id (cancelled ++ cancels) → ⊥ = λ h. behind (has_right id errors (cancelled ++ cancels) h) in
    neither (list_any (λ r. same_id (booking_id r) id) t.booking || list_any (λ r. same_id (error_id r) id) t.errorlog)
    (list_any (λ r. same_id (cancelled_id r) id) t.cancelled || list_any (λ r. same_id (cancel_id r) id) t.cancels)
    (neither (list_any (λ r. same_id (booking_id r) id) t.booking) (list_any (λ r. same_id (error_id r) id) t.errorlog)
    (none_has booking_id id t.booking (λ h. never (has_left id bookings (errors ++ (cancelled ++ cancels)) h)))
    (none_has error_id id t.errorlog (λ h. behind (has_left id errors (cancelled ++ cancels) h))))
    (neither (list_any (λ r. same_id (cancelled_id r) id) t.cancelled) (list_any (λ r. same_id (cancel_id r) id) t.cancels)
    (none_has cancelled_id id t.cancelled (λ h. last (has_left id cancelled cancels h)))
    (none_has cancel_id id t.cancels (λ h. last (has_right id cancelled cancels h))))

pub next_ids_are_free : (t : Tables) (r : Replica) (id : Id) → Stands t r → count_of r id.server < id.n → has_row_of_id id t ≡ false
next_ids_are_free t r id s l = ap (has_row_of_id id) s.are ∙ go (tables_of r) (next_is_free r id s.sound l)
  where
    go : (u : Tables) → (Has id (row_ids u) → ⊥) × (Has id (log_ids u) → ⊥) → has_row_of_id id u ≡ false
    go u never = neither (list_any (λ row. same_id (log_id row) id) u.log) (has_place_of id u) (none_has log_id id u.log never.1) (no_place_has u id never.0)
