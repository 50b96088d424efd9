-- The tentative rows that a batch may move: room by room, and all of them.
use Rattle.std.proofs.Common.{◌≡◌, ℕ, nat_lt, Bool, true, false, ◌&&◌, ◌||◌, List, [], ◌∷◌, ◌⊎◌, inl, inr, length, refl, sym, ap, ◌∙◌, arith}
use Rattle.std.proofs.lemmas.Bool.{and_parts, and_from, or_cases, or_left, or_parts, or_right}
use Rattle.std.specs.BTreeMap.{is_at}
use Rattle.std.specs.BTreeSet.{BTreeSet}
use Rattle.std.specs.List.{filter, list_any}
use Rattle.std.specs.Str.{bytes_eq}
use Rattle.mr_model.specs.Exchange.{Item, W, C}
use Rattle.mr_model.specs.Scopes.{is_behind_item, is_tentative, is_in_tail, is_new_commit}
use Rattle.mr_model.specs.Tables.{LogRow}
use Rattle.mr_model.specs.Texts.{Text}
use Rattle.mr_model.specs.Writes.{Id, same_id}
use Rattle.mr_base.specs.Ids.{id_cmp}
use Rattle.mr_model.proofs.Members.{filter_has, has_filter, same_id_refl}
use Rattle.mr_replay.proofs.IdKeys.{at_equivalence}
use Rattle.mr_replay.proofs.Lists.{one_name}
use Rattle.mr_replay.specs.Seen.{has_room}
use Rattle.mr_part.specs.declared.tail.Tail.{Tail}
use Rattle.mr_part.specs.declared.tail.Tail.TheVariants.{Nothing}
use Rattle.mr_part.specs.Tails.{has_place, IsTail}
use Rattle.mr_part.specs.Touched.{commits_id, writes_in}
use Rattle.mr_part.proofs.Sets.{set_of_keys}
use Rattle.mr_replica.specs.Needed.{is_late_in, is_late_row}
use Rattle.mr_replica.specs.RowKeys.{is_between, log_end, log_key, tail_end, AreBetween, AreThose}
use Rattle.mr_replica.proofs.LogEnds.{commits_between, tail_between}
use Rattle.mr_replica.proofs.NamedRows.{those_same}

-- of one room
pub late_in_room : (room : Text) (tail : Tail) (all rows : List LogRow) → AreBetween log_key (tail_end room tail) (tail_end room Nothing) all rows
    → AreThose (is_late_in (λ name. bytes_eq name room) tail) all (filter (λ r. bytes_eq r.room room) rows)
late_in_room room tail all rows found = (
  λ r h.
      let (there, same) = filter_has (λ r. bytes_eq r.room room) r rows h in
      let (own, between) = found.own r there in
      (own, and_from (is_tentative r && has_place tail r.time r.server) (bytes_eq r.room room) (sym (tail_between room tail r (one_name r.room room same)) ∙ between) same),
  λ r h passes.
      let (late, same) = and_parts (is_tentative r && has_place tail r.time r.server) (bytes_eq r.room room) passes in
      has_filter (λ r. bytes_eq r.room room) r rows same (found.each r h (tail_between room tail r (one_name r.room room same) ∙ late)),
)

-- of one room more
pub late_next : (tail : Tail) (room : Text) (rest : List Text) (p : Bool) (r : LogRow)
    → ((p || is_late_in (λ name. bytes_eq name room) tail r) || is_late_in (λ name. list_any (bytes_eq name) rest) tail r) ≡ (p || is_late_in (λ name. list_any (bytes_eq name) (room ∷ rest)) tail r)
late_next tail room rest p r = go p (is_tentative r && has_place tail r.time r.server) (bytes_eq r.room room)
  where
    go : (p late one : Bool) → ((p || (late && one)) || (late && list_any (bytes_eq r.room) rest)) ≡ (p || (late && (one || list_any (bytes_eq r.room) rest)))
    go true late one = refl
    go false true true = refl
    go false true false = refl
    go false false one = refl

pub late_first : (tail : Tail) (rooms : BTreeSet Text) (r : LogRow) → is_late_in (λ name. list_any (bytes_eq name) rooms.keys) tail r ≡ is_late_in (has_room rooms) tail r
late_first tail rooms r = ap (λ b. (is_tentative r && has_place tail r.time r.server) && b) (sym (set_of_keys rooms r.room))

pub late_last : (tail : Tail) (p : Bool) (r : LogRow) → (p || is_late_in (λ name. list_any (bytes_eq name) []) tail r) ≡ p
late_last tail true r = refl
late_last tail false r = go (is_tentative r && has_place tail r.time r.server)
  where
    go : (b : Bool) → (b && false) ≡ false
    go true = refl
    go false = refl

-- ---- whether the batch has a new commit

module _ (known : ℕ) where
  none_new : (items : List Item) → ((id : Id) → list_any (commits_id known id) items ≡ false) → list_any (is_new_commit known) items ≡ false
  none_new [] none = refl
  none_new (W w ∷ items) none = none_new items none
  none_new (C seq id ∷ items) none =
      (λ t. old (nat_lt known seq) (or_parts (nat_lt known seq && same_id id id) (list_any (commits_id known id) items) (none id)).0 t
      || none_new items (λ j. (or_parts (nat_lt known seq && same_id id j) (list_any (commits_id known j) items) (none j)).1) t)
    where
      old : (b : Bool) → (b && same_id id id) ≡ false → b ≡ false
      old true e = sym (same_id_refl id) ∙ e
      old false e = refl

  one_new : (items : List Item) (id : Id) → list_any (commits_id known id) items ≡ true → list_any (is_new_commit known) items ≡ true
  one_new [] id some = some
  one_new (W w ∷ items) id some = one_new items id some
  one_new (C seq other ∷ items) id some = go (one_new items id) (or_cases (nat_lt known seq && same_id other id) (list_any (commits_id known id) items) some)
    where
      go : (list_any (commits_id known id) items ≡ true → list_any (is_new_commit known) items ≡ true) → ((nat_lt known seq && same_id other id) ≡ true)
          ⊎ (list_any (commits_id known id) items ≡ true) → (nat_lt known seq || list_any (is_new_commit known) items) ≡ true
      go ih (inl e) = or_left (nat_lt known seq) (list_any (is_new_commit known) items) (and_parts (nat_lt known seq) (same_id other id) e).0
      go ih (inr e) = or_right (nat_lt known seq) (list_any (is_new_commit known) items) (ih e)

  -- it has none if it names no id by one
  pub no_commit : (items : List Item) (ids : List Id) → ((id : Id) → list_any (is_at (id_cmp id)) ids ≡ list_any (commits_id known id) items)
      → length ids ≡ 0 → list_any (is_new_commit known) items ≡ false
  no_commit items [] named none = none_new items (λ id. sym (named id))
  no_commit items (id ∷ ids) named none = absurd (omega (arith, none))

  pub some_commit : (items : List Item) (ids : List Id) → ((id : Id) → list_any (is_at (id_cmp id)) ids ≡ list_any (commits_id known id) items)
      → (length ids ≡ 0 → ⊥) → list_any (is_new_commit known) items ≡ true
  some_commit items [] named some = absurd (some refl)
  some_commit items (id ∷ ids) named some = one_new items id (sym (named id) ∙ or_left (is_at (id_cmp id) id) (list_any (is_at (id_cmp id)) ids) (at_equivalence.refl id))

-- where it has no new commit
pub late_written : (known : ℕ) (items : List Item) (rooms : BTreeSet Text) (tail : Tail) (all rows : List LogRow)
    → list_any (is_new_commit known) items ≡ false → IsTail tail known items → ((room : Text) → has_room rooms room ≡ list_any (writes_in room) items)
    → AreThose (is_late_in (has_room rooms) tail) all rows → AreThose (is_late_row known items) all rows
late_written known items rooms tail all rows none tells written =
    those_same (is_late_in (has_room rooms) tail) (is_late_row known items) all rows
    (λ r.
    (λ t. (is_tentative r && tells r.time r.server t) && written r.room t)
    ∙ ap (λ b. is_in_tail known items r && (b || list_any (writes_in r.room) items)) (sym none))

-- where it has one
pub late_all : (known : ℕ) (items : List Item) → list_any (is_new_commit known) items ≡ true → (r : LogRow) → is_between (log_end 2) (log_end 4) (log_key r) ≡ is_late_row known items r
late_all known items some r =
    commits_between r ∙ go (is_tentative r) ∙ ap (λ b. (is_tentative r && (b || late)) && (b || list_any (writes_in r.room) items)) (sym some)
  where
    late : Bool
    late = list_any (is_behind_item r.time r.server) items

    go : (b : Bool) → b ≡ ((b && (true || late)) && (true || list_any (writes_in r.room) items))
    go true = refl
    go false = refl
