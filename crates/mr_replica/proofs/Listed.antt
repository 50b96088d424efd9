-- What is listed of rooms and days: keys of rows between the ends of a room or a day, and the order of a calendar.
use Rattle.std.proofs.Common.{◌≡◌, refl, sym, ap, ◌∙◌, ℕ, true, false, not, List, [], ◌∷◌, inl, inr, Option, Some, None}
use Rattle.std.specs.List.{filter}
use Rattle.std.specs.Ordering.{is_lt, is_le, is_gt, nat_cmp, ordering_then, ordering_reverse}
use Rattle.std.specs.Cmp.Lexicographic.{slice_cmp}
use Rattle.std.specs.declared.cmp.Ordering.{Ordering}
use Rattle.std.specs.declared.cmp.Ordering.TheVariants.{Less, Equal, Greater}
use Rattle.std.specs.Str.{bytes_eq}
use Rattle.std.proofs.lemmas.Bool.{and_parts, and_from}
use Rattle.mr_model.specs.Calendar.{Date}
use Rattle.mr_model.specs.Dropped.{Has}
use Rattle.mr_model.specs.Queries.{booking_id}
use Rattle.mr_model.specs.Tables.{BookingRow}
use Rattle.mr_model.specs.Texts.{Text}
use Rattle.mr_model.specs.Writes.{Id}
use Rattle.mr_model.proofs.Members.{Sorted, all_has, has_all, filter_has, sorted_filter}
use Rattle.mr_model.proofs.SlotTests.{same_date-true}
use Rattle.mr_replay.specs.Index.{padded}
use Rattle.mr_replay.proofs.Lists.{one_name}
use Rattle.mr_tables.specs.Change.{id_before}
use Rattle.mr_tables.specs.TableOrders.{InOrder}
use Rattle.mr_replica.specs.declared.row_key.RowKey.{RowKey}
use Rattle.mr_replica.specs.Calendar.{is_asked, AreListed}
use Rattle.mr_replica.specs.Picked.{is_day_asked, booking_before}
use Rattle.mr_replica.specs.RowKeys.{row_key_cmp, key_before, key_at, booking_key, row_end_key, is_between, AreBetween}
use Rattle.mr_replica.proofs.ByKeys.{tied, tied_names, picked}
use Rattle.mr_replica.proofs.CalendarOrder.{booking_total, booking_cmp-before}
use Rattle.mr_replica.proofs.SameMembers.{sorted_by}
use Rattle.mr_replay.proofs.IdKeys.{is_lt-Less}

tied_days : (day : Date) (o : Ordering) → ordering_then (nat_cmp day.year day.year) (ordering_then (nat_cmp day.month day.month) (ordering_then (nat_cmp day.day day.day) o)) ≡ o
tied_days day o = tied day.year _ ∙ tied day.month _ ∙ tied day.day o

module _ (room : Text) (day : Option Date) where
  -- ---- the ends

  -- the key of a row of the room and the day is between the ends
  pub inside : (name : Text) (date : Date) (start : ℕ) (i : Id) → bytes_eq name room ≡ true → is_day_asked day date ≡ true
      → is_between (row_end_key 0 room day) (row_end_key 2 room day) (key_at 1 name 1 date 1 start i) ≡ true
  inside name date start i same on = within day (one_name name room same) on
    where
      names : name ≡ room → (o : Ordering) → ordering_then (slice_cmp nat_cmp (padded room) (padded name)) o ≡ o
      names is o = ap (λ n. ordering_then (slice_cmp nat_cmp (padded room) (padded n)) o) is ∙ tied_names (padded room) o

      within : (d : Option Date) → name ≡ room → is_day_asked d date ≡ true → is_between (row_end_key 0 room d) (row_end_key 2 room d) (key_at 1 name 1 date 1 start i) ≡ true
      within None is on = and_from _ _ (ap is_le (names is Less)) (ap (λ o. not (is_lt o)) (names is Greater))
      within (Some d) is on =
          let days : date ≡ d = same_date-true date d on in
          let ends : (o : Ordering) → ordering_then (nat_cmp d.year date.year) (ordering_then (nat_cmp d.month date.month) (ordering_then (nat_cmp d.day date.day) o)) ≡ o =
          λ o. ap (λ (x : Date). ordering_then (nat_cmp d.year x.year) (ordering_then (nat_cmp d.month x.month) (ordering_then (nat_cmp d.day x.day) o))) days ∙ tied_days d o
          in
          and_from _ _ (ap is_le (names is _ ∙ ends Less)) (ap (λ o. not (is_lt o)) (names is _ ∙ ends Greater))

  pub ends_rise : (first last : RowKey) → first ≡ row_end_key 0 room day → last ≡ row_end_key 2 room day → is_gt (row_key_cmp first last) ≡ false
  ends_rise first last p q = (λ t. is_gt (row_key_cmp (p t) (q t))) ∙ go day
    where
      go : (d : Option Date) → is_gt (row_key_cmp (row_end_key 0 room d) (row_end_key 2 room d)) ≡ false
      go None = ap is_gt (tied_names (padded room) Less)
      go (Some d) = ap is_gt (tied_names (padded room) _ ∙ tied_days d Less)

  -- ---- the order of a calendar

  joined : (x y z o : Ordering) → ordering_then x (ordering_then y (ordering_then z o)) ≡ ordering_then (ordering_then x (ordering_then y z)) o
  joined Less y z o = refl
  joined Greater y z o = refl
  joined Equal Less z o = refl
  joined Equal Greater z o = refl
  joined Equal Equal Less o = refl
  joined Equal Equal Greater o = refl
  joined Equal Equal Equal o = refl

  calm : (a b : BookingRow) → a.room ≡ room → b.room ≡ room → key_before (booking_key a) (booking_key b) ≡ true → booking_before b a ≡ false
  calm a b p q less =
      sym (booking_cmp-before b a)
      ∙ ap is_lt (booking_total.antisymm b a
      ∙ ap ordering_reverse (sym (joined (nat_cmp a.day.year b.day.year) (nat_cmp a.day.month b.day.month) (nat_cmp a.day.day b.day.day) _) ∙ sym names ∙ is_lt-Less _ less))
    where
      rest : Ordering
      rest = ordering_then (nat_cmp a.day.year b.day.year) (ordering_then (nat_cmp a.day.month b.day.month)
          (ordering_then (nat_cmp a.day.day b.day.day) (ordering_then (nat_cmp a.start b.start) (ordering_then (nat_cmp a.server b.server) (nat_cmp a.n b.n)))))

      names : row_key_cmp (booking_key a) (booking_key b) ≡ rest
      names = (λ t. ordering_then (slice_cmp nat_cmp (padded (p t)) (padded (q t))) rest) ∙ tied_names (padded room) rest

  calm_all : (rs : List BookingRow) → ((r : BookingRow) → Has r rs → r.room ≡ room) → InOrder key_before booking_key rs → Sorted (λ a b. booking_before b a ≡ false) rs
  calm_all [] in_room s = tt
  calm_all (r ∷ rs) in_room s = (
    has_all (λ y. booking_before y r ≡ false) rs (λ y h. calm r y (in_room r (inl refl)) (in_room y (inr h)) (all_has (λ y. key_before (booking_key r) (booking_key y) ≡ true) y rs s.0 h)),
    calm_all rs (λ y h. in_room y (inr h)) s.1,
  )

  -- ---- what is listed

  pub listed : (all rows : List BookingRow) → InOrder id_before booking_id all
      → AreBetween booking_key (row_end_key 0 room day) (row_end_key 2 room day) all rows → AreListed room day all (filter (is_asked room day) rows)
  listed all rows order found = (
    picked booking_id booking_key (λ r. refl) (row_end_key 0 room day) (row_end_key 2 room day) all rows (is_asked room day) order found
        (λ r asked.
        let parts = and_parts (bytes_eq r.room room) (is_day_asked day r.day) asked in
        inside r.room r.day r.start (booking_id r) parts.0 parts.1),
    sorted_by booking_before (filter (is_asked room day) rows)
        (calm_all (filter (is_asked room day) rows)
        (λ r h. one_name r.room room (and_parts (bytes_eq r.room room) (is_day_asked day r.day) (filter_has (is_asked room day) r rows h).1).0)
        (sorted_filter (λ a b. key_before (booking_key a) (booking_key b) ≡ true) (is_asked room day) rows found.rise)),
  )
