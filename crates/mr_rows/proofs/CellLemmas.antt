-- What is read of a cell, and which cells are refused.
use Rattle.std.proofs.Common.{◌≡◌, ⊎_elim, ℕ, ◌+◌, ◌-◌, ◌<◌, length, true, false, not, Bool, Some, None, Result, Ok, Err, IsTrue, cond, refl, sym, ap, subst, ◌∙◌, arith, ltb-true}
use Rattle.std.proofs.lemmas.Bool.{and_parts, cases_lt, false_from_ne_true, true≢false}
use Rattle.std.proofs.lemmas.Bool.Decides.{nat_tests}
use Rattle.std.proofs.lemmas.List.{get_or_past}
use Rattle.std.proofs.lemmas.List.Elements.{All-from_recursion}
use Rattle.std.proofs.lemmas.Result.{IfErr-weaker}
use Rattle.std.proofs.lemmas.Slice.Eq.{bytes_eq-Decides}
use Rattle.std.proofs.lemmas.Str.{IsUtf8-from_ascii, IsUtf8-from_is_utf8, is_utf8-from_IsUtf8}
use Rattle.std.proofs.lemmas.Str.Ascii.{IsAscii-from_all}
use Rattle.std.specs.List.{list_all}
use Rattle.std.specs.Prelude.{bytes_eq, ok_or, is_ok, IfOk, IfErr, nat_le, nat_lt, slice_index, ◌==◌}
use Rattle.std.specs.Str.{IsUtf8, is_utf8}
use Rattle.sqlite_keyed.proofs.ListLemmas.{all_weaker, all_from_test}
use Rattle.sqlite_value.specs.declared.value.Value.{Value}
use Rattle.sqlite_value.specs.declared.value.Value.TheVariants.{Null}
use Rattle.sqlite_value.specs.declared.value.Value.TheVariants as cell
use Rattle.sqlite_value.specs.Order.{Row, column, bytes}
use Rattle.mr_model.specs.Texts.{Text, within}
use Rattle.mr_model.specs.Calendar.{Date, is_date, date_text, date_in, read_date, time_text, time_in}
use Rattle.mr_model.specs.Writes.{is_room_byte, is_room_name, is_title}
use Rattle.mr_rows.specs.RowLimits.{is_day_text, is_start_text}
use Rattle.mr_rows.specs.CellLimits.{is_text}
use Rattle.mr_rows.specs.ShownCells.{text as text_cell}
use Rattle.mr_model.proofs.LowBytes.{time_low, date_low, Low}

-- ---- days

-- a day is read of a text just if it is one's
pub day_passes : {E : Type 0} (text : Text) (r : Result Date E) (e : E) → r ≡ ok_or (read_date text) e → is_ok r ≡ is_day_text text
day_passes {E = E} text r e is = ap is_ok is ∙ elim (is_day_text text) as (λ b. is_ok {T = Date} {E = E} (ok_or (cond b (Some (date_in text)) None) e) ≡ b) [ true ↦ refl | false ↦ refl ]

-- it is the one that the text would be of, and the text is that day's
pub day_read : {E : Type 0} (text : Text) (day : Date) (e : E) → Ok day ≡ ok_or (read_date text) e → day ≡ date_in text
day_read {E = E} text day e is =
    let same : ◌≡◌ {A = Result Date E} (Ok day) (Ok (date_in text)) = is ∙ ap (λ b. ok_or (cond b (Some (date_in text)) None) e) (sym (day_passes text (Ok day) e is)) in
    cc

pub day_spelled : {E : Type 0} (text : Text) (day : Date) (e : E) → Ok day ≡ ok_or (read_date text) e → text ≡ date_text day
day_spelled text day e is =
    let passes = and_parts (is_date (date_in text)) _ (sym (day_passes text (Ok day) e is)) in
    sym ((bytes_eq-Decides (date_text (date_in text)) text).0 passes.1) ∙ ap date_text (sym (day_read text day e is))

-- ---- answers

-- what holds of each error
pub on_err : {X E : Type 0} {P : E → Type 0} (r : Result X E) → ((e : E) → P e) → IfErr r P
on_err (Ok x) p = tt
on_err (Err e) p = p e

-- a call that is asked only whether it fails
pub told_by : {X E : Type 0} (r : Result X E) (b : Bool) → IfOk r (λ _. IsTrue b) → IfErr r (λ _. b ≡ false) → is_ok r ≡ b
told_by (Ok x) b told refused = sym told
told_by (Err e) b told refused = sym refused

-- ---- cells that are refused

-- a text that the kit doesn't read
pub text_unread : {X E : Type 0} (r : Row) (at : ℕ) (result : Result X E) (other : E → Type 0)
    → IfErr result (λ e. other e → at < length r → ¬ ((t : Text) × (column r at ≡ cell.Text t) × IsUtf8 t)) → IfErr result (λ e. other e → is_text is_utf8 (column r at) ≡ false)
text_unread r at result other kind = IfErr-weaker result _ _ (λ e told o. false_from_ne_true _ (λ is. told o (there is) (read is))) kind
  where
    read : is_text is_utf8 (column r at) ≡ true → (t : Text) × (column r at ≡ cell.Text t) × IsUtf8 t
    read is = let s = (text_cell is_utf8 (column r at)).told.0 is in (bytes (column r at), sym (ap (λ x. column x 0) s.0), IsUtf8-from_is_utf8 _ s.1)

    there : is_text is_utf8 (column r at) ≡ true → at < length r
    there is = ⊎_elim (λ low. low) (λ past. absurd (true≢false (sym is ∙ ap (is_text is_utf8) (get_or_past r at Null past)))) (cases_lt at (length r))

-- a cell whose text fails one test, without which no text passes another
pub no_text : (p q : Text → Bool) → ((t : Text) → q t ≡ true → p t ≡ true) → (v : Value) → is_text p v ≡ false → is_text q v ≡ false
no_text p q all v fails = false_from_ne_true _ (λ passes. let s = (text_cell q v).told.0 passes in true≢false (sym ((text_cell p v).told.1 (s.0, all (bytes v) s.1)) ∙ fails))

-- ---- what is ASCII

pub utf8 : (t : Text) → Low t → is_utf8 t ≡ true
utf8 t h = is_utf8-from_IsUtf8 t (IsUtf8-from_ascii t (IsAscii-from_all t (All-from_recursion (λ c. c < 128) t h)))

-- bytes that all pass a test which no other byte passes
tested_utf8 : (test : ℕ → Bool) → ((c : ℕ) → test c ≡ true → c < 128) → (t : Text) → list_all test t ≡ true → is_utf8 t ≡ true
tested_utf8 test low t h = utf8 t (all_weaker (λ c. test c ≡ true) (λ c. c < 128) low t (all_from_test test t h))

-- a text that is spelled as this one
spelled_utf8 : (t spelled : Text) → bytes_eq spelled t ≡ true → Low spelled → is_utf8 t ≡ true
spelled_utf8 t spelled same low = subst (λ x. is_utf8 x ≡ true) ((bytes_eq-Decides spelled t).0 same) (utf8 spelled low)

-- a number between one and one
pub the_one : (n : ℕ) → within 1 1 n ≡ true → n ≡ 1
the_one n h = grind (arith, nat_tests)

-- the name of a room, a title, a day's text and a time's
pub name_utf8 : (t : Text) → is_room_name t ≡ true → is_utf8 t ≡ true
name_utf8 t h = tested_utf8 is_room_byte (λ c is. grind (arith, nat_tests)) t (and_parts (within 1 16 (length t)) _ h).1

pub title_utf8 : (t : Text) → is_title t ≡ true → is_utf8 t ≡ true
title_utf8 t h =
    let a = and_parts _ (not (slice_index t (length t - 1) == 32)) h in
    let b = and_parts _ (not (slice_index t 0 == 32)) a.0 in
    tested_utf8 (λ c. within 32 126 c) (λ c is. grind (arith, nat_tests)) t (and_parts (within 1 60 (length t)) _ b.0).1

pub start_utf8 : (n : ℕ) (t : Text) → is_start_text n t ≡ true → is_utf8 t ≡ true
start_utf8 n t h =
    let both = and_parts (nat_lt (time_in t) 1440) (bytes_eq (time_text (time_in t)) t) (and_parts _ (nat_le (time_in t + n) 1440) h).0 in
    let low = ltb-true (time_in t) 1440 both.0 in
    spelled_utf8 t (time_text (time_in t)) both.1 (time_low (time_in t) (omega (arith, low)))

pub day_utf8 : (t : Text) → is_day_text t ≡ true → is_utf8 t ≡ true
day_utf8 t h = let both = and_parts (is_date (date_in t)) _ h in spelled_utf8 t (date_text (date_in t)) both.1 (date_low (date_in t) both.0)
