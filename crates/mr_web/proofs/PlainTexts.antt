-- Texts that JSON shows as they are.
use Rattle.std.proofs.Common.{◌≡◌, ◌∙◌, ℕ, [], ◌∷◌, ◌++◌, Bool, true, false, not, ◌&&◌, ◌==◌, ◌<◌, ◌≤◌, ◌%◌, ◌+◌, ◌^◌, refl, ap, arith, ltb, leb, codes, decimal, IsTrue}
use Rattle.std.proofs.lemmas.Bool.{and_parts, leb-true, and_from, le-ltb, ne_eqb, agree_below_at, not-true}
use Rattle.std.proofs.lemmas.Fmt.{decimal_by_steps}
use Rattle.std.proofs.lemmas.List.Folds.{list_all-append}
use Rattle.std.specs.List.{list_all}
use Rattle.json.specs.Print.{escape, escape_byte}
use Rattle.mr_model.specs.Texts.{Text}
use Rattle.mr_model.specs.Writes.{Id, id_text, is_id, is_server, is_count}
use Rattle.mr_web.specs.Plain.{is_plain_byte, is_plain_text, IsPlain}

above : (b m : ℕ) → 32 ≤ b → m < 32 → (b == m) ≡ false
above b m h l = ne_eqb b m (λ e. omega (arith, h, l, e))

escape_plain_byte : (b : ℕ) → is_plain_byte b ≡ true → escape_byte b ≡ b ∷ []
unfolding escape_byte
escape_plain_byte b h =
    let two = and_parts (leb 32 b && not (b == 34)) (not (b == 92)) h in
    let one = and_parts (leb 32 b) (not (b == 34)) two.0 in
    let low : 32 ≤ b = leb-true 32 b one.0 in
    let quote : (b == 34) ≡ false = not-true (b == 34) one.1 in
    let backslash : (b == 92) ≡ false = not-true (b == 92) two.1 in
    let small : ltb b 32 ≡ false = le-ltb b 32 low in
    rw (quote, backslash, above b 8 low (omega arith), above b 12 low (omega arith), above b 10 low (omega arith), above b 13 low (omega arith), above b 9 low (omega arith), small)

pub escape_plain : (t : Text) → IsPlain t → escape t ≡ t
escape_plain [] h = refl
escape_plain (b ∷ bs) h =
    let both = and_parts (is_plain_byte b) (list_all is_plain_byte bs) h in
    ap (λ e. e ++ escape bs) (escape_plain_byte b both.0) ∙ ap (λ r. b ∷ r) (escape_plain bs both.1)

-- ---- which texts are

pub plain_append : (s t : Text) → IsPlain s → IsPlain t → IsPlain (s ++ t)
plain_append s t h g = list_all-append is_plain_byte s t ∙ and_from (is_plain_text s) (is_plain_text t) h g

abbrev digit_plain : ℕ → Bool
digit_plain d = is_plain_byte (48 + d)

plain_digit : (d : ℕ) → d < 10 → is_plain_byte (48 + d) ≡ true
plain_digit d h = agree_below_at digit_plain (λ m. true) 10 d refl h

pub plain_decimal : (n : ℕ) → n < 2 ^ 64 → IsPlain (decimal n)
plain_decimal = decimal_by_steps (λ n ds. IsPlain ds) (λ n low. and_from (is_plain_byte (48 + n)) true (plain_digit n low) refl)
    (λ n ds high h. plain_append ds ((48 + n % 10) ∷ []) h (and_from (is_plain_byte (48 + n % 10)) true (plain_digit (n % 10) (omega arith)) refl))

pub plain_id : (id : Id) → IsTrue (is_id id) → IsPlain (id_text id)
plain_id id h =
    let both = and_parts (is_server id.server) (is_count id.n) h in
    let server = leb-true id.server 99 (and_parts (leb 1 id.server) (leb id.server 99) both.0).1 in
    let count = leb-true id.n 999999999 (and_parts (leb 1 id.n) (leb id.n 999999999) both.1).1 in
    plain_append (decimal id.server ++ codes "-") (decimal id.n)
    (plain_append (decimal id.server) (codes "-") (plain_decimal id.server (omega (arith, server))) refl) (plain_decimal id.n (omega (arith, count)))
