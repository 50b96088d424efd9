-- The text of an id, by its parts and by its spelling.
use Rattle.std.proofs.Common.{◌≡◌, refl, sym, ap, ◌∙◌, subst, ℕ, ◌+◌, ◌<◌, ◌≤◌, ◌^◌, true, false, ◌&&◌, le-leb, [], ◌∷◌, ◌++◌, length}
use Rattle.std.proofs.Common.{length-append, length-drop, append_assoc, get_or, Option, Some, None, Result, Ok, IfOk, ok_or, arith}
use Rattle.std.specs.Prelude.{◌==◌, ◌≢◌}
use Rattle.std.specs.Fmt.{decimal}
use Rattle.std.specs.List.{before_first, after_first, position_or_len}
use Rattle.std.specs.Str.{bytes_eq}
use Rattle.std.proofs.Math.ListN.{get_or-append}
use Rattle.std.proofs.Math.Seq.{get_or-append_seam, take-append_seam, drop-append-add}
use Rattle.std.proofs.lemmas.Bool.{and_parts, and_from}
use Rattle.std.proofs.lemmas.Bool.Decides.{nat_tests}
use Rattle.std.proofs.lemmas.List.Sums.{split_at_first, passes_at_first, position_or_len_is}
use Rattle.std.proofs.lemmas.Str.Parse.{not_in_digits}
use Rattle.std.proofs.lemmas.Fmt.{digits_decimal, decimal_nonempty}
use Rattle.mr_model.specs.Texts.{Text, within, number_in, only_if}
use Rattle.mr_model.specs.Writes.{Id, is_server, is_count, is_id, id_text, id_in, is_id_text}
use Rattle.mr_model.proofs.BatchesReadBack.{only_if_some}
use Rattle.mr_model.proofs.WordsReadBack.{number-decimal}
use Rattle.mr_base.specs.Readings.{number_from_to, id_of_parts, id_by_parts, read_id}
use Rattle.mr_base.proofs.Decimals.{own, number_from_to-decimal, decimal-number_from_to}
use Rattle.mr_base.proofs.Readers.{bytes_same, same_bytes, same_reading, ok_written}

-- what is read of the two parts where an id is read of them
record IdParts (os on : Option ℕ) (v : Id) : Type 0 where
  server : ℕ
  n : ℕ
  server_is : os ≡ Some server
  n_is : on ≡ Some n
  is : v ≡ record { server = server; n = n }

id_parts : (os on : Option ℕ) (v : Id) → id_of_parts os on ≡ Some v → IdParts os on v
id_parts (Some s) (Some n) v e = record { server = s; n = n; server_is = refl; n_is = refl; is = cc }
id_parts (Some s) None v e = cc
id_parts None _ v e = cc

-- an id's text is its server, a hyphen and its count
id_text-parts : (v : Id) → id_text v ≡ decimal v.server ++ 45 ∷ decimal v.n
id_text-parts v = append_assoc (decimal v.server) (45 ∷ []) (decimal v.n)

equal : (a b : ℕ) → (a == b) ≡ true → a ≡ b
equal a b e = grind (arith, nat_tests)

differs : (x : ℕ) → x ≢ 45 → (x == 45) ≡ false
differs x h = grind (arith, nat_tests)

-- a text is what stands before its first hyphen, the hyphen, and what stands after it, where something does
around : (s a b : Text) → before_first (λ x. x == 45) s ≡ a → after_first (λ x. x == 45) s ≡ b → 0 < length b → s ≡ a ++ 45 ∷ b
around s a b ea eb some =
    let l : length (after_first (λ x. x == 45) s) ≡ length b = ap length eb in
    let k : position_or_len (λ x. x == 45) s < length s = omega (arith, length-drop (position_or_len (λ x. x == 45) s + 1) s) in
    let hyphen = equal _ _ (passes_at_first (λ x. x == 45) s 0 k) in
    let whole = split_at_first (λ x. x == 45) s 0 k in
    whole ∙ rw (hyphen, ea, eb) refl

-- the ranges pass the tests
server_test : (n : ℕ) → 1 ≤ n → n ≤ 99 → is_server n ≡ true
server_test n low high = and_from _ _ (le-leb 1 n low) (le-leb n 99 high)

count_test : (n : ℕ) → 1 ≤ n → n ≤ 999_999_999 → is_count n ≡ true
count_test n low high = and_from _ _ (le-leb 1 n low) (le-leb n 999_999_999 high)

-- a text that is read as an id by its parts is the text of that id
id_text-id_by_parts : (s : Text) (v : Id) → id_by_parts s ≡ Some v → (is_id v ≡ true) × (s ≡ id_text v)
id_text-id_by_parts s v e =
    let p : IdParts (number_from_to 1 99 (before_first (λ c. c == 45) s)) (number_from_to 1 999_999_999 (after_first (λ c. c == 45) s)) v = id_parts _ _ v e in
    let server = decimal-number_from_to 1 99 p.server _ p.server_is in
    let n = decimal-number_from_to 1 999_999_999 p.n _ p.n_is in
    let text = around s (decimal p.server) (decimal p.n) server.0 n.0 (decimal_nonempty p.n (omega arith)) in
    let test : is_id (record { server = p.server; n = p.n }) ≡ true = and_from _ _ (server_test p.server server.1 server.2) (count_test p.n n.1 n.2) in
    let P : Id → Type 0 = λ w. (is_id w ≡ true) × (s ≡ id_text w) in
    subst P (sym p.is) (test, text ∙ sym (id_text-parts (record { server = p.server; n = p.n })))

-- the first hyphen stands after digits
first_hyphen : (xs ys : Text) → ((k : ℕ) → k < length xs → get_or xs k 0 ≢ 45) → position_or_len (λ c. c == 45) (xs ++ 45 ∷ ys) ≡ length xs
first_hyphen xs ys none =
    position_or_len_is (λ c. c == 45) (xs ++ 45 ∷ ys) (length xs) 0 (omega (arith, length-append xs (45 ∷ ys)))
    (λ k h. rw (get_or-append xs (45 ∷ ys) 0 k h) (differs _ (none k h)))
    (λ h. rw (get_or-append_seam xs 45 ys 0) refl)

-- a decimal text has no hyphen
no_hyphen : (n : ℕ) → n < 2 ^ 64 → (k : ℕ) → k < length (decimal n) → get_or (decimal n) k 0 ≢ 45
no_hyphen n small = not_in_digits own (decimal n) 45 (digits_decimal own n small) (λ h. omega arith)

-- and the tests tell the ranges
record IdRanges (v : Id) : Type 0 where
  server_from : 1 ≤ v.server
  server_to : v.server ≤ 99
  from : 1 ≤ v.n
  to : v.n ≤ 999_999_999

id_ranges : (v : Id) → is_id v ≡ true → IdRanges v
id_ranges v h =
    let p = and_parts (is_server v.server) (is_count v.n) h in
    record {
      server_from = at_least 1 99 v.server p.0;
      server_to = at_most 1 99 v.server p.0;
      from = at_least 1 999_999_999 v.n p.1;
      to = at_most 1 999_999_999 v.n p.1;
    }
  where
    at_least : (low high n : ℕ) → within low high n ≡ true → low ≤ n
    at_least low high n e = grind (arith, nat_tests)

    at_most : (low high n : ℕ) → within low high n ≡ true → n ≤ high
    at_most low high n e = grind (arith, nat_tests)

-- the halves of an id's text
before_hyphen : (v : Id) → is_id v ≡ true → before_first (λ c. c == 45) (id_text v) ≡ decimal v.server
before_hyphen v h =
    let r = id_ranges v h in
    let first = first_hyphen (decimal v.server) (decimal v.n) (no_hyphen v.server (omega arith)) in
    ap (before_first (λ c. c == 45)) (id_text-parts v) ∙ rw first (take-append_seam (decimal v.server) (45 ∷ decimal v.n))

after_hyphen : (v : Id) → is_id v ≡ true → after_first (λ c. c == 45) (id_text v) ≡ decimal v.n
after_hyphen v h =
    let r = id_ranges v h in
    let first = first_hyphen (decimal v.server) (decimal v.n) (no_hyphen v.server (omega arith)) in
    ap (after_first (λ c. c == 45)) (id_text-parts v) ∙ rw (first, drop-append-add (decimal v.server) (45 ∷ decimal v.n) 1) refl

-- the text of an id is read as it by its parts
id_by_parts-id_text : (v : Id) → is_id v ≡ true → id_by_parts (id_text v) ≡ Some v
id_by_parts-id_text v h =
    let r = id_ranges v h in
    rw (before_hyphen v h, after_hyphen v h, number_from_to-decimal 1 99 v.server r.server_from r.server_to (omega arith), number_from_to-decimal 1 999_999_999 v.n r.from r.to (omega arith)) refl

-- what is read is spelled so, and what is spelled so is read
is-read_id : (s : Text) (v : Id) → read_id s ≡ Some v → (is_id v ≡ true) × (s ≡ id_text v)
is-read_id s v e =
    let k = only_if_some (is_id_text s) (id_in s) v e in
    let p = and_parts (is_id (id_in s)) (bytes_eq (id_text (id_in s)) s) k.0 in
    (subst (λ (w : Id). is_id w ≡ true) k.1 p.0, sym (bytes_same (id_text (id_in s)) s p.1) ∙ ap id_text k.1)

id_in-id_text : (v : Id) → is_id v ≡ true → id_in (id_text v) ≡ v
id_in-id_text v h =
    let r = id_ranges v h in
    let server : number_in (before_first (λ c. c == 45) (id_text v)) ≡ v.server = ap number_in (before_hyphen v h) ∙ number-decimal v.server (omega arith) in
    let n : number_in (after_first (λ c. c == 45) (id_text v)) ≡ v.n = ap number_in (after_hyphen v h) ∙ number-decimal v.n (omega arith) in
    λ i. record { server = server i; n = n i }

read_id-is : (s : Text) (v : Id) → is_id v ≡ true → s ≡ id_text v → read_id s ≡ Some v
read_id-is s v h t =
    let back : id_in (id_text v) ≡ v = id_in-id_text v h in
    let test : (is_id v && bytes_eq (id_text v) (id_text v)) ≡ true = and_from _ _ h (same_bytes (id_text v) (id_text v) refl) in
    ap read_id t
    ∙ ap (λ (w : Id). only_if (is_id w && bytes_eq (id_text w) (id_text v)) w) back
    ∙ ap (λ b. only_if b v) test

-- by the parts as by the spelling
pub read_id_is : (s : Text) → id_by_parts s ≡ read_id s
read_id_is s =
    same_reading (id_by_parts s) (read_id s)
    (λ v e. let k = id_text-id_by_parts s v e in read_id-is s v k.0 k.1)
    (λ v e. let k = is-read_id s v e in ap id_by_parts k.1 ∙ id_by_parts-id_text v k.0)

-- the same as facts about a reader's answer
pub written : {E : Type 0} (s : Text) (fault : E) (r : Result Id E) → r ≡ ok_or (id_by_parts s) fault → IfOk r (λ id. s ≡ id_text id)
written s fault r e = ok_written (id_by_parts s) fault r (λ id. s ≡ id_text id) (λ v k. (id_text-id_by_parts s v k).1) e

pub read : {E : Type 0} (s : Text) (fault : E) (r : Result Id E) → r ≡ ok_or (id_by_parts s) fault → (id : Id) → is_id id ≡ true → s ≡ id_text id → r ≡ Ok id
read s fault r e id is t = e ∙ ap (λ o. ok_or o fault) (ap id_by_parts t ∙ id_by_parts-id_text id is)
