-- A text in pieces.
use Rattle.std.proofs.Common.{◌≡◌, ◌+◌, ◌-◌, ◌++◌, ℕ, List, take, drop, length, arith, sym, ap, ◌∙◌, zero, suc, zero-add, [], ◌∷◌, length-drop}
use Rattle.std.proofs.lemmas.List.{take_all}

pub take_more : (at count : ℕ) (bytes : List ℕ) → take at bytes ++ take count (drop at bytes) ≡ take (at + count) bytes
take_more zero count bytes = ap (λ n. take n bytes) (sym (zero-add count))
take_more (suc k) count [] = take_all count [] (omega arith) ∙ sym (take_all (suc k + count) [] (omega arith))
take_more (suc k) count (b ∷ bs) =
    let e : suc k + count ≡ suc (k + count) = omega arith in
    ap (λ l. b ∷ l) (take_more k count bs) ∙ ap (λ n. take n (b ∷ bs)) (sym e)

pub sent_more : (bytes : List ℕ) (at count : ℕ)
    → take at bytes ++ take count (take (length bytes - at) (drop at bytes)) ≡ take (at + count) bytes
sent_more bytes at count =
    let whole : take (length bytes - at) (drop at bytes) ≡ drop at bytes =
    take_all (length bytes - at) (drop at bytes) (omega (arith, length-drop at bytes)) in
    ap (λ l. take at bytes ++ take count l) whole ∙ take_more at count bytes
