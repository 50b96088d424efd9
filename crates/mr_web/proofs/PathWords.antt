-- The words that a target has at the parameters of its route are texts.
use Rattle.std.proofs.Common.{◌≡◌, ◌⊎◌, ◌∙◌, inl, inr, ℕ, zero, suc, List, [], ◌∷◌, ◌++◌, Bool, true, false, cond, length, take, drop, get_or, Some, refl, sym, ap, subst, arith}
use Rattle.std.proofs.Common.{◌==◌, ◌-◌, ◌+◌, ◌<◌, ◌≤◌, ◌&&◌, lit<, ltb, leb, length-drop, drop-drop, drop_at, get_or-drop, drop_of_length-le, codes, IsUtf8, IsCharBoundary}
use Rattle.std.specs.Prelude.{slice_index}
use Rattle.std.proofs.lemmas.Bool.{leb-true, and_parts, lt-ltb, eq-eqb, and_from, and_left, and_right, le-ltb}
use Rattle.std.proofs.lemmas.Str.{IsUtf8-from_ascii, IsUtf8-nil, IsUtf8-between, IsCharBoundary-start, IsCharBoundary-end, IsCharBoundary-before_ascii, IsCharBoundary-after_ascii}
use Rattle.matchit.specs.Rows.{param_token}
use Rattle.matchit.specs.Router.{RouteOf}
use Rattle.matchit.specs.Params.{walk, part_of, AllText, wild_from, wild_stop, next_at, after_token}
use Rattle.matchit.specs.Seek.{first, segment, has_slash, slash}
use Rattle.matchit.proofs.OnLiterals.{matchit_on_literals}
use Rattle.mr_web.specs.Routes.{route_table, route_parameters}
use Rattle.mr_web.specs.declared.routes.Resource.{Resource}
use Rattle.mr_web.proofs.PathPatterns.{Fits, IfKey, EachRow, seek_fits}

-- ---- two places, one in the pattern and one in the path, from which on they fit; the path can be cut at its own

pub record Stands (pattern path : List ℕ) (at : ℕ × ℕ) : Type 0 where
  pub cut : IsCharBoundary path at.1
  pub fits : Fits (drop at.0 pattern) (drop at.1 path)

-- the pattern ends at this place, or has a parameter there
abbrev AtParam : List ℕ → ℕ → Type 0
AtParam pattern token = (drop token pattern ≡ []) ⊎ ((u : List ℕ) × (drop token pattern ≡ param_token ∷ u))

read_at : (bytes : List ℕ) (at : ℕ) (x : ℕ) (q : List ℕ) → drop at bytes ≡ x ∷ q → (at < length bytes) × (get_or bytes at 0 ≡ x)
read_at bytes at x q e =
    let len = ap length e in
    let z : at + 0 ≡ at = omega arith in
    (omega (arith, len, length-drop at bytes), ap (λ i. get_or bytes i 0) (sym z) ∙ sym (get_or-drop at bytes 0 0) ∙ ap (λ l. get_or l 0 0) e)

drop_one : (bytes : List ℕ) (at : ℕ) (x : ℕ) (q : List ℕ) → drop at bytes ≡ x ∷ q → drop (at + 1) bytes ≡ q
drop_one bytes at x q e = sym (drop-drop 1 at bytes) ∙ ap (drop 1) e

drop_past : (bytes : List ℕ) (at : ℕ) (w q : List ℕ) → drop at bytes ≡ w ++ q → drop (at + length w) bytes ≡ q
drop_past bytes at w q e = sym (drop-drop (length w) at bytes) ∙ ap (drop (length w)) e ∙ drop_at w q (length w) refl

-- on to the next parameter
wild_fits : (pattern path t : List ℕ) (token at : ℕ) → IsUtf8 path → drop token pattern ≡ t → IsCharBoundary path at → Fits t (drop at path)
    → Stands pattern path (wild_from t (length path) token at) × AtParam pattern (wild_from t (length path) token at).0
wild_fits pattern path [] token at text is cut fits =
    (record { cut = cut; fits = subst (λ l. Fits l (drop at path)) (sym is) fits }, inl is)
wild_fits pattern path (x ∷ t) token at text is cut fits =
    let P : ℕ × ℕ → Type 0 = λ r. Stands pattern path r × AtParam pattern r.0 in
    let here : x ≡ param_token → P (cond (ltb x param_token) (wild_from t (length path) (token + 1) (next_at (length path) at)) (token, at)) = λ same.
    let past : ltb x param_token ≡ false = ap (λ y. ltb y param_token) same in
    subst (λ v. P (cond v (wild_from t (length path) (token + 1) (next_at (length path) at)) (token, at))) (sym past)
    (record { cut = cut; fits = subst (λ l. Fits l (drop at path)) (sym is) fits }, inr (t, is ∙ ap (λ y. y ∷ t) same)) in
    elim fits [
      | inl byte ↦
          let below : ltb x param_token ≡ true = lt-ltb x param_token (omega (arith, byte.0)) in
          let there = read_at path at x byte.1 byte.2 in
          let next : next_at (length path) at ≡ at + 1 = ap (λ v. cond v (at + 1) at) (lt-ltb at (length path) there.0) in
          let low : get_or path at 0 < 128 = omega (arith, byte.0, there.1) in
          let on = wild_fits pattern path t (token + 1) (at + 1) text (drop_one pattern token x t is)
          (IsCharBoundary-after_ascii path at text there.0 low) (subst (Fits t) (sym (drop_one path at x byte.1 byte.2)) byte.3) in
          subst (λ v. P (cond v (wild_from t (length path) (token + 1) (next_at (length path) at)) (token, at))) (sym below)
          (subst (λ m. P (wild_from t (length path) (token + 1) m)) (sym next) on)
      | inr more ↦ elim more [
        | inl last ↦ here last.0
        | inr part ↦ here part.0
      ]
    ]

segment_word : (w q : List ℕ) → has_slash w ≡ false → length (segment (w ++ slash ∷ q)) ≡ length w + 1
segment_word [] q none = refl
segment_word (b ∷ w) q none = by (segment_word w q) (b == slash) refl
  where
    by : (has_slash w ≡ false → length (segment (w ++ slash ∷ q)) ≡ length w + 1) → (v : Bool) → (b == slash) ≡ v
        → length (cond (b == slash) (b ∷ []) (b ∷ segment (w ++ slash ∷ q))) ≡ suc (length w) + 1
    by later true e = let bad : true ≡ false = sym (ap (λ v. cond v true (has_slash w)) e) ∙ none in let no : ⊥ = cc in absurd no
    by later false e =
        let rest : has_slash w ≡ false = sym (ap (λ v. cond v true (has_slash w)) e) ∙ none in
        ap (λ v. length (cond v (b ∷ []) (b ∷ segment (w ++ slash ∷ q)))) e ∙ ap suc (later rest) ∙ omega arith

-- what fits a slash and more begins with it
slash_first : (u q : List ℕ) → Fits (slash ∷ u) q → (r : List ℕ) × (q ≡ slash ∷ r)
slash_first u q fits = elim fits [
  | inl byte ↦ (byte.1, byte.2)
  | inr more ↦ elim more [
    | inl last ↦ absurd (omega (arith, last.0))
    | inr part ↦ absurd (omega (arith, part.0))
  ]
]

abbrev is_before : List ℕ → ℕ → Bool
is_before pattern token = ltb token (length pattern) && (get_or pattern token 0 == param_token) && ltb (token + 1) (length pattern)

-- at the end of the pattern, or at its last parameter, the rest of the path is taken
at_end : (pattern path : List ℕ) (token at : ℕ) → length pattern < 18446744073709551615 → length pattern ≤ token + 1
    → is_before pattern token ≡ false → Stands pattern path (after_token token, wild_stop pattern token path at)
at_end pattern path token at small last test =
    let stop : wild_stop pattern token path at ≡ length path =
    ap (λ v. cond v (at + length (segment (drop at path)) - length (segment (drop (token + 1) pattern))) (length path)) test in
    let none : drop (after_token token) pattern ≡ [] = drop_of_length-le pattern (omega (arith, small, last)) in
    let gone : drop (length path) path ≡ [] = drop_of_length-le path (omega arith) in
    subst (λ s. Stands pattern path (after_token token, s)) (sym stop)
    (record { cut = IsCharBoundary-end path; fits = subst (λ l. Fits l (drop (length path) path)) (sym none) gone })

-- a parameter before a slash takes what stands before the path's next one
at_part : (pattern path u v w q : List ℕ) (token at : ℕ) → length pattern < 18446744073709551615 → drop token pattern ≡ param_token ∷ u
    → u ≡ slash ∷ v → drop at path ≡ w ++ q → has_slash w ≡ false → Fits u q
    → Stands pattern path (after_token token, wild_stop pattern token path at)
at_part pattern path u v w q token at small is slashed path_is none fits =
    let there = read_at pattern token param_token u is in
    let behind : drop (token + 1) pattern ≡ u = drop_one pattern token param_token u is in
    let next = read_at pattern (token + 1) slash v (behind ∙ slashed) in
    let test : is_before pattern token ≡ true = and_from (ltb token (length pattern) && (get_or pattern token 0 == param_token)) (ltb (token + 1) (length pattern))
    (and_from (ltb token (length pattern)) (get_or pattern token 0 == param_token) (lt-ltb _ _ there.0) (eq-eqb _ _ there.1)) (lt-ltb _ _ next.0) in
    let rest = slash_first v q (subst (λ l. Fits l q) slashed fits) in
    let path_word : drop at path ≡ w ++ slash ∷ rest.0 = path_is ∙ ap (λ l. w ++ l) rest.1 in
    let long : length (segment (drop at path)) ≡ length w + 1 = ap (λ l. length (segment l)) path_word ∙ segment_word w rest.0 none in
    let one : length (segment (drop (token + 1) pattern)) ≡ 1 = ap (λ l. length (segment l)) (behind ∙ slashed) in
    let stop : wild_stop pattern token path at ≡ at + length w =
    ap (λ v. cond v (at + length (segment (drop at path)) - length (segment (drop (token + 1) pattern))) (length path)) test
    ∙ omega (arith, long, one) in
    let onto : after_token token ≡ token + 1 = omega (arith, small, next.0) in
    let at_slash = read_at path (at + length w) slash rest.0 (drop_past path at w (slash ∷ rest.0) path_word) in
    let cut = IsCharBoundary-before_ascii path (at + length w) at_slash.0 (omega (arith, at_slash.1)) in
    subst (λ t. Stands pattern path (t, wild_stop pattern token path at)) (sym onto)
    (subst (λ s. Stands pattern path (token + 1, s)) (sym stop)
    (record {
      cut = cut;
      fits = subst (λ l. Fits l (drop (at + length w) path)) (sym behind) (subst (Fits u) (sym (drop_past path at w q path_is)) fits);
    }))

-- past a parameter
after_fits : (pattern path : List ℕ) (token at : ℕ) → length pattern < 18446744073709551615 → Stands pattern path (token, at) → AtParam pattern token
    → Stands pattern path (after_token token, wild_stop pattern token path at)
after_fits pattern path token at small stands (inl none) =
    let past : length pattern ≤ token = omega (arith, ap length none, length-drop token pattern) in
    let test : is_before pattern token ≡ false =
    and_left (ltb token (length pattern) && (get_or pattern token 0 == param_token)) (ltb (token + 1) (length pattern))
    (and_left (ltb token (length pattern)) (get_or pattern token 0 == param_token) (le-ltb token (length pattern) past)) in
    at_end pattern path token at small (omega (arith, past)) test
after_fits pattern path token at small stands (inr param) =
    let fits : Fits (param_token ∷ param.0) (drop at path) = subst (λ l. Fits l (drop at path)) param.1 stands.fits in
    elim fits [
      | inl byte ↦ absurd (omega (arith, byte.0))
      | inr more ↦ elim more [
        | inl last ↦
            let few : length pattern ≤ token + 1 = omega (arith, ap length param.1, length-drop token pattern, ap length last.1) in
            let test : is_before pattern token ≡ false =
            and_right (ltb token (length pattern) && (get_or pattern token 0 == param_token)) (ltb (token + 1) (length pattern))
            (le-ltb (token + 1) (length pattern) few) in
            at_end pattern path token at small few test
        | inr part ↦ at_part pattern path param.0 part.1 part.2 part.3 token at small param.1 part.4 part.5 part.6 part.7
      ]
    ]

-- ---- what is taken is text

part_text : (bytes : List ℕ) (start end : ℕ) → IsUtf8 bytes → IsCharBoundary bytes start → IsCharBoundary bytes end → IsUtf8 (part_of bytes start end)
part_text bytes start end text first last = by (leb start end && leb end (length bytes)) refl
  where
    by : (v : Bool) → (leb start end && leb end (length bytes)) ≡ v → IsUtf8 (cond v (take (end - start) (drop start bytes)) [])
    by true e = IsUtf8-between bytes start end text (leb-true start end (and_parts (leb start end) (leb end (length bytes)) e).0) first last
    by false e = IsUtf8-nil

abbrev pub NamesAreText : List ℕ → List (ℕ × ℕ) → Type 0
NamesAreText text [] = Unit {0}
NamesAreText text (n ∷ ns) = IsUtf8 (part_of text n.0 n.1) × NamesAreText text ns

walk_text : (pattern text path : List ℕ) (names : List (ℕ × ℕ)) (token at : ℕ) → length pattern < 18446744073709551615 → NamesAreText text names
    → IsUtf8 path → Stands pattern path (token, at) → AllText (walk pattern text path names token at)
walk_text pattern text path [] token at small named utf8 stands = tt
walk_text pattern text path (n ∷ ns) token at small named utf8 stands =
    let found = wild_fits pattern path (drop token pattern) token at utf8 refl stands.cut stands.fits in
    let next = after_fits pattern path _ _ small found.0 found.1 in
    (named.0, part_text path _ _ utf8 found.0.cut next.cut, walk_text pattern text path ns _ _ small named.1 utf8 next)

-- ---- the table's routes

room_ascii : (i : ℕ) → slice_index (codes "room") i < 128
room_ascii zero = lit< tt
room_ascii (suc zero) = lit< tt
room_ascii (suc (suc zero)) = lit< tt
room_ascii (suc (suc (suc zero))) = lit< tt
room_ascii (suc (suc (suc (suc i)))) = lit< tt

day_ascii : (i : ℕ) → slice_index (codes "day") i < 128
day_ascii zero = lit< tt
day_ascii (suc zero) = lit< tt
day_ascii (suc (suc zero)) = lit< tt
day_ascii (suc (suc (suc i))) = lit< tt

id_ascii : (i : ℕ) → slice_index (codes "id") i < 128
id_ascii zero = lit< tt
id_ascii (suc zero) = lit< tt
id_ascii (suc (suc i)) = lit< tt

-- a route that a target fits, with names of which each is a text
pub record IsTaken (target : List ℕ) (r : RouteOf Resource) : Type 0 where
  pub fits : Fits r.pattern target
  pub names : NamesAreText r.text r.names
  pub small : length r.pattern < 18446744073709551615

table_taken : (target : List ℕ) → EachRow (IsTaken target) target route_table
unfolding route_table matchit_on_literals
table_taken target =
    let room = IsUtf8-from_ascii (codes "room") room_ascii in
    let day = IsUtf8-from_ascii (codes "day") day_ascii in
    let id = IsUtf8-from_ascii (codes "id") id_ascii in (
      (refl, λ f. record { fits = f; names = tt; small = lit< tt }),
      (
        (refl, λ f. record { fits = f; names = tt; small = lit< tt }),
        (
          (refl, λ f. record { fits = f; names = tt; small = lit< tt }),
          (
            (refl, λ f. record { fits = f; names = tt; small = lit< tt }),
            (
              (refl, λ f. record { fits = f; names = (room, (day, tt)); small = lit< tt }),
              (
                (refl, λ f. record { fits = f; names = (room, tt); small = lit< tt }),
                ((refl, λ f. record { fits = f; names = (room, (id, tt)); small = lit< tt }), ((refl, λ f. record { fits = f; names = tt; small = lit< tt }), tt)),
              ),
            ),
          ),
        ),
      ),
    )

-- the words of a target at the parameters of its route
pub words_are_text : (target : List ℕ) (r : RouteOf Resource) → IsUtf8 target → first route_table target ≡ Some r → AllText (route_parameters target r)
words_are_text target r utf8 found =
    let taken : IsTaken target r = subst (IfKey (IsTaken target)) found (seek_fits (IsTaken target) 0 route_table target (table_taken target)) in
    walk_text r.pattern r.text target r.names 0 0 taken.small taken.names utf8
    (record { cut = IsCharBoundary-start target utf8; fits = taken.fits })
