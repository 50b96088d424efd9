-- What is known of each row of a table is known of what was read by it.
use Rattle.std.proofs.Common.{cond, ◌≡◌, refl, sym, ap, subst, ◌∙◌, Bool, true, false, List, [], ◌∷◌, ◌++◌, map, Option, Some, None}
use Rattle.std.specs.Bool.{⊤}
use Rattle.std.specs.Str.{bytes_eq}
use Rattle.std.proofs.lemmas.Bool.{cond-false, false_from_ne_true}
use Rattle.std.proofs.lemmas.Option.{none-some, same_Some}
use Rattle.std.proofs.lemmas.Slice.Eq.{bytes_eq-Decides}
use Rattle.mr_model.specs.Texts.{Text}
use Rattle.mr_wire.specs.Fields.{◌>>=◌}
use Rattle.mr_wire.proofs.FieldLaws.{bind_some}
use Rattle.mr_words.specs.CommandTable.{NamedRows, with_first_word, in_row}

-- ---- chains

bind_none : {A B : Type 0} (f : A → Option B) → ((x : A) → f x ≡ None) → (o : Option A) → (o >>= f) ≡ None
bind_none f none None = refl
bind_none f none (Some x) = none x

pub if_some : {A P : Type 0} (b : Bool) (x y : Option A) (s : A) → cond b x y ≡ Some s → (b ≡ true → x ≡ Some s → P) → (b ≡ false → y ≡ Some s → P) → P
if_some true x y s e f g = f refl e
if_some false x y s e f g = g refl e

-- ---- rows of other names

abbrev pub NoneNamed : {A : Type 0} → Text → NamedRows A → Type 0
NoneNamed name [] = ⊤
NoneNamed name (row ∷ rows) = (name ≡ row.0 → ⊥) × NoneNamed name rows

-- rows of other names are passed over
pub rows_behind : {A : Type 0} (others rows : NamedRows A) (name : Text) (words : List Text) → NoneNamed name others
    → in_row (others ++ rows) name words ≡ in_row rows name words
rows_behind [] rows name words none = refl
rows_behind (row ∷ others) rows name words none =
    cond-false (bytes_eq name row.0) (row.1 words) (in_row (others ++ rows) name words)
    (false_from_ne_true (bytes_eq name row.0) (λ e. none.0 ((bytes_eq-Decides name row.0).0 e)))
    ∙ rows_behind others rows name words none.1

-- ---- rows with a word before their own

behind_next : {A B C : Type 0} (first : Text → Option A) (both : A → B → C) (b : Bool) (f g : List Text → Option B) (words : List Text)
    → cond b (with_first_word first both f words) (with_first_word first both g words) ≡ with_first_word first both (λ rest. cond b (f rest) (g rest)) words
behind_next first both true f g words = refl
behind_next first both false f g words = refl

behind_none : {A B C : Type 0} (first : Text → Option A) (both : A → B → C) (words : List Text) → None ≡ with_first_word first both (λ rest. None) words
behind_none first both [] = refl
behind_none first both (word ∷ words) = sym (bind_none _ (λ a. refl) (first word))

-- rows that begin with such a word are read as the rows without it, behind the word
pub behind_rows : {A B C : Type 0} (first : Text → Option A) (both : A → B → C) (rows : NamedRows B) (name : Text) (words : List Text)
    → in_row (map (λ row. (row.0, with_first_word first both row.1)) rows) name words ≡ with_first_word first both (in_row rows name) words
behind_rows first both [] name words = behind_none first both words
behind_rows first both (row ∷ rows) name words =
    ap (cond (bytes_eq name row.0) (with_first_word first both row.1 words)) (behind_rows first both rows name words)
    ∙ behind_next first both (bytes_eq name row.0) row.1 (in_row rows name) words

-- ---- what is known of each row

-- what is read by a row is so of the row's name and the words
abbrev pub EachRow : {A : Type 0} → (Text → List Text → A → Type 0) → NamedRows A → Type 0
EachRow Is [] = ⊤
EachRow {A} Is (row ∷ rows) = ((words : List Text) (x : A) → row.1 words ≡ Some x → Is row.0 words x) × EachRow Is rows

pub by_rows : {A : Type 0} (Is : Text → List Text → A → Type 0) (rows : NamedRows A) → EachRow Is rows
    → (name : Text) (words : List Text) (x : A) → in_row rows name words ≡ Some x → Is name words x
by_rows Is [] each name words x e = absurd (none-some x e)
by_rows Is (row ∷ rows) each name words x e =
    if_some (bytes_eq name row.0) _ _ x e
    (λ is f. subst (λ n. Is n words x) (sym ((bytes_eq-Decides name row.0).0 is)) (each.0 words x f))
    (λ _ f. by_rows Is rows each.1 name words x f)

-- what follows from it is known of each row too
pub each_then : {A : Type 0} (Is Then : Text → List Text → A → Type 0) → ((name : Text) (words : List Text) (x : A) → Is name words x → Then name words x)
    → (rows : NamedRows A) → EachRow Is rows → EachRow Then rows
each_then Is Then follows [] each = tt
each_then Is Then follows (row ∷ rows) each = (λ words x e. follows row.0 words x (each.0 words x e), each_then Is Then follows rows each.1)

-- and so of the rows that begin with such a word
pub each_behind : {A B C : Type 0} (first : Text → Option A) (both : A → B → C) (Is : Text → List Text → B → Type 0) (Then : Text → List Text → C → Type 0)
    → ((name word : Text) (words : List Text) (a : A) (b : B) → first word ≡ Some a → Is name words b → Then name (word ∷ words) (both a b))
    → (rows : NamedRows B) → EachRow Is rows → EachRow Then (map (λ row. (row.0, with_first_word first both row.1)) rows)
each_behind first both Is Then follows [] each = tt
each_behind {A} {B} {C} first both Is Then follows (row ∷ rows) each = (one, each_behind first both Is Then follows rows each.1)
  where
    one : (words : List Text) (c : C) → with_first_word first both row.1 words ≡ Some c → Then row.0 words c
    one [] c e = absurd (none-some c e)
    one (word ∷ words) c e =
        let (a, is_first, more) = bind_some (first word) (λ a. (row.1 words >>= λ b. Some (both a b))) c e in
        let (b, is_row, last) = bind_some (row.1 words) (λ b. Some (both a b)) c more in
        subst (Then row.0 (word ∷ words)) (same_Some (both a b) c last) (follows row.0 word words a b is_first (each.0 words b is_row))
