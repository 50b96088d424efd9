-- Command lines of which no word is read as a flag: what clap made of them is what they ask for.
use Rattle.std.proofs.Common.{arith, cond, ◌≡◌, refl, sym, ap, ap₂, subst, ◌∙◌, ◌≤◌, Bool, true, false, List, [], ◌∷◌, length, map, Option, Some, None, option_map}
use Rattle.std.specs.Prelude.{find, unwrap_or}
use Rattle.std.specs.Str.{bytes_eq}
use Rattle.std.proofs.lemmas.Bool.{false≢true}
use Rattle.std.proofs.lemmas.Option.{none-some, same_Some}
use Rattle.std.proofs.lemmas.Slice.Eq.{bytes_eq-Decides}
use Rattle.mr_model.specs.Texts.{Text}
use Rattle.clap.specs.Lexer.{usize_max}
use Rattle.clap.specs.Facts.{Entry}
use Rattle.clap.specs.Walk.{row_of}
use Rattle.clap.proofs.WalkLemmas.{find_row}
use Rattle.std.specs.Borrow.{Bor}
use Rattle.clap.specs.Words.{fault_of, subcommand_of, subcommand_name_of, subcommand_rows_of, raw_values, IsAmong, Row}
use Rattle.clap.specs.declared.error.ErrorKind.{ErrorKind}
use Rattle.clap.specs.declared.parser.ArgMatches.{ArgMatches}
use Rattle.clap.specs.declared.parser.ArgMatches.TheViews.{out-ArgMatches}
use Rattle.mr_words.specs.CommandTable.{NamedRows, in_row, table, invocation_of, has_no_flag}
use Rattle.mr_words.specs.InvocationRead.{NamesRow, words_in}
use Rattle.mr_words.specs.Grammar.{program, row_names}
use Rattle.mr_words.proofs.FlaglessWords.{named, named_is, none_faults, unknown_faults, found_rows, found_free, first_plain, row_matches, words_back, words_id}

-- ---- what clap makes of the words

-- no row is named as none of the subcommands is
no_row : {A : Type 0} (rows : NamedRows A) (word : Text) (words : List Text) → named word (map (λ row. row.0) rows) ≡ None → in_row rows word words ≡ None
no_row [] word words e = refl
no_row {A} (row ∷ rows) word words e = go (bytes_eq row.0 word) refl (no_row rows word words) e
  where
    other : bytes_eq row.0 word ≡ false → (b : Bool) → bytes_eq word row.0 ≡ b → b ≡ false
    other differs false t = refl
    other differs true t =
        let same : word ≡ row.0 = (bytes_eq-Decides word row.0).0 t in
        absurd (false≢true (sym differs ∙ (bytes_eq-Decides row.0 word).1 (sym same)))

    go : (b : Bool) → bytes_eq row.0 word ≡ b → (named word (map (λ row. row.0) rows) ≡ None → in_row rows word words ≡ None)
        → cond b (Some row.0) (named word (map (λ row. row.0) rows)) ≡ None
        → cond (bytes_eq word row.0) (row.1 words) (in_row rows word words) ≡ None
    go true t ih e = absurd (none-some row.0 (sym e))
    go false t ih e = ap (λ b. cond b (row.1 words) (in_row rows word words)) (other t _ refl) ∙ ih e

-- where clap has nothing against the words, it found the row that they name
pub parsed : (words : List Text) (m : ArgMatches) → has_no_flag words ≡ true → fault_of (program row_names) words ≡ []
    → subcommand_rows_of m ≡ subcommand_of (program row_names) words → NamesRow words m
parsed [] m plain free rows = let bad = sym free ∙ none_faults row_names in cc
parsed (w ∷ ws) m plain free rows = go (named w row_names) refl
  where
    go : (o : Option Text) → named w row_names ≡ o → NamesRow (w ∷ ws) m
    go None e = let bad = sym free ∙ unknown_faults row_names w ws e (first_plain w ws plain).0 in cc
    go (Some name) e = (
      name,
      row_matches ws,
      ap₂ (λ (x : Text) (xs : List Text). x ∷ xs) (sym (named_is w row_names name e)) (sym (words_back ws)),
      rows ∙ found_rows row_names name w ws e (first_plain w ws plain).1,
    )

-- where it has something against them, they ask for nothing
pub refused : (words : List Text) (k : ErrorKind) → has_no_flag words ≡ true → length words ≤ usize_max
    → IsAmong k (fault_of (program row_names) words) → invocation_of words ≡ None
refused [] k plain low among = refl
refused (w ∷ ws) k plain low at = go (named w row_names) refl
  where
    go : (o : Option Text) → named w row_names ≡ o → invocation_of (w ∷ ws) ≡ None
    go None e = no_row table w ws e
    go (Some name) e = absurd (subst (IsAmong k) (found_free row_names name w ws e (first_plain w ws plain).1 (omega arith)) at)

-- ---- what is read of what clap found

both_maps : {A B C : Type 0} (f : A → B) (g : B → C) (o : Option A) → option_map (λ x. g (f x)) o ≡ option_map g (option_map f o)
both_maps f g None = refl
both_maps f g (Some x) = refl

-- clap's name of a row, among its matches
name_of_rows : (m : ArgMatches) → subcommand_name_of m ≡ option_map (λ p. p.0) (subcommand_rows_of m)
name_of_rows m = both_maps _ (λ (p : Text × List Row). p.0) (out-ArgMatches m).subcommand

-- what is answered for the row that clap found is answered for the words
pub answered : (words : List Text) (m : ArgMatches) (name : Text) (rows : List Row) → NamesRow words m
    → Some name ≡ subcommand_name_of m → Some rows ≡ option_map (λ p. p.1) (subcommand_rows_of m)
    → in_row table name (words_in rows) ≡ invocation_of words
answered words m name rows is named_so rows_so =
    let same_name : name ≡ is.0 = same_Some name is.0 (named_so ∙ name_of_rows m ∙ ap (option_map (λ (p : Text × List Row). p.0)) is.3) in
    let same_rows : rows ≡ is.1 = same_Some rows is.1 (rows_so ∙ ap (option_map (λ (p : Text × List Row). p.1)) is.3) in
    ap₂ (λ (n : Text) (rs : List Row). in_row table n (words_in rs)) same_name same_rows ∙ ap invocation_of (sym is.2)

-- the words name a row, so clap found one
pub found_one : (words : List Text) (m : ArgMatches) → NamesRow words m → None ≡ subcommand_name_of m → ⊥
found_one words m is none = none-some is.0 (none ∙ name_of_rows m ∙ ap (option_map (λ (p : Text × List Row). p.0)) is.3)

-- ---- the words of a row

raw_of_row : (o : Option Entry) → unwrap_or (option_map raw_values (option_map (λ (e : Entry). e.1) o)) []
    ≡ unwrap_or (option_map (λ (r : Row). r.values) (option_map row_of o)) []
raw_of_row None = refl
raw_of_row (Some e) = refl

texts_or : (o : Option (Bor (List (Bor Text)))) (other : Bor (List (Bor Text))) → other.now ≡ []
    → map (λ w. w.now) (unwrap_or o other).now ≡ unwrap_or (option_map (λ s. map (λ w. w.now) s.now) o) []
texts_or None other none = ap (map (λ (w : Bor Text). w.now)) none
texts_or (Some s) other none = refl

-- what `get_strs` gives, or no words, are the words among the matches
pub words_are : (entries : List Entry) (got : Option (Bor (List (Bor Text)))) (other words : Bor (List (Bor Text))) → other.now ≡ [] → words ≡ unwrap_or got other
    → option_map (λ s. map (λ w. w.now) s.now) got ≡ option_map raw_values (option_map (λ e. e.1) (find (λ e. bytes_eq e.0.now words_id) entries))
    → map (λ w. w.now) words.now ≡ words_in (map row_of entries)
words_are entries got other words none is given =
    ap (λ (s : Bor (List (Bor Text))). map (λ (w : Bor Text). w.now) s.now) is ∙ texts_or got other none ∙ ap (λ o. unwrap_or o []) given
    ∙ raw_of_row (find (λ e. bytes_eq e.0.now words_id) entries) ∙ ap (λ o. unwrap_or (option_map (λ (r : Row). r.values) o) []) (sym (find_row entries words_id))
