-- What clap makes of a command line whose words are no flags: the row that the first word names, with the others.
use Rattle.std.proofs.lemmas.Option.{none-some, same_Some}
use Rattle.std.proofs.Common.{cond, ◌≡◌, refl, sym, ap, ◌∙◌, ℕ, ◌+◌, ◌<◌, ◌≤◌, Bool, true, false, not, ◌||◌, List, [], ◌∷◌, ◌++◌, length}
use Rattle.std.proofs.Common.{map, take, get_or, Option, Some, None, option_map, codes, arith, append_assoc, append-nil, fold}
use Rattle.std.specs.Prelude.{find, unwrap_or}
use Rattle.std.specs.Str.{bytes_eq}
use Rattle.std.proofs.lemmas.List.{take_more, map_push}
use Rattle.std.proofs.lemmas.List.Sums.{fold_push}
use Rattle.std.proofs.lemmas.Bool.{and_right, and_parts, le-ltb, not-true}
use Rattle.std.proofs.lemmas.Slice.Eq.{bytes_eq-Decides}
use Rattle.mr_model.specs.Texts.{Text}
use Rattle.mr_words.specs.CommandTable.{has_hyphen, has_no_flag}
use Rattle.mr_words.specs.Grammar.{words_rule, row_shape, bare_program, program, row_names}
use Rattle.clap.specs.Lexer.{usize_max, long_of, short_of}
use Rattle.clap.specs.Walk.{Names, stop_after, Row, Rule, positional, Walk, all_of, finished, nothing_held, settled, walk, walk_from, walked, answers_to}
use Rattle.clap.specs.Simple.{is_simple, App, Shape, rows_at, built, built_leaf, entered, filled, inherited, label_of}
use Rattle.clap.specs.Simple.{marked_built, names_of, subcommand_of, with_index, with_leaf_noted, with_subcommand}
use Rattle.clap.specs.Kinds.{or_else, range_kinds}
use Rattle.clap.specs.Faults.{built_fault, walk_fault, turn_fault, level_fault, settle_fault, defaults_fault, fault_of, is_simple_and_free, values_fault}
use Rattle.clap.specs.declared.error.ErrorKind.TheVariants as kind

-- ---- the program, row by row

-- one more row
pub program_more : {X : Type 0} (now : X → Text) (rows : List X) (i : ℕ) (d : X) → i < length rows
    → program (map now (take (i + 1) rows)) ≡ with_subcommand (program (map now (take i rows))) (row_shape (now (get_or rows i d)))
program_more now rows i d low =
    ap (λ l. program (map now l)) (take_more rows i d low) ∙ ap program (map_push now (take i rows) (get_or rows i d))
    ∙ fold_push (λ app name. with_subcommand app (row_shape name)) bare_program (map now (take i rows)) (now (get_or rows i d))

-- the same, all rows at once
abbrev top : Shape
top = record bare_program.top { is_leaf = false }

abbrev with_rows : List Text → App
with_rows names = record { top = top; subs = map row_shape names }

pub program_is_simple : is_simple (program row_names) ≡ true
program_is_simple = refl

pub program_simple : is_simple_and_free (program row_names) ≡ true
program_simple = refl

-- ---- words that are no flags

no_dashes : (word : Text) → has_hyphen word ≡ false → bytes_eq word (45 ∷ 45 ∷ []) ≡ false
no_dashes [] e = refl
no_dashes (b ∷ bs) e = rw e refl

no_long : (word : Text) → has_hyphen word ≡ false → long_of word ≡ None
no_long [] e = refl
no_long (b ∷ bs) e = rw e refl

no_short : (word : Text) → has_hyphen word ≡ false → short_of word ≡ None
no_short [] e = refl
no_short (b ∷ bs) e = rw e refl

-- ---- the rows of the built program

abbrev top_noted : Shape
top_noted = with_leaf_noted (marked_built top)

abbrev leaf : Text → Shape
leaf name = built_leaf (inherited top_noted (row_shape name))

abbrev words_built : Rule
words_built = with_index 1 (filled words_rule)

abbrev top_built : Shape
top_built = (built (with_rows [])).top

abbrev built_with : List Text → App
built_with names = record { top = top_built; subs = map leaf names }

leaves_are : (names : List Text) → map built_leaf (map (inherited top_noted) (map row_shape names)) ≡ map leaf names
leaves_are [] = refl
leaves_are (n ∷ ns) = ap (λ (ss : List Shape). leaf n ∷ ss) (leaves_are ns)

built_is : (names : List Text) → built (with_rows names) ≡ built_with names
built_is names = λ i. record { top = top_built; subs = leaves_are names i }

-- ---- the row that a word names

abbrev pub named : Text → List Text → Option Text
named word names = find (λ name. bytes_eq name word) names

abbrev bare_label : Text → Text × List Text
bare_label name = (name, [])

label_found : (word : Text) (names : List Text) → find (answers_to word) (map label_of (map leaf names)) ≡ option_map bare_label (named word names)
label_found word [] = refl
label_found word (n ∷ ns) = go (bytes_eq n word) (label_found word ns)
  where
    go : (b : Bool) → find (answers_to word) (map label_of (map leaf ns)) ≡ option_map bare_label (named word ns)
        → cond (b || false) (Some (bare_label n)) (find (answers_to word) (map label_of (map leaf ns))) ≡ option_map bare_label (cond b (Some n) (named word ns))
    go true ih = refl
    go false ih = ih

leaf_found : (word : Text) (names : List Text) → find (λ s. answers_to word (label_of s)) (map leaf names) ≡ option_map leaf (named word names)
leaf_found word [] = refl
leaf_found word (n ∷ ns) = go (bytes_eq n word) (leaf_found word ns)
  where
    go : (b : Bool) → find (λ s. answers_to word (label_of s)) (map leaf ns) ≡ option_map leaf (named word ns)
        → cond (b || false) (Some (leaf n)) (find (λ s. answers_to word (label_of s)) (map leaf ns)) ≡ option_map leaf (cond b (Some n) (named word ns))
    go true ih = refl
    go false ih = ih

-- a row is named by its name
pub named_is : (word : Text) (names : List Text) (name : Text) → named word names ≡ Some name → name ≡ word
named_is word [] name e = absurd (none-some name e)
named_is word (n ∷ ns) name e = go (bytes_eq n word) refl (named_is word ns name) e
  where
    go : (b : Bool) → bytes_eq n word ≡ b → (named word ns ≡ Some name → name ≡ word) → cond b (Some n) (named word ns) ≡ Some name → name ≡ word
    go true t ih e = sym (same_Some n name e) ∙ (bytes_eq-Decides n word).0 t
    go false t ih e = ih e

-- ---- the program's own level

abbrev before_rows : Walk
before_rows = walk_from nothing_held

-- a row was named, and these words follow
abbrev stopped_at : Text → List Text → Walk
stopped_at name words = record before_rows { stopped = Some (name, words) }

follows : (N : Names) (name : Text) (before words : List Text) → fold (walked [] N) (stopped_at name before) words ≡ stopped_at name (before ++ words)
unfolding walked
follows N name before [] = ap (stopped_at name) (sym (append-nil before))
follows N name before (w ∷ ws) = follows N name (before ++ w ∷ []) ws ∙ ap (stopped_at name) (append_assoc before (w ∷ []) ws)

follows_free : (N : Names) (name : Text) (before words : List Text) → walk_fault top_built N (stopped_at name before) words ≡ []
unfolding walk_fault walked
follows_free N name before [] = refl
follows_free N name before (w ∷ ws) = follows_free N name (before ++ w ∷ []) ws

module _ (names : List Text) (word : Text) where
  abbrev N : Names
  N = names_of (built_with names)

  module _ (name : Text) (found : named word names ≡ Some name) where
    met : find (answers_to word) N ≡ Some (bare_label name)
    met = label_found word names ∙ ap (option_map bare_label) found

    stops : walked [] N before_rows word ≡ stopped_at name []
    unfolding walked
    stops = rw met refl

    stops_free : turn_fault top_built N before_rows word ≡ []
    stops_free = rw (met, and_right (bytes_eq name (codes "help")) false refl) refl

  module _ (unknown : named word names ≡ None) (plain : has_hyphen word ≡ false) where
    not_met : find (answers_to word) N ≡ None
    not_met = label_found word names ∙ ap (option_map bare_label) unknown

    strays : turn_fault top_built N before_rows word ≡ kind.UnknownArgument ∷ kind.InvalidSubcommand ∷ []
    strays = rw (not_met, no_dashes word plain, no_long word plain, no_short word plain) refl

-- ---- the level of a row

abbrev leaf_rules : List Rule
leaf_rules = words_built ∷ []

abbrev pub words_id : Text
words_id = codes "words"

-- the walk, once these words were taken
abbrev taken : List Text → Walk
taken [] = walk_from nothing_held
taken (v ∷ vs) = record {
  held = record { rows = []; pending = Some (words_id, v ∷ vs); skip = 0 };
  waiting = positional;
  position = 1;
  is_trailing = false;
  stopped = None;
}

takes_word : (before : List Text) (word : Text) → has_hyphen word ≡ false → walked leaf_rules [] (taken before) word ≡ taken (before ++ word ∷ [])
unfolding walked
takes_word [] word plain = rw (no_dashes word plain, no_long word plain, no_short word plain) refl
takes_word (v ∷ vs) word plain = rw (no_dashes word plain, no_long word plain, no_short word plain) refl

takes_free : (name : Text) (before : List Text) (word : Text) → has_hyphen word ≡ false → turn_fault (leaf name) [] (taken before) word ≡ []
takes_free name [] word plain = rw (no_dashes word plain, no_long word plain, no_short word plain) refl
takes_free name (v ∷ vs) word plain = rw (no_dashes word plain, no_long word plain, no_short word plain) refl

pub first_plain : (word : Text) (words : List Text) → has_no_flag (word ∷ words) ≡ true → (has_hyphen word ≡ false) × (has_no_flag words ≡ true)
first_plain word words plain = let p = and_parts (not (has_hyphen word)) (has_no_flag words) plain in (not-true (has_hyphen word) p.0, p.1)

takes_all : (before words : List Text) → has_no_flag words ≡ true → fold (walked leaf_rules []) (taken before) words ≡ taken (before ++ words)
takes_all before [] plain = ap taken (sym (append-nil before))
takes_all before (w ∷ ws) plain =
    let p = first_plain w ws plain in
    ap (λ (v : Walk). fold (walked leaf_rules []) v ws) (takes_word before w p.0) ∙ takes_all (before ++ w ∷ []) ws p.1
    ∙ ap taken (append_assoc before (w ∷ []) ws)

takes_all_free : (name : Text) (before words : List Text) → has_no_flag words ≡ true → walk_fault (leaf name) [] (taken before) words ≡ []
unfolding walk_fault
takes_all_free name before [] plain = refl
takes_all_free name before (w ∷ ws) plain =
    let p = first_plain w ws plain in
    ap (λ ks. or_else ks (walk_fault (leaf name) [] (walked leaf_rules [] (taken before) w) ws)) (takes_free name before w p.0)
    ∙ ap (λ v. walk_fault (leaf name) [] v ws) (takes_word before w p.0) ∙ takes_all_free name (before ++ w ∷ []) ws p.1

-- any number of values may be taken, and any text is a value
range_free : (n : ℕ) → n ≤ usize_max → range_kinds 0 usize_max n ≡ []
range_free n low = rw (le-ltb n 0 (omega arith), le-ltb usize_max n low) refl

values_free : (words : List Text) → values_fault words_built words ≡ []
values_free [] = refl
values_free (w ∷ ws) = values_free ws

settles_free : (words : List Text) → length words ≤ usize_max → settle_fault leaf_rules false (taken words).held ≡ []
settles_free [] low = refl
settles_free (w ∷ ws) low =
    ap (λ ks. or_else ks (values_fault words_built (w ∷ ws))) (range_free (length (w ∷ ws)) low) ∙ values_free (w ∷ ws)

-- the matches of the row
abbrev pub row_matches : List Text → List Row
row_matches words = finished leaf_rules (taken words).held

defaults_free : (words : List Text) → defaults_fault (settled leaf_rules (taken words).held).rows leaf_rules ≡ []
unfolding defaults_fault
defaults_free [] = refl
defaults_free (w ∷ ws) = refl

leaf_free : (name : Text) (words : List Text) → has_no_flag words ≡ true → length words ≤ usize_max → level_fault (leaf name) [] nothing_held words false [] ≡ []
leaf_free name words plain low =
    rw (takes_all [] words plain, takes_all_free name [] words plain, settles_free words low, defaults_free words) refl

-- ---- the whole

module _ (names : List Text) where
  -- no word: one is missing
  pub none_faults : fault_of (with_rows names) [] ≡ kind.MissingSubcommand ∷ []
  unfolding walk_fault defaults_fault
  none_faults = refl

  faults_built : (words : List Text) → fault_of (with_rows names) words ≡ built_fault (built_with names) nothing_held words
  faults_built words = ap (λ b. built_fault b nothing_held words) (built_is names)

  pub unknown_faults : (word : Text) (words : List Text) → named word names ≡ None → has_hyphen word ≡ false
      → fault_of (with_rows names) (word ∷ words) ≡ kind.UnknownArgument ∷ kind.InvalidSubcommand ∷ []
  unfolding walk_fault
  unknown_faults word words unknown plain = faults_built (word ∷ words) ∙ rw (strays names word unknown plain) refl

  module _ (name word : Text) (words : List Text) (found : named word names ≡ Some name) (plain : has_no_flag words ≡ true) where
    walks : walk [] (N names word) nothing_held (word ∷ words) ≡ stopped_at name words
    walks = ap (λ (v : Walk). fold (walked [] (N names word)) v words) (stops names word name found) ∙ follows (N names word) name [] words

    again : named name names ≡ Some name
    again = ap (λ w. named w names) (named_is word names name found) ∙ found

    enters : find (λ s. answers_to name (label_of s)) (map leaf names) ≡ Some (leaf name)
    enters = leaf_found name names ∙ ap (option_map leaf) again

    -- a row was named, and the other words go with it
    pub found_rows : subcommand_of (with_rows names) (word ∷ words) ≡ Some (name, row_matches words)
    found_rows =
        ap (λ b. entered b (stop_after b.top.rules (names_of b) (word ∷ words))) (built_is names)
        ∙ ap (λ (v : Walk). entered (built_with names) v.stopped) walks
        ∙ ap (option_map (λ s. rows_at s words)) enters
        ∙ ap (λ (v : Walk). Some (name, finished leaf_rules v.held)) (takes_all [] words plain)

    walks_free : walk_fault top_built (N names word) before_rows (word ∷ words) ≡ []
    unfolding walk_fault
    walks_free =
        ap (λ ks. or_else ks (walk_fault top_built (N names word) (walked [] (N names word) before_rows word) words)) (stops_free names word name found)
        ∙ ap (λ v. walk_fault top_built (N names word) v words) (stops names word name found) ∙ follows_free (N names word) name [] words

    pub found_free : length words ≤ usize_max → fault_of (with_rows names) (word ∷ words) ≡ []
    unfolding defaults_fault
    found_free low = faults_built (word ∷ words) ∙ rw (walks_free, walks, enters, leaf_free name words plain low) refl

-- the words of a row, among its matches
pub words_back : (words : List Text) → unwrap_or (all_of words_id (row_matches words)) [] ≡ words
words_back [] = refl
words_back (w ∷ ws) = refl
