-- A text is read as a position exactly where it is the text of it.
use Rattle.std.proofs.Common.{◌≡◌, refl, sym, ap, ◌∙◌, subst, ℕ, suc, ◌-◌, ◌<◌, ◌≤◌, Bool, true, false, cond, ◌&&◌, eqb, leb, List, [], ◌∷◌, ◌++◌}
use Rattle.std.proofs.Common.{length, map, append_assoc, arith, Option, Some, None, lit<, lit≤, le-leb, leb-true, eqb-true, length-append}
use Rattle.std.proofs.lemmas.Bool.{and_parts, and_from, eqb-false}
use Rattle.std.proofs.lemmas.Option.{same_Some}
use Rattle.std.proofs.lemmas.List.{append-nil}
use Rattle.std.proofs.Math.Seq.{get_or-append_seam}
use Rattle.std.proofs.lemmas.Slice.Eq.{bytes_eq-Decides}
use Rattle.std.specs.Prelude.{codes, slice_index}
use Rattle.std.specs.Str.{bytes_eq, IsUtf8}
use Rattle.std.specs.Fmt.{decimal}
use Rattle.std.specs.List.{AllByRecursion, list_all}
use Rattle.mr_model.specs.Texts.{Text, within, only_if, words, line, lines_text, in_first_line, whole_lines}
use Rattle.mr_model.specs.Writes.{is_server, is_count, greatest_count}
use Rattle.mr_model.specs.Exchange.{Version, First, Second}
use Rattle.mr_model.specs.Positions.{Count, Position, are_rising, is_position, count_line, position_word, position_lines, position_text, read_position}
use Rattle.mr_model.proofs.WordsReadBack.{OneLine, all_append, lines-text}
use Rattle.mr_model.proofs.LinesReadBack.{within-high}
use Rattle.mr_model.proofs.BatchesReadBack.{only_if_some, words-one_line, number-one_line}
use Rattle.mr_model.proofs.PositionsReadBack.{read-position_text, read_position_text}
use Rattle.mr_wire.specs.Words.{cut}
use Rattle.mr_wire.specs.Fields.{◌>>=◌, behind_word, server_and, servers_under, servers_of, parse_commits, parse_count, no_more, counts_until_end, if_position, position_on}
use Rattle.mr_base.specs.Readings.{number_from_to}
use Rattle.mr_base.proofs.Readers.{same_reading}
use Rattle.mr_wire.proofs.FieldLaws.{bind_some, number_takes, number_again}
use Rattle.mr_wire.proofs.LineLaws.{behind_takes, behind_again, server_and_takes, server_and_again}
use Rattle.mr_wire.proofs.HeaderLaws.{word_among, servers_under_take, servers_under_again}
use Rattle.mr_wire.proofs.Ascii.{is_text, number_low}
use Rattle.mr_wire.proofs.LoopLaws.{first_line_is, no_line_left}
use Rattle.mr_model.proofs.LowBytes.{words_low, Low}

-- ---- the lines

abbrev pub count_ok : Count → Bool
count_ok c = is_server c.server && is_count c.count

pub count_takes : (text : Text) (c : Count) → parse_count text ≡ Some c → (count_ok c ≡ true) × (text ≡ count_line c)
unfolding parse_count
count_takes text c e =
    let a = bind_some (behind_word (codes "V") text) (λ rest. server_and 999_999_999 rest >>= λ n. Some (record { server = n.0; count = n.1 })) c e in
    let b = bind_some (server_and 999_999_999 a.0) (λ n. Some (record { server = n.0; count = n.1 })) c a.2 in
    let t = server_and_takes 999_999_999 a.0 b.0 b.1 in
    let made : Count = record { server = b.0.0; count = b.0.1 } in
    subst (λ (y : Count). (count_ok y ≡ true) × (text ≡ count_line y)) {x = made} (same_Some made c b.2)
    (and_from (is_server b.0.0) (is_count b.0.1) t.0 t.1, behind_takes (codes "V") text a.0 a.1 ∙ ap (λ (r : Text). 86 ∷ 32 ∷ r) t.2)

count_again : (c : Count) → count_ok c ≡ true → parse_count (count_line c) ≡ Some c
unfolding parse_count
count_again c ok =
    let a = and_parts (is_server c.server) (is_count c.count) ok in
    ap (λ o. o >>= λ (r : Text). server_and 999_999_999 r >>= λ n. Some (record { server = n.0; count = n.1 })) (behind_again (codes "V") (decimal c.server ++ 32 ∷ decimal c.count) (lit≤ tt, tt))
    ∙ ap (λ o. o >>= λ (n : ℕ × ℕ). Some (record { server = n.0; count = n.1 })) (server_and_again 999_999_999 c.server c.count a.0 a.1 (lit< tt))

counts_take : (ls : List Text) (cs : List Count) → counts_until_end ls ≡ Some cs → ls ≡ map count_line cs ++ codes "E" ∷ []
counts_take [] cs e = absurd (let f : ◌≡◌ {A = Option (List Count)} None (Some cs) = e in cc)
counts_take (l ∷ ls) cs e = go (bytes_eq l (codes "E")) refl (λ ds. counts_take ls ds) e
  where
    ended : (ms : List Text) → no_more ms ≡ Some cs → l ≡ codes "E" → l ∷ ms ≡ map count_line cs ++ codes "E" ∷ []
    ended [] h is = (λ i. is i ∷ []) ∙ ap (λ ds. map count_line ds ++ codes "E" ∷ []) (same_Some [] cs h)
    ended (m ∷ ms) h is = absurd (let f : ◌≡◌ {A = Option (List Count)} None (Some cs) = h in cc)

    go : (b : Bool) → bytes_eq l (codes "E") ≡ b → ((ds : List Count) → counts_until_end ls ≡ Some ds → ls ≡ map count_line ds ++ codes "E" ∷ [])
        → cond b (no_more ls) (parse_count l >>= λ c. (counts_until_end ls >>= λ ds. Some (c ∷ ds))) ≡ Some cs → l ∷ ls ≡ map count_line cs ++ codes "E" ∷ []
    go true t ih h = ended ls h ((bytes_eq-Decides l (codes "E")).0 t)
    go false t ih h =
        let a = bind_some (parse_count l) (λ c. (counts_until_end ls >>= λ ds. Some (c ∷ ds))) cs h in
        let b = bind_some (counts_until_end ls) (λ ds. Some (a.0 ∷ ds)) cs a.2 in
        let first = (count_takes l a.0 a.1).1 in
        let others = ih b.0 b.1 in
        (λ i. first i ∷ others i) ∙ ap (λ ds. map count_line ds ++ codes "E" ∷ []) (same_Some (a.0 ∷ b.0) cs b.2)

counts_again : (cs : List Count) → list_all count_ok cs ≡ true → counts_until_end (map count_line cs ++ codes "E" ∷ []) ≡ Some cs
counts_again [] ok = refl
counts_again (c ∷ cs) ok =
    let p = and_parts (count_ok c) (list_all count_ok cs) ok in
    let ls = map count_line cs ++ codes "E" ∷ [] in
    ap (λ o. o >>= λ d. (counts_until_end ls >>= λ ds. Some (d ∷ ds))) (count_again c p.0)
    ∙ ap (λ o. o >>= λ ds. Some (c ∷ ds)) (counts_again cs p.1)

-- ---- the first line

first_word_is : (v : Version) → word_among (position_word First) (position_word Second) v ≡ position_word v
first_word_is First = refl
first_word_is Second = refl

-- the word is the version's, and the servers are within the limits
pub record AreServersOf (text : Text) (v : Version) (server primary : ℕ) : Type 0 where
  pub server_ok : is_server server ≡ true
  pub primary_ok : is_server primary ≡ true
  pub is : text ≡ position_word v ++ 32 ∷ (decimal server ++ 32 ∷ decimal primary)

pub servers_take : (text : Text) (s : Version × ℕ × ℕ) → servers_of text ≡ Some s → AreServersOf text s.0 s.1 s.2
unfolding servers_of
servers_take text s e =
    let t = servers_under_take (position_word First) (position_word Second) text s e in
    record { server_ok = t.server_ok; primary_ok = t.primary_ok; is = t.is ∙ ap (λ (w : Text). w ++ 32 ∷ (decimal s.1 ++ 32 ∷ decimal s.2)) (first_word_is s.0) }

servers_again : (v : Version) (server primary : ℕ) → is_server server ≡ true → is_server primary ≡ true
    → servers_of (position_word v ++ 32 ∷ (decimal server ++ 32 ∷ decimal primary)) ≡ Some (v, server, primary)
unfolding servers_of
servers_again v server primary a b =
    ap (λ (w : Text). servers_under (position_word First) (position_word Second) (w ++ 32 ∷ (decimal server ++ 32 ∷ decimal primary))) (sym (first_word_is v))
    ∙ servers_under_again (position_word First) (position_word Second) (lit≤ tt, (lit≤ tt, (lit≤ tt, tt))) (lit≤ tt, (lit≤ tt, (lit≤ tt, tt))) refl v server primary a b

-- ---- the whole

-- what is read of all lines
lines_position : List Text → Option Position
lines_position [] = None
lines_position (a ∷ []) = None
lines_position (a ∷ k ∷ vs) =
    servers_of a >>= λ servers. parse_commits k >>= λ commits. counts_until_end vs >>= λ counts.
    if_position (record { version = servers.0; server = servers.1; primary = servers.2; commits = commits; counts = counts })

position_on_lines : (text : Text) → position_on text ≡ lines_position (whole_lines text)
unfolding position_on lines_position
position_on_lines text = go (cut 10 text) refl
  where
    first : (Text × Text) → Option Position
    first a = cut 10 a.1 >>= λ b. servers_of a.0 >>= λ servers. parse_commits b.0 >>= λ commits. counts_until_end (whole_lines b.1)
        >>= λ counts. if_position (record { version = servers.0; server = servers.1; primary = servers.2; commits = commits; counts = counts })

    second : (a : Text × Text) (o : Option (Text × Text)) → o ≡ cut 10 a.1 → (o >>= λ b. servers_of a.0 >>= λ servers. parse_commits b.0 >>= λ commits. counts_until_end (whole_lines b.1)
        >>= λ counts. if_position (record { version = servers.0; server = servers.1; primary = servers.2; commits = commits; counts = counts })) ≡ lines_position (a.0 ∷ whole_lines a.1)
    second a None e = sym (ap (λ ls. lines_position (a.0 ∷ ls)) (no_line_left a.1 e))
    second a (Some b) e = sym (ap (λ ls. lines_position (a.0 ∷ ls)) (first_line_is a.1 b.0 b.1 e))

    go : (o : Option (Text × Text)) → o ≡ cut 10 text → (o >>= first) ≡ lines_position (whole_lines text)
    go None e = sym (ap lines_position (no_line_left text e))
    go (Some a) e = second a (cut 10 a.1) refl ∙ sym (ap lines_position (first_line_is text a.0 a.1 e))

lines_take : (ls : List Text) (p : Position) → lines_position ls ≡ Some p → (is_position p ≡ true) × (ls ≡ position_lines p)
unfolding lines_position parse_commits
lines_take [] p e = absurd (let f : ◌≡◌ {A = Option Position} None (Some p) = e in cc)
lines_take (a ∷ []) p e = absurd (let f : ◌≡◌ {A = Option Position} None (Some p) = e in cc)
lines_take (a ∷ k ∷ vs) p e =
    let s = bind_some (servers_of a) (λ servers. parse_commits k >>= λ commits. counts_until_end vs
    >>= λ counts. if_position (record { version = servers.0; server = servers.1; primary = servers.2; commits = commits; counts = counts })) p e in
    let c = bind_some (parse_commits k)
    (λ commits. counts_until_end vs >>= λ counts. if_position (record { version = s.0.0; server = s.0.1; primary = s.0.2; commits = commits; counts = counts })) p s.2 in
    let v = bind_some (counts_until_end vs) (λ counts. if_position (record { version = s.0.0; server = s.0.1; primary = s.0.2; commits = c.0; counts = counts })) p c.2 in
    let made : Position = record { version = s.0.0; server = s.0.1; primary = s.0.2; commits = c.0; counts = v.0 } in
    let ends = only_if_some (is_position made) made p v.2 in
    let ca = bind_some (behind_word (codes "K") k) (λ rest. number_from_to 0 999_999_999_999 rest) c.0 c.1 in
    let ct = number_takes 0 999_999_999_999 ca.0 c.0 ca.2 in
    let first : a ≡ position_word s.0.0 ++ 32 ∷ (decimal s.0.1 ++ 32 ∷ decimal s.0.2) = (servers_take a s.0 s.1).is in
    let next : k ≡ 75 ∷ 32 ∷ decimal c.0 = behind_takes (codes "K") k ca.0 ca.1 ∙ ap (λ (r : Text). 75 ∷ 32 ∷ r) ct.1 in
    let others = counts_take vs v.0 v.1 in
    subst (λ (y : Position). (is_position y ≡ true) × (a ∷ k ∷ vs ≡ position_lines y)) {x = made} ends.1 (ends.0, (λ i. first i ∷ next i ∷ others i))

record Parts (p : Position) : Type 0 where
  server : is_server p.server ≡ true
  primary : is_server p.primary ≡ true
  commits : p.commits ≤ 999_999_999_999
  counts : list_all count_ok p.counts ≡ true

parts : (p : Position) → is_position p ≡ true → Parts p
parts p ok =
    let a = and_parts (is_server p.server && is_server p.primary && leb p.commits 999_999_999_999 && list_all count_ok p.counts) (are_rising p.counts) ok in
    let b = and_parts (is_server p.server && is_server p.primary && leb p.commits 999_999_999_999) (list_all count_ok p.counts) a.0 in
    let c = and_parts (is_server p.server && is_server p.primary) (leb p.commits 999_999_999_999) b.0 in
    let d = and_parts (is_server p.server) (is_server p.primary) c.0 in
    record { server = d.0; primary = d.1; commits = leb-true p.commits 999_999_999_999 c.1; counts = b.1 }

lines_again : (p : Position) → is_position p ≡ true → lines_position (position_lines p) ≡ Some p
unfolding lines_position parse_commits
lines_again p ok =
    let f = parts p ok in
    let vs = map count_line p.counts ++ codes "E" ∷ [] in
    let rest : Text = decimal p.server ++ 32 ∷ decimal p.primary in
    let few : within 0 999_999_999_999 p.commits ≡ true = and_from (leb 0 p.commits) (leb p.commits 999_999_999_999) (le-leb 0 p.commits (omega arith)) (le-leb p.commits 999_999_999_999 f.commits) in
    let servers : servers_of (position_word p.version ++ 32 ∷ rest) ≡ Some (p.version, p.server, p.primary) = servers_again p.version p.server p.primary f.server f.primary in
    let commits : parse_commits (75 ∷ 32 ∷ decimal p.commits) ≡ Some p.commits =
    ap (λ o. o >>= λ (r : Text). number_from_to 0 999_999_999_999 r) (behind_again (codes "K") (decimal p.commits) (lit≤ tt, tt)) ∙ number_again 0 999_999_999_999 p.commits few (lit< tt) in
    ap (λ o. o >>= λ (s : Version × ℕ × ℕ). parse_commits (75 ∷ 32 ∷ decimal p.commits) >>= λ commits. counts_until_end vs
    >>= λ counts. if_position (record { version = s.0; server = s.1; primary = s.2; commits = commits; counts = counts })) servers
    ∙ ap (λ o. o >>= λ commits. counts_until_end vs >>= λ counts. if_position (record { version = p.version; server = p.server; primary = p.primary; commits = commits; counts = counts })) commits
    ∙ ap (λ o. o >>= λ counts. if_position (record { version = p.version; server = p.server; primary = p.primary; commits = p.commits; counts = counts })) (counts_again p.counts f.counts)
    ∙ ap (λ b. only_if b p) ok

-- ---- the text

-- what ends in LF is the text of its lines
ends_whole : (bytes : Text) → slice_index bytes (length bytes - 1) ≡ 10 → bytes ≡ lines_text (whole_lines bytes)
ends_whole [] e = refl
ends_whole (c ∷ []) e = go (eqb c 10) refl
  where
    go : (b : Bool) → eqb c 10 ≡ b → c ∷ [] ≡ lines_text (cond b ([] ∷ []) [])
    go true t = (let is = eqb-true c 10 t in λ i. is i ∷ [])
    go false t = absurd (eqb-false c 10 t e)
ends_whole (c ∷ d ∷ ds) e = go (eqb c 10) refl (ends_whole (d ∷ ds) (ap (λ n. slice_index (c ∷ d ∷ ds) n) next ∙ e))
  where
    next : suc (length (d ∷ ds) - 1) ≡ length (c ∷ d ∷ ds) - 1
    next = omega arith

    joined : (ls : List Text) → d ∷ ds ≡ lines_text ls → c ∷ d ∷ ds ≡ lines_text (in_first_line c ls)
    joined [] h = absurd (let f : ◌≡◌ {A = Text} (d ∷ ds) [] = h in cc)
    joined (l ∷ ls) h = ap (λ (t : Text). c ∷ t) h

    go : (b : Bool) → eqb c 10 ≡ b → d ∷ ds ≡ lines_text (whole_lines (d ∷ ds)) → c ∷ d ∷ ds ≡ lines_text (cond b ([] ∷ whole_lines (d ∷ ds)) (in_first_line c (whole_lines (d ∷ ds))))
    go true t h = (let is = eqb-true c 10 t in λ i. is i ∷ h i)
    go false t h = joined (whole_lines (d ∷ ds)) h

-- a text of lines ends in LF
lines_end : (ls : List Text) (l : Text) → (front : Text) × (lines_text (ls ++ l ∷ []) ≡ front ++ 10 ∷ [])
lines_end [] l = (l, append-nil (l ++ 10 ∷ []))
lines_end (x ∷ xs) l =
    let (front, is) = lines_end xs l in
    (line x ++ front, ap (λ (t : Text). line x ++ t) is ∙ sym (append_assoc (line x) front (10 ∷ [])))

ends_in_lf : (ls : List Text) (l : Text) → slice_index (lines_text (ls ++ l ∷ [])) (length (lines_text (ls ++ l ∷ [])) - 1) ≡ 10
ends_in_lf ls l =
    let (front, is) = lines_end ls l in
    let long : length (front ++ 10 ∷ []) - 1 ≡ length front = omega (arith, length-append front (10 ∷ [])) in
    ap (λ (t : Text). slice_index t (length t - 1)) is ∙ ap (λ n. slice_index (front ++ 10 ∷ []) n) long ∙ get_or-append_seam front 10 [] 0

position_ends : (p : Position) → slice_index (position_text p) (length (position_text p) - 1) ≡ 10
position_ends p = ends_in_lf (words (position_word p.version ∷ decimal p.server ∷ decimal p.primary ∷ []) ∷ words (codes "K" ∷ decimal p.commits ∷ []) ∷ map count_line p.counts) (codes "E")

counts_one_line : (cs : List Count) → list_all count_ok cs ≡ true → AllByRecursion OneLine (map count_line cs)
counts_one_line [] ok = tt
counts_one_line (c ∷ cs) ok =
    let p = and_parts (count_ok c) (list_all count_ok cs) ok in
    let a = and_parts (is_server c.server) (is_count c.count) p.0 in (
      words-one_line (codes "V" ∷ decimal c.server ∷ decimal c.count ∷ [])
          ((lit≤ tt, tt), (number-one_line c.server 99 (within-high 1 99 c.server a.0) (lit< tt), (number-one_line c.count greatest_count (within-high 1 greatest_count c.count a.1) (lit< tt), tt))),
      counts_one_line cs p.1,
    )

word_one_line : (v : Version) → OneLine (position_word v)
word_one_line First = (lit≤ tt, (lit≤ tt, (lit≤ tt, tt)))
word_one_line Second = (lit≤ tt, (lit≤ tt, (lit≤ tt, tt)))

word_low : (v : Version) → Low (position_word v)
word_low First = (lit< tt, (lit< tt, (lit< tt, tt)))
word_low Second = (lit< tt, (lit< tt, (lit< tt, tt)))

one_lines : (p : Position) → is_position p ≡ true → AllByRecursion OneLine (position_lines p)
one_lines p ok =
    let f = parts p ok in (
      words-one_line (position_word p.version ∷ decimal p.server ∷ decimal p.primary ∷ [])
          (word_one_line p.version, (number-one_line p.server 99 (within-high 1 99 p.server f.server) (lit< tt), (number-one_line p.primary 99 (within-high 1 99 p.primary f.primary) (lit< tt), tt))),
      (
        words-one_line (codes "K" ∷ decimal p.commits ∷ []) ((lit≤ tt, tt), (number-one_line p.commits 999_999_999_999 f.commits (lit< tt), tt)),
        all_append OneLine (map count_line p.counts) (codes "E" ∷ []) (counts_one_line p.counts f.counts) ((lit≤ tt, tt), tt),
      ),
    )

counts_low : (cs : List Count) → list_all count_ok cs ≡ true → AllByRecursion Low (map count_line cs)
counts_low [] ok = tt
counts_low (c ∷ cs) ok =
    let p = and_parts (count_ok c) (list_all count_ok cs) ok in
    let a = and_parts (is_server c.server) (is_count c.count) p.0 in (
      words_low (codes "V" ∷ decimal c.server ∷ decimal c.count ∷ [])
          ((lit< tt, tt), (number_low c.server 99 (within-high 1 99 c.server a.0) (lit< tt), (number_low c.count greatest_count (within-high 1 greatest_count c.count a.1) (lit< tt), tt))),
      counts_low cs p.1,
    )

text_low : (ls : List Text) → AllByRecursion Low ls → Low (lines_text ls)
text_low [] h = tt
text_low (l ∷ ls) h = all_append (λ c. c < 128) (line l) (lines_text ls) (all_append (λ c. c < 128) l (10 ∷ []) h.0 (lit< tt, tt)) (text_low ls h.1)

position_low : (p : Position) → is_position p ≡ true → Low (position_text p)
position_low p ok =
    let f = parts p ok in
    text_low (position_lines p) (
      words_low (position_word p.version ∷ decimal p.server ∷ decimal p.primary ∷ [])
          (word_low p.version, (number_low p.server 99 (within-high 1 99 p.server f.server) (lit< tt), (number_low p.primary 99 (within-high 1 99 p.primary f.primary) (lit< tt), tt))),
      (
        words_low (codes "K" ∷ decimal p.commits ∷ []) ((lit< tt, tt), (number_low p.commits 999_999_999_999 f.commits (lit< tt), tt)),
        all_append Low (map count_line p.counts) (codes "E" ∷ []) (counts_low p.counts f.counts) ((lit< tt, tt), tt),
      ),
    )

-- a text that ends in LF is read as the definitions read it
pub position_is : (text : Text) → eqb (slice_index text (length text - 1)) 10 ≡ true → position_on text ≡ read_position text
position_is text last =
    let ends : slice_index text (length text - 1) ≡ 10 = eqb-true (slice_index text (length text - 1)) 10 last in
    same_reading (position_on text) (read_position text)
    (λ p e. let t = lines_take (whole_lines text) p (sym (position_on_lines text) ∙ e) in ap read_position (ends_whole text ends ∙ ap lines_text t.1) ∙ read-position_text p t.0)
    (λ p e. let t = read_position_text text p e in ap position_on t.1 ∙ position_on_lines (position_text p) ∙ ap lines_position (lines-text (position_lines p) (one_lines p t.0)) ∙ lines_again p t.0)

-- what is no text, or doesn't end in LF, is no position's
pub no_text : (bytes : Text) → (IsUtf8 bytes → ⊥) → read_position bytes ≡ None
no_text bytes bad = go (read_position bytes) refl
  where
    go : (o : Option Position) → read_position bytes ≡ o → read_position bytes ≡ None
    go None e = e
    go (Some p) e = let t = read_position_text bytes p e in absurd (bad (subst IsUtf8 (sym t.1) (is_text (position_text p) (position_low p t.0))))

pub no_end : (bytes : Text) → eqb (slice_index bytes (length bytes - 1)) 10 ≡ false → read_position bytes ≡ None
no_end bytes last = go (read_position bytes) refl
  where
    go : (o : Option Position) → read_position bytes ≡ o → read_position bytes ≡ None
    go None e = e
    go (Some p) e =
        let t = read_position_text bytes p e in
        absurd (eqb-false (slice_index bytes (length bytes - 1)) 10 last (subst (λ (b : Text). slice_index b (length b - 1) ≡ 10) (sym t.1) (position_ends p)))
