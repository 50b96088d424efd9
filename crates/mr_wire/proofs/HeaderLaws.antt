-- A version's word with two servers, and a header, are read exactly where they are their text.
use Rattle.std.proofs.Common.{◌≡◌, refl, sym, ap, ◌∙◌, subst, ℕ, ◌<◌, ◌≤◌, Bool, true, false, cond, ◌∷◌, ◌++◌, Option, Some, None, lit<, lit≤}
use Rattle.std.proofs.lemmas.Bool.{and_parts, and_from}
use Rattle.std.proofs.lemmas.Option.{same_Some}
use Rattle.std.proofs.lemmas.Slice.Eq.{bytes_eq-Decides}
use Rattle.std.specs.Str.{bytes_eq}
use Rattle.std.specs.Fmt.{decimal}
use Rattle.mr_model.specs.Texts.{Text}
use Rattle.mr_model.specs.Writes.{is_server}
use Rattle.mr_model.specs.Exchange.{Version, First, Second, Header, Heading, is_heading, version_word, heading_line, heading_in, read_header}
use Rattle.mr_model.proofs.WordsReadBack.{Plain}
use Rattle.mr_model.proofs.BatchesReadBack.{own_text, read-header_line}
use Rattle.mr_wire.specs.Words.{cut}
use Rattle.mr_base.proofs.Readers.{same_reading}
use Rattle.mr_wire.specs.Fields.{◌>>=◌, server_and, version_among, servers_under, heading_of}
use Rattle.mr_wire.proofs.FieldLaws.{bind_some, cut_takes, word_again}
use Rattle.mr_wire.proofs.LineLaws.{server_and_takes, server_and_again}

-- ---- a version's word and two servers

abbrev pub word_among : Text → Text → Version → Text
word_among first second First = first
word_among first second Second = second

version_takes : (first second word : Text) (v : Version) → version_among first second word ≡ Some v → word ≡ word_among first second v
unfolding version_among
version_takes first second word v = go (bytes_eq word first) refl (bytes_eq word second) refl
  where
    go : (a : Bool) → bytes_eq word first ≡ a → (b : Bool) → bytes_eq word second ≡ b → cond a (Some First) (cond b (Some Second) None) ≡ Some v → word ≡ word_among first second v
    go true a b eb e = (bytes_eq-Decides word first).0 a ∙ ap (word_among first second) (same_Some First v e)
    go false a true eb e = (bytes_eq-Decides word second).0 eb ∙ ap (word_among first second) (same_Some Second v e)
    go false a false eb e = absurd (let f : ◌≡◌ {A = Option Version} None (Some v) = e in cc)

version_again : (first second : Text) (v : Version) → bytes_eq second first ≡ false → version_among first second (word_among first second v) ≡ Some v
unfolding version_among
version_again first second First differ = ap (λ b. cond b (Some First) (cond (bytes_eq first second) (Some Second) None)) ((bytes_eq-Decides first first).1 refl)
version_again first second Second differ =
    ap (λ b. cond b (Some First) (cond (bytes_eq second second) (Some Second) None)) differ
    ∙ ap (λ b. cond b (Some Second) None) ((bytes_eq-Decides second second).1 refl)

-- the words are the version's, and the servers are within the limits
pub record AreServersUnder (first second text : Text) (v : Version) (server primary : ℕ) : Type 0 where
  pub server_ok : is_server server ≡ true
  pub primary_ok : is_server primary ≡ true
  pub is : text ≡ word_among first second v ++ 32 ∷ (decimal server ++ 32 ∷ decimal primary)

pub servers_under_take : (first second text : Text) (x : Version × ℕ × ℕ) → servers_under first second text ≡ Some x → AreServersUnder first second text x.0 x.1 x.2
unfolding servers_under
servers_under_take first second text x e =
    let w = bind_some (cut 32 text) (λ word. version_among first second word.0 >>= λ version. server_and 99 word.1 >>= λ servers. Some (version, servers.0, servers.1)) x e in
    let v = bind_some (version_among first second w.0.0) (λ version. server_and 99 w.0.1 >>= λ servers. Some (version, servers.0, servers.1)) x w.2 in
    let s = bind_some (server_and 99 w.0.1) (λ servers. Some (v.0, servers.0, servers.1)) x v.2 in
    let t = server_and_takes 99 w.0.1 s.0 s.1 in
    let made : Version × ℕ × ℕ = (v.0, s.0.0, s.0.1) in
    subst (λ (y : Version × ℕ × ℕ). AreServersUnder first second text y.0 y.1 y.2) {x = made} (same_Some made x s.2) (record {
      server_ok = t.0;
      primary_ok = t.1;
      is = cut_takes 32 text w.0.0 w.0.1 w.1 ∙ ap (λ (u : Text). u ++ 32 ∷ w.0.1) (version_takes first second w.0.0 v.0 v.1)
          ∙ ap (λ (u : Text). word_among first second v.0 ++ 32 ∷ u) t.2;
    })

pub servers_under_again : (first second : Text) → Plain first → Plain second → bytes_eq second first ≡ false → (v : Version) (server primary : ℕ) → is_server server ≡ true → is_server primary ≡ true
    → servers_under first second (word_among first second v ++ 32 ∷ (decimal server ++ 32 ∷ decimal primary)) ≡ Some (v, server, primary)
unfolding servers_under
servers_under_again first second pf ps differ v server primary a b =
    let rest : Text = decimal server ++ 32 ∷ decimal primary in
    ap (λ o. o >>= λ (word : Text × Text). version_among first second word.0 >>= λ version. server_and 99 word.1 >>= λ servers. Some (version, servers.0, servers.1))
    (word_again (word_among first second v) rest (plain v))
    ∙ ap (λ o. o >>= λ (version : Version). server_and 99 rest >>= λ servers. Some (version, servers.0, servers.1)) (version_again first second v differ)
    ∙ ap (λ o. o >>= λ (servers : ℕ × ℕ). Some (v, servers.0, servers.1)) (server_and_again 99 server primary a b (lit< tt))
  where
    plain : (u : Version) → Plain (word_among first second u)
    plain First = pf
    plain Second = ps

-- ---- headers

header_word : (v : Version) → word_among (version_word First) (version_word Second) v ≡ version_word v
header_word First = refl
header_word Second = refl

heading_takes : (text : Text) (h : Heading) → heading_of text ≡ Some h → (is_heading h ≡ true) × (text ≡ heading_line h)
unfolding heading_of
heading_takes text h e =
    let s = bind_some (servers_under (version_word First) (version_word Second) text) (λ found. Some (record { version = found.0; header = record { from = found.1; primary = found.2 } })) h e in
    let t = servers_under_take (version_word First) (version_word Second) text s.0 s.1 in
    let made : Heading = record { version = s.0.0; header = record { from = s.0.1; primary = s.0.2 } } in
    subst (λ (y : Heading). (is_heading y ≡ true) × (text ≡ heading_line y)) {x = made} (same_Some made h s.2) (
      and_from (is_server s.0.1) (is_server s.0.2) t.server_ok t.primary_ok,
      t.is ∙ ap (λ (w : Text). w ++ 32 ∷ (decimal s.0.1 ++ 32 ∷ decimal s.0.2)) (header_word s.0.0),
    )

heading_again : (h : Heading) → is_heading h ≡ true → heading_of (heading_line h) ≡ Some h
unfolding heading_of
heading_again h ok =
    let d : Header = h.header in
    let a = and_parts (is_server h.header.from) (is_server h.header.primary) ok in
    ap (λ (w : Text). servers_under (version_word First) (version_word Second) (w ++ 32 ∷ (decimal h.header.from ++ 32 ∷ decimal h.header.primary))
    >>= λ found. Some (record { version = found.0; header = record { from = found.1; primary = found.2 } })) (sym (header_word h.version))
    ∙ ap (λ o. o >>= λ (found : Version × ℕ × ℕ). Some (record { version = found.0; header = record { from = found.1; primary = found.2 } }))
    (servers_under_again (version_word First) (version_word Second) (lit≤ tt, (lit≤ tt, (lit≤ tt, tt))) (lit≤ tt, (lit≤ tt, (lit≤ tt, tt))) refl h.version h.header.from h.header.primary a.0 a.1)

-- a line is read as a header just where the definitions read it so
pub header_is : (text : Text) → heading_of text ≡ read_header text
header_is text =
    same_reading (heading_of text) (read_header text)
    (λ h e. let t = heading_takes text h e in ap read_header t.1 ∙ read-header_line h t.0)
    (λ h e. let o = own_text is_heading heading_line (heading_in text) h text e in ap heading_of (sym o.1) ∙ heading_again h o.0)
