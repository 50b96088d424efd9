-- The parts of a URL that is an address.
use Rattle.url.specs.declared.error.ParseError.{ParseError}
use Rattle.std.proofs.Common.{◌≡◌, refl, sym, subst, ◌∙◌, ℕ, ◌≤◌, true, not, [], ◌∷◌, length, Option, Some, None, is_some, option_map, codes, Result, Ok, Err, MatchResult, eqb-true, arith}
use Rattle.std.specs.Prelude.{unwrap_or}
use Rattle.std.proofs.lemmas.Bool.{and_parts, false≢true}
use Rattle.std.proofs.lemmas.Slice.Eq.{bytes_eq-Decides}
use Rattle.std.specs.Str.{bytes_eq}
use Rattle.mr_model.specs.Texts.{Text}
use Rattle.url.specs.Host.{host_text}
use Rattle.url.specs.Input.{is_empty}
use Rattle.url.specs.Parser.{parse_url}
use Rattle.url.specs.Parts.{Parts, nonempty_host}
use Rattle.mr_words.specs.declared.address.AddressFault.{AddressFault}
use Rattle.mr_words.specs.declared.address.AddressFault.TheVariants.{Bad}
use Rattle.mr_words.specs.Addresses.{IsAddress, IsAddressOf, has_plain_parts}

empty_is : (t : Text) → is_empty t ≡ true → t ≡ []
empty_is [] e = refl
empty_is (c ∷ cs) e = absurd (omega (arith, eqb-true _ _ e))

none_is : {A : Type 0} (o : Option A) → not (is_some o) ≡ true → o ≡ None
none_is None e = refl
none_is (Some x) e = absurd (false≢true e)

-- a URL that passes the test is an address, where its host is short
pub address_from : (url : Parts) (host : Text) (port : ℕ) → has_plain_parts url ≡ true → option_map host_text (nonempty_host url) ≡ Some host
    → length host ≤ 255 → unwrap_or url.port 80 ≡ port → IsAddressOf url host port
address_from url host port plain host_is short port_is =
    let p = and_parts (bytes_eq url.scheme (codes "http")) _ plain in
    let q = and_parts (bytes_eq url.path (codes "/")) _ p.1 in
    let r = and_parts (is_empty url.username) _ q.1 in
    let s = and_parts (is_empty url.password) _ r.1 in
    let t = and_parts (not (is_some url.query)) _ s.1 in
    record {
      scheme = (bytes_eq-Decides url.scheme (codes "http")).0 p.0;
      host_is = host_is;
      short = short;
      port_is = port_is;
      path = (bytes_eq-Decides url.path (codes "/")).0 q.0;
      username = empty_is url.username r.0;
      password = empty_is url.password s.0;
      query = none_is url.query t.0;
      fragment = none_is url.fragment t.1;
    }

-- what is answered for a URL is answered for a text that reads as that URL
pub address_of_text : {S : Type 0} (bytes : S → Text) (text : Text) (url : Parts) (r : Result (S × ℕ) AddressFault) → parse_url None text ≡ Ok url
    → MatchResult r (λ a. IsAddressOf url (bytes a.0) a.1) (λ e. e ≡ Bad → (host : Text) (port : ℕ) → ¬ IsAddressOf url host port)
    → MatchResult r (λ a. IsAddress text (bytes a.0) a.1) (λ e. e ≡ Bad → (host : Text) (port : ℕ) → ¬ IsAddress text host port)
address_of_text bytes text url (Ok a) read h = record { url = url; read = read; address = h }
address_of_text bytes text url (Err e) read h =
    λ bad host port is.
    let same : is.url ≡ url = same_url is.url url (sym is.read ∙ read) in
    h bad host port (subst (λ u. IsAddressOf u host port) same is.address)
  where
    same_url : (a b : Parts) → ◌≡◌ {A = Result Parts ParseError} (Ok a) (Ok b) → a ≡ b
    same_url a b e = cc
