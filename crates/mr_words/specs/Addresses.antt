-- Which texts are addresses of peers.
use Rattle.std.specs.Prelude.{◌≡◌, ℕ, ◌≤◌, Bool, not, ◌&&◌, [], length, codes, bytes_eq, Some, None, is_some, Ok, option_map, unwrap_or}
use Rattle.mr_model.specs.Texts.{Text}
use Rattle.url.specs.Host.{host_text}
use Rattle.url.specs.Input.{is_empty}
use Rattle.url.specs.Parser.{parse_url}
use Rattle.url.specs.Parts.{Parts, nonempty_host}

-- the URL is of http, with this host and port, and with nothing behind them but `/`
pub record IsAddressOf (url : Parts) (host : Text) (port : ℕ) : Type 0 where
  pub scheme : url.scheme ≡ codes "http"
  -- the host as the URL writes it
  pub host_is : option_map host_text (nonempty_host url) ≡ Some host
  pub short : length host ≤ 255
  -- a URL has no port where it is that of its scheme
  pub port_is : unwrap_or url.port 80 ≡ port
  pub path : url.path ≡ codes "/"
  pub username : url.username ≡ []
  pub password : url.password ≡ []
  pub query : url.query ≡ None
  pub fragment : url.fragment ≡ None

-- the text is a URL, and that is an address
pub record IsAddress (text host : Text) (port : ℕ) : Type 0 where
  pub url : Parts
  pub read : parse_url None text ≡ Ok url
  pub address : IsAddressOf url host port

-- the same of all parts but host and port, as a test
abbrev pub has_plain_parts : Parts → Bool
has_plain_parts url =
    bytes_eq url.scheme (codes "http") && (bytes_eq url.path (codes "/") && (is_empty url.username && (is_empty url.password
    && (not (is_some url.query) && not (is_some url.fragment)))))
