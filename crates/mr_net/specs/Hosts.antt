-- How requests name a peer.
use Rattle.std.specs.Prelude.{ℕ, ◌==◌, ◌++◌, if◌then◌else◌, IsTrue, codes, decimal}
use Rattle.mr_model.specs.Texts.{Text}
use Rattle.mr_peer.specs.PeerRequests.{is_host}
use Rattle.mr_words.specs.Addresses.{IsAddress}

-- the host, with its port where that isn't 80
abbrev pub host_name : Text → ℕ → Text
host_name host port = if port == 80 then host else host ++ (codes ":" ++ decimal port)

-- the text is the address of a peer that a request may name
abbrev pub IsPeer : Text → Text → ℕ → Type 0
IsPeer text host port = IsAddress text host port × IsTrue (is_host (host_name host port))
