-- The requests that a client writes.
use Rattle.std.specs.Prelude.{ℕ, Bool, ◌&&◌, [], ◌∷◌, ◌++◌, length, flat_map, codes, decimal}
use Rattle.std.specs.List.{list_all}
use Rattle.mr_model.specs.Texts.{Text, within}
use Rattle.mr_model.specs.Http.{head_line}

-- 1 to 300 visible ASCII codes
abbrev pub is_host : Text → Bool
is_host host = within 1 300 (length host) && list_all (within 0x21 0x7E) host

-- a request without a body, its first line given
abbrev pub bare_request : Text → Text → Text
bare_request line host = flat_map head_line (line ∷ (codes "Host: " ++ host) ∷ codes "Connection: close" ∷ [] ∷ [])

-- the head of a request with a body of n bytes
abbrev pub full_head : Text → Text → ℕ → Text
full_head line host n =
    flat_map head_line (
    line ∷ (codes "Host: " ++ host) ∷ (codes "Content-Length: " ++ decimal n) ∷ codes "Connection: close" ∷ [] ∷ [])

-- a request with a body
abbrev pub full_request : Text → Text → Text → Text
full_request line host body = full_head line host (length body) ++ body

-- the same two texts, with what stands behind each piece in brackets
unfoldable pub bare_pieces : Text → Text → Text
bare_pieces line host = line ++ (13 ∷ 10 ∷ codes "Host: " ++ (host ++ (13 ∷ 10 ∷ codes "Connection: close" ++ 13 ∷ 10 ∷ 13 ∷ 10 ∷ [])))

unfoldable pub full_pieces : Text → Text → ℕ → Text
full_pieces line host n =
    line ++ (13 ∷ 10 ∷ codes "Host: " ++ (host ++ (13 ∷ 10 ∷ codes "Content-Length: "
    ++ (decimal n ++ (13 ∷ 10 ∷ codes "Connection: close" ++ 13 ∷ 10 ∷ 13 ∷ 10 ∷ [])))))

-- asks for the peer's position
abbrev pub position_request : Text → Text
position_request host = bare_request (codes "GET /position HTTP/1.1") host

-- asks for what the replica at the position with this text lacks
abbrev pub pull_request : Text → Text → Text
pull_request host position = full_request (codes "POST /pull HTTP/1.1") host position

-- hands over the batch with this text
abbrev pub push_request : Text → Text → Text
push_request host batch = full_request (codes "POST /push HTTP/1.1") host batch
