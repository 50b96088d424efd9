-- The texts of requests, piece by piece.
use Rattle.std.proofs.Common.{◌≡◌, ◌∙◌, ap, ℕ, [], ◌∷◌, ◌++◌, append_assoc, sym}
use Rattle.std.specs.Prelude.{codes}
use Rattle.std.specs.Fmt.{decimal}
use Rattle.mr_model.specs.Texts.{Text}
use Rattle.mr_peer.specs.PeerRequests.{bare_request, bare_pieces, full_head, full_pieces}

abbrev crlf : Text
crlf = 13 ∷ 10 ∷ []

abbrev closing : Text
closing = codes "Connection: close" ++ 13 ∷ 10 ∷ 13 ∷ 10 ∷ []

pub bare_is : (line host : Text) → bare_pieces line host ≡ bare_request line host
unfolding bare_pieces
bare_is line host =
    sym (append_assoc line crlf (codes "Host: " ++ ((host ++ crlf) ++ closing))
    ∙ ap (λ (t : Text). line ++ (13 ∷ 10 ∷ codes "Host: " ++ t)) (append_assoc host crlf closing))

pub full_is : (line host : Text) (n : ℕ) → full_pieces line host n ≡ full_head line host n
unfolding full_pieces
full_is line host n =
    sym (append_assoc line crlf (codes "Host: " ++ ((host ++ crlf) ++ (codes "Content-Length: " ++ ((decimal n ++ crlf) ++ closing))))
    ∙ ap (λ (t : Text). line ++ (13 ∷ 10 ∷ codes "Host: " ++ t)) (append_assoc host crlf (codes "Content-Length: " ++ ((decimal n ++ crlf) ++ closing))
    ∙ ap (λ (t : Text). host ++ (13 ∷ 10 ∷ codes "Content-Length: " ++ t)) (append_assoc (decimal n) crlf closing)))
