-- Texts that JSON shows as they are.
use Rattle.std.specs.Prelude.{ℕ, Bool, not, ◌&&◌, ◌==◌, nat_le, IsTrue}
use Rattle.std.specs.List.{list_all}
use Rattle.mr_model.specs.Texts.{Text}

-- no control byte, no quote and no backslash
abbrev pub is_plain_byte : ℕ → Bool
is_plain_byte b = nat_le 32 b && not (b == 34) && not (b == 92)

abbrev pub is_plain_text : Text → Bool
is_plain_text t = list_all is_plain_byte t

abbrev pub IsPlain : Text → Type 0
IsPlain t = IsTrue (is_plain_text t)
