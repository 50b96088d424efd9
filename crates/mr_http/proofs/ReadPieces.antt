-- How far a reader was read.
use Rattle.std.proofs.Common.{◌≡◌, ◌++◌, ◌≤◌, inl, inr, ℕ, List, [], length, refl, arith, Result, Ok, Err}
use Rattle.mr_http.specs.Faults.{web_fault}
use Rattle.mr_http.specs.Reading.{IsReadWhile, OnceRead}
use Rattle.mr_http.specs.declared.faults.ReadFault.{ReadFault}
use Rattle.mr_http.specs.declared.faults.ReadFault.TheVariants as read
use Rattle.mr_http.specs.declared.faults.WebFault.{WebFault}
use Rattle.mr_http.specs.declared.faults.WebFault.TheVariants as fault

-- nothing was read
pub read_none : (Awaits : List ℕ → Type 0) (bytes : List ℕ) → bytes ≡ [] → IsReadWhile Awaits bytes
read_none Awaits bytes none = ([], [], none, omega arith, inl refl)

-- a piece was read behind what was not enough
pub read_piece_more : (Awaits : List ℕ → Type 0) (front piece bytes : List ℕ) → bytes ≡ front ++ piece → length piece ≤ 512 → Awaits front → IsReadWhile Awaits bytes
read_piece_more Awaits front piece bytes is short awaits = (front, piece, is, short, inr awaits)

-- what holds anyway
pub once_read : {X : Type 0} (P : Type 0) (result : Result X WebFault) → P → OnceRead P result
once_read P (Ok x) p = p
once_read P (Err fault.Read) p = tt
once_read P (Err fault.Write) p = p
once_read P (Err fault.Memory) p = tt
once_read P (Err fault.BadReply) p = p
once_read P (Err (fault.Peer status)) p = p
once_read P (Err (fault.Own refusal)) p = p

-- reading failed
pub not_read : (X P : Type 0) (f : ReadFault) → OnceRead {X = X} P (Err (web_fault f))
not_read X P read.Read = tt
not_read X P read.Memory = tt
