-- How far a reader is read.
use Rattle.std.specs.Prelude.{◌≡◌, ◌≤◌, ◌++◌, ◌⊎◌, ℕ, List, [], length, Result, Err}
use Rattle.httparse.specs.Grammar.{HasNoRequest, MayBecomeRequest, HasNoResponse, MayBecomeResponse}
use Rattle.mr_http.specs.declared.faults.WebFault.{WebFault}
use Rattle.mr_http.specs.declared.faults.WebFault.TheVariants as fault

-- the bytes have no head of a request at their front, and with more behind them they may be one
abbrev pub AwaitsHead : List ℕ → Type 0
AwaitsHead bytes = HasNoRequest bytes × MayBecomeRequest bytes

-- the same of a reply
abbrev pub AwaitsReplyHead : List ℕ → Type 0
AwaitsReplyHead bytes = HasNoResponse bytes × MayBecomeResponse bytes

-- The bytes without a last piece, of at most 512 bytes, were not enough: there were none, or more had to come.
abbrev pub IsReadWhile : (List ℕ → Type 0) → List ℕ → Type 0
IsReadWhile Awaits bytes =
    (front : List ℕ) × (piece : List ℕ) × (bytes ≡ front ++ piece) × (length piece ≤ 512) × ((front ≡ []) ⊎ Awaits front)

-- it holds, unless a read failed or memory ran out
abbrev pub OnceRead : {X : Type 0} → Type 0 → Result X WebFault → Type 0
OnceRead P (Err fault.Read) = Unit {0}
OnceRead P (Err fault.Memory) = Unit {0}
OnceRead P _ = P
