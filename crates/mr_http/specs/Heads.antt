-- The head at the front of an input: of version 1.1, of at most 8,192 bytes and 64 fields.
use Rattle.std.specs.Prelude.{◌≡◌, ◌≤◌, ℕ, List, length, drop, Option, IfSome, MatchOption}
use Rattle.httparse.specs.Grammar.{RequestHead, ReadsRequest, print_request, ResponseHead, ReadsResponse, print_response}

-- ---- of a request

-- the input is this head, and then rest
pub record IsHead (input : List ℕ) (h : RequestHead) (rest : List ℕ) : Type 0 where
  pub reads : ReadsRequest input h rest
  pub within : length (print_request h) ≤ 8192
  pub fields : length h.fields ≤ 64
  pub version : h.minor ≡ 1

abbrev pub HasNoHead : List ℕ → Type 0
HasNoHead input = (h : RequestHead) (rest : List ℕ) → ¬ (IsHead input h rest)

-- the first len bytes are a head
abbrev pub BeginsWithHead : List ℕ → ℕ → Type 0
BeginsWithHead bytes len = (h : RequestHead) × IsHead bytes h (drop len bytes) × (len ≡ length (print_request h))

-- what was found at the front of an input that may be known, of which these bytes were read: a head, or none in them and in the input
abbrev pub FindsHead : Option (List ℕ) → List ℕ → Option ℕ → Type 0
FindsHead known bytes found = MatchOption found (HasNoHead bytes × IfSome known HasNoHead) (BeginsWithHead bytes)

-- ---- of a reply

-- the input is this head, and then rest
pub record IsReplyHead (input : List ℕ) (h : ResponseHead) (rest : List ℕ) : Type 0 where
  pub reads : ReadsResponse input h rest
  pub within : length (print_response h) ≤ 8192
  pub fields : length h.fields ≤ 64
  pub version : h.minor ≡ 1

abbrev pub HasNoReplyHead : List ℕ → Type 0
HasNoReplyHead input = (h : ResponseHead) (rest : List ℕ) → ¬ (IsReplyHead input h rest)

abbrev pub BeginsWithReplyHead : List ℕ → ℕ → Type 0
BeginsWithReplyHead bytes len = (h : ResponseHead) × IsReplyHead bytes h (drop len bytes) × (len ≡ length (print_response h))

abbrev pub FindsReplyHead : Option (List ℕ) → List ℕ → Option ℕ → Type 0
FindsReplyHead known bytes found = MatchOption found (HasNoReplyHead bytes × IfSome known HasNoReplyHead) (BeginsWithReplyHead bytes)
