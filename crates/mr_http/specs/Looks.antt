-- What the bytes that came so far say of the head.
use Rattle.std.specs.Prelude.{◌++◌, ℕ, List, Option}
use Rattle.httparse.specs.Grammar.{HasNoRequest, HasNoResponse}
use Rattle.mr_http.specs.Reading.{AwaitsHead, AwaitsReplyHead}
use Rattle.mr_http.specs.Heads.{HasNoHead, HasNoReplyHead, BeginsWithHead, BeginsWithReplyHead, FindsHead, FindsReplyHead}
use Rattle.mr_http.specs.declared.heads.Kind.{Kind}
use Rattle.mr_http.specs.declared.heads.Kind.TheVariants.{Request, Reply}
use Rattle.mr_http.specs.declared.heads.Look.{Look}
use Rattle.mr_http.specs.declared.heads.Look.TheVariants.{Head, More, Never}

abbrev pub HasNone : Kind → List ℕ → Type 0
HasNone Request input = HasNoHead input
HasNone Reply input = HasNoReplyHead input

-- no front of the bytes is a head, within the limits or not
abbrev pub HasNoneYet : Kind → List ℕ → Type 0
HasNoneYet Request bytes = HasNoRequest bytes
HasNoneYet Reply bytes = HasNoResponse bytes

-- no front of the bytes is a head, and with more bytes they may be one
abbrev pub Awaits : Kind → List ℕ → Type 0
Awaits Request bytes = AwaitsHead bytes
Awaits Reply bytes = AwaitsReplyHead bytes

abbrev pub Begins : Kind → List ℕ → ℕ → Type 0
Begins Request bytes len = BeginsWithHead bytes len
Begins Reply bytes len = BeginsWithReplyHead bytes len

abbrev pub Finds : Kind → Option (List ℕ) → List ℕ → Option ℕ → Type 0
Finds Request known bytes found = FindsHead known bytes found
Finds Reply known bytes found = FindsReplyHead known bytes found

-- a head is there, or may still come, or never comes
abbrev pub LooksAt : Kind → List ℕ → Look → Type 0
LooksAt kind bytes (Head len) = Begins kind bytes len
LooksAt kind bytes More = Awaits kind bytes
LooksAt kind bytes Never = (more : List ℕ) → HasNone kind (bytes ++ more)
