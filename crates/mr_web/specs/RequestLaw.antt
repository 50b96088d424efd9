-- Requests are read in one way only.
use Rattle.std.specs.Prelude.{◌≡◌, Option}
use Rattle.mr_model.specs.Texts.{Text}
use Rattle.mr_model.specs.Http.{Head, Asked}
use Rattle.mr_web.specs.RequestAsks.{ReadsHead, Asks}

-- an input has one head, or none
abbrev pub HasOneHead : Type 0
HasOneHead = (input : Text) (one other : Option Head) → ReadsHead input one → ReadsHead input other → one ≡ other

-- an input asks one thing: a command, or the response to the first fault
abbrev pub AsksOneThing : Type 0
AsksOneThing = (input : Text) (one other : Asked) → Asks input one → Asks input other → one ≡ other
