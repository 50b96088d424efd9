-- What a reader of a line answers.
use Rattle.std.specs.Prelude.{◌≡◌, Option, Some, None, Result, Ok, Err}
use Rattle.mr_wire.specs.declared.fault.LineFault.{LineFault}
use Rattle.mr_wire.specs.declared.fault.LineFault.TheVariants.{NotALine, OutOfMemory}

-- nothing is read, or memory ran out
abbrev pub Fails : {Y : Type 0} → LineFault → Option Y → Type 0
Fails NotALine read = read ≡ None
Fails OutOfMemory read = Unit {0}

-- the answer, as contracts see it, is what is read, unless memory ran out
abbrev pub GivesRead : {X Y : Type 0} → (X → Y) → Result X LineFault → Option Y → Type 0
GivesRead view (Ok x) read = read ≡ Some (view x)
GivesRead view (Err fault) read = Fails fault read
