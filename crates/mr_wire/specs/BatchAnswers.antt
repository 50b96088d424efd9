-- What a reader of several lines answers.
use Rattle.std.specs.Prelude.{◌≡◌, ◌⊎◌, ℕ, List, ◌++◌, map, Result, Ok, Err}
use Rattle.mr_model.specs.Refusals as model
use Rattle.mr_model.specs.Exchange as exchange
use Rattle.mr_base.specs.RefusalViews.{refusal_of}
use Rattle.mr_base.specs.Batches.{item_of, ending_seen}
use Rattle.mr_base.specs.declared.refusals.Refusal.{Refusal}
use Rattle.mr_base.specs.declared.refusals.Refusal.TheVariants.{OutOfMemory, BadLine}
use Rattle.mr_wire.specs.declared.fault.LineFault.{LineFault}
use Rattle.mr_wire.specs.declared.fault.LineFault.TheVariants as faults
use Rattle.mr_base.specs.declared.batches.Item.{Item}
use Rattle.mr_base.specs.declared.batches.Ending.{Ending}

-- the answer of the definitions, of which this is seen, or want of memory in its place
abbrev pub GivesSeen : {X Y : Type 0} → (X → Y) → Result X Refusal → Result Y model.Refusal → Type 0
GivesSeen view (Ok x) exact = exact ≡ Ok (view x)
GivesSeen view (Err e) exact = (exact ≡ Err (refusal_of e)) ⊎ (e ≡ OutOfMemory)

-- some line of the bytes is the first bad one, and the refusal names it; or memory ran out
abbrev pub IsRefusedFor : List ℕ → Refusal → Type 0
IsRefusedFor bytes e = ((i : ℕ) × (refusal_of e ≡ model.BadLine i) × exchange.IsFirstBadLine bytes i) ⊎ (e ≡ OutOfMemory)

-- items, and how they end
abbrev pub body_seen : List Item → Ending → List exchange.Item × exchange.Ending
body_seen items ending = (map item_of items, ending_seen ending)

-- these items, and those that are read behind them
abbrev pub with_front : List exchange.Item → Result (List exchange.Item × exchange.Ending) model.Refusal → Result (List exchange.Item × exchange.Ending) model.Refusal
with_front front (Ok body) = Ok (front ++ body.0, body.1)
with_front front (Err e) = Err e

-- the refusal of a fault on the line of this number
abbrev pub refusal_at : ℕ → LineFault → Refusal
refusal_at number faults.NotALine = BadLine number
refusal_at number faults.OutOfMemory = OutOfMemory
