-- What a bridge between two databases prints of its rounds.
use Rattle.std.specs.Prelude.{◌≡◌, ◌⊎◌, ℕ, Option}
use Rattle.mr_model.specs.Texts.{Text}
use Rattle.mr_store.specs.declared.keeper.Keeper.{Ghosts}
use Rattle.mr_words.specs.CommandOutput.{no_memory_line}
use Rattle.mr_net.specs.Printed.{StopsWithText, TellsBoth}
use Rattle.mr_net.specs.ExchangeRounds.{RunsBridged}

-- both ways are run and printed; or there is no place to meet, and nothing is asked
abbrev pub TellsBridge : {C S : Type 0} → Ghosts C → Ghosts S → C × S → C × S → Option Text → Option Text → ℕ → Type 0
TellsBridge client server old new held holds status =
    TellsBoth (RunsBridged client server) old new held holds status
    ⊎ ((new ≡ old) × StopsWithText (λ text. text ≡ no_memory_line) held holds status)
