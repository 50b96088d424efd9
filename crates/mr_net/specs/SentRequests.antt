-- A request that was made, sent over a connection, and the reply to it.
use Rattle.std.specs.Prelude.{◌≡◌, ◌≤◌, ◌⊎◌, ℕ, length, take, Option, Result, Err}
use Rattle.std.specs.Io.KnownBytes.{Appends}
use Rattle.mr_model.specs.Texts.{Text}
use Rattle.mr_base.specs.declared.batches.Ending.{Ending}
use Rattle.mr_store.specs.declared.keeper.Keeper.{Ghosts}
use Rattle.mr_http.specs.declared.faults.WebFault.{WebFault}
use Rattle.mr_http.specs.declared.faults.WebFault.TheVariants.{Write}
use Rattle.mr_peer.specs.Exchanged.{IsExchanged}
use Rattle.mr_peer.specs.ExchangeSteps.{TakesBody, TakesPulled}
use Rattle.mr_peer.specs.OnceAsked.{IsBodyOf, ReceivesOnce, TellsBatch}
use Rattle.mr_peer.specs.PeerReplies.{told_took}
use Rattle.mr_peer.specs.PeerTaking.{TellsAsRead}
use Rattle.mr_net.specs.declared.ways.Round.{Round}
use Rattle.mr_net.specs.ExchangeRounds.{Brings, ComesTo}

-- a write failed behind a front of the request
abbrev pub BreaksOff : Text → Option Text → Option Text → Result Round WebFault → Type 0
BreaksOff request held holds result = (result ≡ Err Write) × (n : ℕ) × (n ≤ length request) × Appends held holds (take n request)

-- a pull is sent and its reply taken, or the sending breaks off and nothing is taken
abbrev pub PullsOver : {K : Type 0} → Ghosts K → K → K → Text → Option Text → Option Text → Option Text → Result Round WebFault → Type 0
PullsOver keeper old new request held holds known result =
    (BreaksOff request held holds result × (new ≡ old))
    ⊎ (Appends held holds request
    × (called : Result (ℕ × ℕ × Ending) WebFault)
    × IsExchanged keeper old new called (TakesPulled known) (TakesBody (keeper.tables old)) × ComesTo called result
    × ReceivesOnce keeper old new (IsBodyOf known) TellsBatch called)

-- the same of a push, whose batch ends so
abbrev pub PushesOver : Text → Ending → Option Text → Option Text → Option Text → Result Round WebFault → Type 0
PushesOver request ending held holds known result =
    BreaksOff request held holds result
    ⊎ (Appends held holds request × (counts : Result (ℕ × ℕ) WebFault) × TellsAsRead told_took known counts × Brings counts ending result)
