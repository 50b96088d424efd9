-- How exchanges end.
use Rattle.std.proofs.Common.{◌≡◌, refl, sym, subst, ℕ, ◌++◌, ◌⊎◌, inl, inr, Ok, Err, Option}
use Rattle.std.specs.Prelude.{Result}
use Rattle.std.specs.Io.KnownBytes.{Appends}
use Rattle.std.proofs.KnownBytes.{Appends-trans}
use Rattle.mr_model.specs.Texts.{Text, line}
use Rattle.mr_model.specs.Refusals.{Refusal, refusal_text}
use Rattle.mr_base.specs.RefusalViews.{refusal_of}
use Rattle.mr_store.specs.declared.keeper.Keeper.{Ghosts}
use Rattle.mr_http.specs.declared.faults.WebFault.{WebFault}
use Rattle.mr_http.specs.declared.faults.WebFault.TheVariants as fault
use Rattle.mr_words.specs.CommandOutput.{no_memory_line}
use Rattle.mr_net.specs.declared.ways.Way.{Way}
use Rattle.mr_net.specs.declared.ways.Way.TheVariants.{Pull, Push}
use Rattle.mr_net.specs.declared.ways.Round.{Round}
use Rattle.mr_net.specs.declared.ways.Taken.{Taken}
use Rattle.mr_net.specs.Ways.{IsWay}
use Rattle.mr_net.specs.Printed.{way_line, StopsWithText, IsFaultLine, IsStopOf, TellsWay, TellsBoth, IsStopText, EndsExchange}
use Rattle.mr_net.specs.Bridged.{TellsBridge}
use Rattle.mr_net.specs.ExchangeRounds.{RunsBridged, RunsRound}
use Rattle.mr_net.proofs.PrintedLines.{stops_so, never_stops}
use Rattle.mr_net.proofs.WayLaws.{way_seen}

-- ---- ways

pub way_told : {P : Type 0} (runs : Way → P → Result Round WebFault → P → Type 0) (way : Way) (p q : P) (held holds : Option Text) (status : ℕ) (taken : Taken)
    → IsWay (runs way) p (Ok taken) q
    → ((status ≡ 0) × Appends held holds (way_line way taken)) ⊎ StopsWithText (λ text. text ≡ no_memory_line) held holds status
    → TellsWay runs way p q held holds status
way_told runs way p q held holds status taken is (inl done) = inl (done.0, taken, is, done.1)
way_told runs way p q held holds status taken is (inr stops) = inr (Ok taken, is, stops)

-- ---- with one peer, seen as another

tells_seen : {P Q : Type 0} (see : P → Q) (runs : Way → P → Result Round WebFault → P → Type 0) (shows : Way → Q → Result Round WebFault → Q → Type 0)
    → ((way : Way) (p : P) (r : Result Round WebFault) (q : P) → runs way p r q → shows way (see p) r (see q))
    → (way : Way) (p q : P) (held holds : Option Text) (status : ℕ) → TellsWay runs way p q held holds status → TellsWay shows way (see p) (see q) held holds status
tells_seen see runs shows so way p q held holds status (inl told) = inl (told.0, told.1, way_seen see (runs way) (shows way) (so way) p q (Ok told.1) told.2, told.3)
tells_seen see runs shows so way p q held holds status (inr stops) = inr (stops.0, way_seen see (runs way) (shows way) (so way) p q stops.0 stops.1, stops.2)

pub both_seen : {P Q : Type 0} (see : P → Q) (runs : Way → P → Result Round WebFault → P → Type 0) (shows : Way → Q → Result Round WebFault → Q → Type 0)
    → ((way : Way) (p : P) (r : Result Round WebFault) (q : P) → runs way p r q → shows way (see p) r (see q))
    → (p q : P) (held holds : Option Text) (status : ℕ) → TellsBoth runs p q held holds status → TellsBoth shows (see p) (see q) held holds status
both_seen see runs shows so p q held holds status (inl both) =
    inl (see both.0, both.1, tells_seen see runs shows so Pull p both.0 held both.1 0 both.2, tells_seen see runs shows so Push both.0 q both.1 holds status both.3)
both_seen see runs shows so p q held holds status (inr one) = inr (one.0, tells_seen see runs shows so Pull p q held holds status one.1)

-- ---- whole exchanges

fault_text : (f : WebFault) (text : Text) → IsFaultLine f text → IsStopText text
fault_text fault.Read text is = absurd is
fault_text fault.Write text is = absurd is
fault_text fault.Memory text is = inr (inr is)
fault_text fault.BadReply text is = absurd is
fault_text (fault.Peer status) text (inl is) = inr (inl (status, is))
fault_text (fault.Peer status) text (inr is) = inr (inr is)
fault_text (fault.Own e) text (inl is) = inl (refusal_of e, is)
fault_text (fault.Own e) text (inr is) = inr (inr is)

stop_text : (result : Result Taken WebFault) (text : Text) → IsStopOf result text → IsStopText text
stop_text (Ok taken) text is = inr (inr is)
stop_text (Err f) text is = fault_text f text is

-- the line of a way that was told as gone
told_line : {P : Type 0} (runs : Way → P → Result Round WebFault → P → Type 0) (way : Way) (p q : P) (held holds : Option Text)
    → TellsWay runs way p q held holds 0 → (taken : Taken) × Appends held holds (way_line way taken)
told_line runs way p q held holds (inl told) = (told.1, told.3)
told_line runs way p q held holds (inr stops) = absurd (never_stops (IsStopOf stops.0) held holds stops.2)

-- behind the line of the first way
behind_pulled : (pulled : Taken) (result : Result Taken WebFault) (held between holds : Option Text) (status : ℕ)
    → Appends held between (way_line Pull pulled) → StopsWithText (IsStopOf result) between holds status → EndsExchange held holds status
behind_pulled pulled result held between holds status first (inl told) =
    inr (inr (inl (
      told.0,
      way_line Pull pulled ++ told.1,
      (pulled, told.1, stop_text result told.1 told.2, refl),
      Appends-trans held between holds (way_line Pull pulled) told.1 first told.3,
    )))
behind_pulled pulled result held between holds status first (inr three) = inr (inl (inr three))

second_ends : {P : Type 0} (runs : Way → P → Result Round WebFault → P → Type 0) (m q : P) (pulled : Taken) (held between holds : Option Text) (status : ℕ)
    → Appends held between (way_line Pull pulled) → TellsWay runs Push m q between holds status → EndsExchange held holds status
second_ends runs m q pulled held between holds status first (inl told) =
    inl (told.0, pulled, told.1, Appends-trans held between holds (way_line Pull pulled) (way_line Push told.1) first told.3)
second_ends runs m q pulled held between holds status first (inr stops) = behind_pulled pulled stops.0 held between holds status first stops.2

first_ends : {P : Type 0} (runs : Way → P → Result Round WebFault → P → Type 0) (p q : P) (held holds : Option Text) (status : ℕ)
    → (status ≡ 0 → ⊥) → TellsWay runs Pull p q held holds status → EndsExchange held holds status
first_ends runs p q held holds status undone (inl told) = absurd (undone told.0)
first_ends runs p q held holds status undone (inr stops) = inr (inl (stops_so (IsStopOf stops.0) IsStopText held holds status (stop_text stops.0) stops.2))

-- both ways with any peer
pub exchanged : {P : Type 0} (runs : Way → P → Result Round WebFault → P → Type 0) (p q : P) (held holds : Option Text) (status : ℕ)
    → TellsBoth runs p q held holds status → EndsExchange held holds status
exchanged runs p q held holds status (inl both) =
    let first = told_line runs Pull p both.0 held both.1 both.2 in
    second_ends runs both.0 q first.0 held both.1 holds status first.1 both.3
exchanged runs p q held holds status (inr one) = first_ends runs p q held holds status one.0 one.1

-- both ways between two databases, or nothing
pub bridged : {C S : Type 0} (client : Ghosts C) (server : Ghosts S) (old new : C × S) (held holds : Option Text) (status : ℕ)
    → TellsBridge client server old new held holds status → EndsExchange held holds status
bridged client server old new held holds status (inl both) = exchanged (RunsBridged client server) old new held holds status both
bridged client server old new held holds status (inr unmet) = inr (inl (stops_so (λ text. text ≡ no_memory_line) IsStopText held holds status (λ text is. inr (inr is)) unmet.1))

-- a database is refused
pub refused_exchange : (e : Refusal) (held holds : Option Text) (status : ℕ) → (status ≡ 1) ⊎ (status ≡ 3)
    → (status ≡ 1 → Appends held holds (line (refusal_text e)) ⊎ Appends held holds no_memory_line) → EndsExchange held holds status
refused_exchange e held holds status (inr three) told = inr (inl (inr three))
refused_exchange e held holds status (inl one) told =
    inr (inl (inl (elim (told one) [
      | inl refusal ↦ (one, line (refusal_text e), inl (e, refl), refusal)
      | inr memory ↦ (one, no_memory_line, inr (inr refl), memory)
    ])))

-- ---- keepers that were handed in, and those that are given back

-- what is said of the keeper that was exchanged is said of them
pub exchanged_as : {K : Type 0} (keeper : Ghosts K) (p q old new : K) (held holds : Option Text) (status : ℕ) → p ≡ old → new ≡ q
    → TellsBoth (RunsRound keeper) p q held holds status → TellsBoth (RunsRound keeper) old new held holds status
exchanged_as keeper p q old new held holds status before after told =
    subst (λ k. TellsBoth (RunsRound keeper) k new held holds status) before
    (subst (λ k. TellsBoth (RunsRound keeper) p k held holds status) (sym after) told)

-- the same of a bridge
pub bridged_as : {C S : Type 0} (client : Ghosts C) (server : Ghosts S) (p q old new : C) (r s was is : S) (held holds : Option Text) (status : ℕ)
    → p ≡ old → r ≡ was → new ≡ q → is ≡ s
    → TellsBridge client server (p, r) (q, s) held holds status → TellsBridge client server (old, was) (new, is) held holds status
bridged_as client server p q old new r s was is held holds status first second third fourth told =
    subst (λ k. TellsBridge client server (k, was) (new, is) held holds status) first
    (subst (λ k. TellsBridge client server (p, k) (new, is) held holds status) second
    (subst (λ k. TellsBridge client server (p, r) (k, is) held holds status) (sym third)
    (subst (λ k. TellsBridge client server (p, r) (q, k) held holds status) (sym fourth) told)))
