-- How serving ends.
use Rattle.std.proofs.Common.{◌≡◌, ◌≢◌, refl, sym, ◌∙◌, ap, subst, ℕ, ◌+◌, ◌<◌, ◌≤◌, List, [], ◌∷◌, ◌++◌, length, ◌⊎◌, inl, inr, arith, append_assoc, append-nil}
use Rattle.std.specs.Prelude.{Option}
use Rattle.std.specs.Io.KnownBytes.{Appends}
use Rattle.std.proofs.KnownBytes.{Appends-trans}
use Rattle.std.proofs.lemmas.List.{length_push}
use Rattle.mr_model.specs.Texts.{Text, line}
use Rattle.mr_store.specs.declared.keeper.Keeper.{Ghosts}
use Rattle.mr_words.specs.CommandOutput.{no_memory_line}
use Rattle.mr_net.specs.Connections.{IsConnection, AreConnections, ServesAt, TellsServed}
use Rattle.mr_net.specs.Printed.{StopsWithText, connection_text, connection_lines, serving_line, EndsServing}

-- one more connection follows on those before it
leads_on : {K : Type 0} (keeper : Ghosts K) (p m q : K) (served : List (Option ℕ)) (last : Option ℕ)
    → AreConnections keeper p served m → IsConnection keeper m last q → AreConnections keeper p (served ++ last ∷ []) q
leads_on keeper p m q [] last same next = (q, subst (λ x. IsConnection keeper x last q) (sym same) next, refl)
leads_on keeper p m q (first ∷ served) last led next = (led.0, led.1, leads_on keeper led.0 m q served last led.2 next)

-- this many connections were served from the one keeper to the other, and a line is printed for each
pub record SoMany {K : Type 0} (keeper : Ghosts K) (p q : K) (count : ℕ) (held holds : Option Text) : Type 0 where
  pub served : List (Option ℕ)
  pub led : AreConnections keeper p served q
  pub counted : length served ≡ count
  pub told : Appends held holds (connection_lines served)

lines_more : (connections : List (Option ℕ)) (last : Option ℕ) → connection_lines (connections ++ last ∷ []) ≡ connection_lines connections ++ line (connection_text last)
lines_more [] last = append-nil (line (connection_text last))
lines_more (c ∷ cs) last = ap (λ t. line (connection_text c) ++ t) (lines_more cs last) ∙ sym (append_assoc (line (connection_text c)) (connection_lines cs) (line (connection_text last)))

pub one_more : {K : Type 0} (keeper : Ghosts K) (p m q : K) (count : ℕ) (last : Option ℕ) (held between holds : Option Text) → SoMany keeper p m count held between
    → IsConnection keeper m last q → Appends between holds (line (connection_text last)) → SoMany keeper p q (count + 1) held holds
one_more keeper p m q count last held between holds before next told = record {
  served = before.served ++ last ∷ [];
  led = leads_on keeper p m q before.served last before.led next;
  counted = length_push before.served last ∙ ap (λ n. n + 1) before.counted;
  told = subst (λ t. Appends held holds t) (sym (lines_more before.served last)) (Appends-trans held between holds _ _ before.told told);
}

-- memory is wanting for a line, or the writer fails
pub stopped : {K : Type 0} (keeper : Ghosts K) (p m q : K) (count done : ℕ) (last : Option ℕ) (held between holds : Option Text) (status : ℕ) → SoMany keeper p m done held between
    → done < count → IsConnection keeper m last q → status ≢ 0
    → ((status ≡ 0) × Appends between holds (line (connection_text last))) ⊎ StopsWithText (λ text. text ≡ no_memory_line) between holds status
    → TellsServed keeper p q count held holds status
stopped keeper p m q count done last held between holds status before room next undone (inl told) = absurd (undone told.0)
stopped {K} keeper p m q count done last held between holds status before room next undone (inr stops) =
    inr (inl (before.served, last, leads_on keeper p m q before.served last before.led next, within, behind stops))
  where
    within : length (before.served ++ last ∷ []) ≤ count
    within = let pushed = length_push before.served last in let counted = before.counted in omega (arith, pushed, counted, room)

    behind : StopsWithText (λ text. text ≡ no_memory_line) between holds status → StopsWithText (λ text. text ≡ connection_lines before.served ++ no_memory_line) held holds status
    behind (inl told) =
        inl (
          told.0,
          connection_lines before.served ++ told.1,
          ap (λ t. connection_lines before.served ++ t) told.2,
          Appends-trans held between holds (connection_lines before.served) told.1 before.told told.3,
        )
    behind (inr three) = inr three

-- the next connection can't be taken
pub not_taken : {K : Type 0} (keeper : Ghosts K) (p m q : K) (count done : ℕ) (held between holds : Option Text) (status : ℕ) → SoMany keeper p m done held between
    → done < count → q ≡ m → status ≡ 3 → TellsServed keeper p q count held holds status
not_taken keeper p m q count done held between holds status before room same failed =
    inr (inr (
      failed,
      before.served,
      between,
      subst (λ k. AreConnections keeper p before.served k) (sym same) before.led,
      subst (λ n. n < count) (sym before.counted) room,
      before.told,
    ))

-- behind the line of the port
pub served_behind : {K : Type 0} (keeper : Ghosts K) (p q : K) (port count : ℕ) (held between holds : Option Text) (status : ℕ) → Appends held between (serving_line port)
    → TellsServed keeper p q count between holds status → ServesAt keeper p q port count held holds status
served_behind keeper p q port count held between holds status first told = inl (between, first, told)

-- ---- what is printed of it

-- the lines behind that of the port
pub ends_behind : {K : Type 0} (keeper : Ghosts K) (p q : K) (port count : ℕ) (held between holds : Option Text) (status : ℕ) → Appends held between (serving_line port)
    → TellsServed keeper p q count between holds status → EndsServing port count held holds status
ends_behind keeper p q port count held between holds status first (inl told) =
    inl (told.0, told.1, told.3, Appends-trans held between holds (serving_line port) (connection_lines told.1) first told.4)
ends_behind keeper p q port count held between holds status first (inr (inr late)) = inr (inr (inr late.0))
ends_behind keeper p q port count held between holds status first (inr (inl stops)) = inr (inr (behind stops.4))
  where
    fewer : length stops.0 < count
    fewer = let pushed = length_push stops.0 stops.1 in let within = stops.3 in omega (arith, pushed, within)

    behind : StopsWithText (λ text. text ≡ connection_lines stops.0 ++ no_memory_line) between holds status
        → StopsWithText (λ text. (connections : List (Option ℕ)) × (length connections < count) × (text ≡ serving_line port ++ (connection_lines connections ++ no_memory_line))) held holds status
    behind (inl told) =
        inl (told.0, serving_line port ++ told.1, (stops.0, fewer, ap (λ t. serving_line port ++ t) told.2), Appends-trans held between holds (serving_line port) told.1 first told.3)
    behind (inr three) = inr three

pub ends_serving : {K : Type 0} (keeper : Ghosts K) (p q : K) (port count : ℕ) (held holds : Option Text) (status : ℕ) → ServesAt keeper p q port count held holds status
    → EndsServing port count held holds status
ends_serving keeper p q port count held holds status (inl told) = ends_behind keeper p q port count held told.0 holds status told.1 told.2
ends_serving keeper p q port count held holds status (inr unasked) = only unasked.1
  where
    only : StopsWithText (λ text. text ≡ no_memory_line) held holds status → EndsServing port count held holds status
    only (inl told) = inr (inl (told.0, inr (subst (λ t. Appends held holds t) told.2 told.3)))
    only (inr three) = inr (inr (inr three))

-- what is said of the keeper that was served is said of the one that was handed in and of the one that is given back
pub served_as : {K : Type 0} (keeper : Ghosts K) (p q old new : K) (port count : ℕ) (held holds : Option Text) (status : ℕ) → p ≡ old → new ≡ q
    → ServesAt keeper p q port count held holds status → ServesAt keeper old new port count held holds status
served_as keeper p q old new port count held holds status before after told =
    subst (λ k. ServesAt keeper k new port count held holds status) before
    (subst (λ k. ServesAt keeper p k port count held holds status) (sym after) told)
