-- What a reader had, and what is printed of a run.
use Rattle.std.proofs.Common.{◌≡◌, refl, sym, ap, subst, ◌∙◌, ℕ, suc, zero, ◌<◌, ◌≤◌, List, [], ◌∷◌, ◌++◌, length, map, take}
use Rattle.std.proofs.Common.{get_or, min, Option, Some, None, append-nil, arith, take_all, not-suc-le-zero, le_of_suc-le-suc}
use Rattle.std.proofs.KnownBytes.{Appends-trans}
use Rattle.std.proofs.lemmas.Grind.{flat_map-append}
use Rattle.std.specs.Io.KnownBytes.{Appends}
use Rattle.std.proofs.lemmas.List.{length-take, length-map}
use Rattle.std.specs.Prelude.{flat_map, IfSome, option_map}
use Rattle.mr_model.specs.Texts.{Text}
use Rattle.mr_service.specs.declared.steps.StepReply.{StepReply}
use Rattle.mr_model.specs.World.{StepReply as StepReplyOfWorld}
use Rattle.mr_service.specs.Stepping.{step_reply_of}
use Rattle.mr_tasks.specs.Rehearsed.{step_reply_text, IsKnownInput}

-- ---- what a reader had

-- a reader that gave fewer bytes than it was asked for gave all
pub input_read : (known asked : Option Text) (limit : ℕ) (old bytes : Text) → asked ≡ known → old ≡ [] → IfSome (option_map (take limit) asked) (λ xs. bytes ≡ old ++ xs)
    → length bytes < limit → IsKnownInput known bytes
input_read None asked limit old bytes same start h low = tt
input_read (Some xs) asked limit old bytes same start h low =
    let P : Option Text → Type 0 = λ o. IfSome (option_map (take limit) o) (λ ys. bytes ≡ old ++ ys) in
    let read : bytes ≡ take limit xs = subst P same h ∙ ap (λ (t : Text). t ++ take limit xs) start in
    let few : length bytes ≡ min limit (length xs) = ap length read ∙ length-take limit xs in
    let all : length xs ≤ limit = omega (arith, few, low) in
    read ∙ take_all limit xs all

-- all that a reader had, or anything where that isn't known
pub some_input : (known : Option Text) → (bytes : Text) × IsKnownInput known bytes
some_input None = ([], tt)
some_input (Some xs) = (xs, refl)

-- ---- what is printed

-- the texts of replies
abbrev pub printed : List StepReply → Text
printed replies = flat_map step_reply_text (map step_reply_of replies)

at_place : (xs : List StepReply) (i : ℕ) (x : StepReply) → i < length xs → x ≡ get_or xs i x → take (suc i) (map step_reply_of xs) ≡ take i (map step_reply_of xs) ++ step_reply_of x ∷ []
at_place [] i x low e = absurd (not-suc-le-zero low)
at_place (y ∷ ys) zero x low e = ap (λ z. step_reply_of z ∷ []) (sym e)
at_place (y ∷ ys) (suc i) x low e = ap (λ zs. step_reply_of y ∷ zs) (at_place ys i x (le_of_suc-le-suc low) e)

-- one reply more is printed
pub prints_more : (held holds next : Option Text) (replies : List StepReply) (i : ℕ) (reply : StepReply) → i < length replies → reply ≡ get_or replies i reply
    → Appends held holds (flat_map step_reply_text (take i (map step_reply_of replies))) → Appends holds next (step_reply_text (step_reply_of reply))
    → Appends held next (flat_map step_reply_text (take (suc i) (map step_reply_of replies)))
prints_more held holds next replies i reply low is so_far more =
    subst (λ (t : Text). Appends held next t)
    (sym (ap (flat_map step_reply_text) (at_place replies i reply low is) ∙ flat_map-append step_reply_text (take i (map step_reply_of replies)) (step_reply_of reply ∷ [])
    ∙ ap (λ (t : Text). flat_map step_reply_text (take i (map step_reply_of replies)) ++ t) (append-nil (step_reply_text (step_reply_of reply)))))
    (Appends-trans held holds next _ _ so_far more)

-- all are printed
pub prints_all : (held holds : Option Text) (replies : List StepReply) (i : ℕ) → Appends held holds (flat_map step_reply_text (take i (map step_reply_of replies))) → length replies ≤ i
    → Appends held holds (printed replies)
prints_all held holds replies i so_far low =
    subst (λ (rs : List StepReplyOfWorld). Appends held holds (flat_map step_reply_text rs))
    (take_all i (map step_reply_of replies) (subst (λ n. n ≤ i) (sym (length-map replies step_reply_of)) low)) so_far
