-- The lengths that fields state, as they are found.
use Rattle.std.specs.Prelude.{◌≡◌, List, [], ◌∷◌}
use Rattle.mr_model.specs.Texts.{Text}
use Rattle.mr_http.specs.declared.fields.Lengths.{Lengths}
use Rattle.mr_http.specs.declared.fields.Lengths.TheVariants as lengths

abbrev pub LengthsAre : Lengths → List Text → Type 0
LengthsAre lengths.Absent [] = Unit {0}
LengthsAre lengths.Absent (v ∷ vs) = ⊥
LengthsAre (lengths.One value) [] = ⊥
LengthsAre (lengths.One value) (v ∷ []) = value.now ≡ v
LengthsAre (lengths.One value) (v ∷ u ∷ vs) = ⊥
LengthsAre lengths.Many [] = ⊥
LengthsAre lengths.Many (v ∷ []) = ⊥
LengthsAre lengths.Many (v ∷ u ∷ vs) = Unit {0}
