-- Bodies, the data that they are read as, and how many members an object has.
use Rattle.std.proofs.Common.{◌≡◌, ◌∙◌, ℕ, suc, List, [], ◌∷◌, length, inl, inr, Option, Some, None, Result, Ok, Err, String, refl, sym, ap, subst, unwrap_or, ok_or, option_and_then}
use Rattle.std.specs.Prelude.{if◌then◌else◌, IsUtf8}
use Rattle.std.specs.Str.{is_utf8}
use Rattle.std.proofs.lemmas.Str.{IsUtf8-from_is_utf8, is_utf8-from_IsUtf8}
use Rattle.std.specs.declared.alloc.Global.{Global}
use Rattle.serde_json.specs.Data.{Data, null, boolean, number, string, array, object, Members}
use Rattle.serde_json.specs.Find.{as_object}
use Rattle.serde_json.specs.Read.{read}
use Rattle.serde_json.specs.View.{members_of}
use Rattle.mr_http.proofs.BodyLemmas.{cases_bool}
use Rattle.mr_http.specs.declared.faults.ReadFault.TheVariants as fault
use Rattle.mr_model.specs.Http.{Response, bad_request}
use Rattle.mr_web.specs.JsonBodies.{json_of, member_count, members_in}
use Rattle.mr_web.specs.Views.{FailsAs, GivesView}
use Rattle.mr_web.specs.declared.rejections.Stop.{Stop}
use Rattle.mr_web.specs.declared.rejections.Stop.TheVariants as stop

pub count_of_members : (ms : List (String Global × Data)) → member_count (members_of ms) ≡ length ms
count_of_members [] = refl
count_of_members (m ∷ ms) = ap suc (count_of_members ms)

-- an object has the members of its list
pub members_in_object : (d : Data) (ms : Members) → as_object d ≡ Some ms → members_in d ≡ member_count ms
members_in_object null ms h = let bad : ⊥ = cc in absurd bad
members_in_object (boolean b) ms h = let bad : ⊥ = cc in absurd bad
members_in_object (number n) ms h = let bad : ⊥ = cc in absurd bad
members_in_object (string s) ms h = let bad : ⊥ = cc in absurd bad
members_in_object (array ds) ms h = let bad : ⊥ = cc in absurd bad
members_in_object (object all) ms h = ap (λ o. member_count (unwrap_or o ms)) h

-- ---- bodies

-- a body that the library reads is that JSON
pub body_reads : (body : List ℕ) (d : Data) → IsUtf8 body → read body ≡ Some d → ok_or (json_of body) bad_request ≡ Ok d
body_reads body d utf8 h =
    ap (λ o. ok_or o bad_request) (ap (λ b. if b then read body else None) (is_utf8-from_IsUtf8 body utf8) ∙ h)

-- one that it doesn't read is none
pub body_refused : (body : List ℕ) → (IsUtf8 body → read body ≡ None) → ok_or (json_of body) bad_request ≡ Err bad_request
body_refused body none = ap (λ o. ok_or o bad_request) (elim (cases_bool (is_utf8 body)) [
  | inl good ↦ ap (λ b. if b then read body else None) good ∙ none (IsUtf8-from_is_utf8 body good)
  | inr ill ↦ ap (λ b. if b then read body else None) ill
])

-- the value of a result, or this
abbrev data_or : Data → Result Data Response → Data
data_or d (Ok x) = x
data_or d (Err e) = d

-- the response of a result, or this
abbrev response_or : Response → Result Data Response → Response
response_or f (Ok x) = f
response_or f (Err e) = e

module _ {X Y : Type 0} (view : X → Y) (make : Data → Option Y) where
  -- a body is what is made of its JSON
  pub made_of : (o : Option Data) (d : Data) (r : Result X Stop) → ok_or o bad_request ≡ Ok d
      → GivesView view r (ok_or (make d) bad_request) → GivesView view r (ok_or (option_and_then make o) bad_request)
  made_of None d r reads gives = let bad : ⊥ = cc in absurd bad
  made_of (Some x) d r reads gives = subst (λ y. GivesView view r (ok_or (make y) bad_request)) (sym (ap (data_or d) reads)) gives

  -- where it is no JSON, it is nothing that is made of JSON
  pub none_of : (o : Option Data) (e : Stop) → FailsAs e (ok_or o bad_request) → FailsAs e (ok_or (option_and_then make o) bad_request)
  none_of o (stop.Fault fault.Read) fails = absurd fails
  none_of o (stop.Fault fault.Memory) fails = tt
  none_of None (stop.Rejected r) fails = ap Err (ap (response_or bad_request) fails)
  none_of (Some d) (stop.Rejected r) fails = let bad : ⊥ = cc in absurd bad
