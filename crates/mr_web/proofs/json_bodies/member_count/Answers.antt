use Rattle.std.proofs.Common.{◌≡◌, ◌∙◌, sym, map, Some}
use Rattle.std.proofs.lemmas.List.{length-map}
use Rattle.serde_json.specs.Find.{as_object}
use Rattle.serde_json.specs.View.{view, members_view}
use Rattle.mr_web.proofs.JsonBodies.{count_of_members, members_in_object}
use Rattle.mr_web.proofs.json_bodies.member_count.Goals as goal

pub returns-in-Some : goal.returns-in-Some
returns-in-Some c =
    let entries = c.in-Some.members.now.entries in
    let shown : as_object (view c.args.value.now) ≡ Some (members_view entries) = sym c.in-Some.ensures in
    let count = count_of_members (map (λ m. (m.0, view m.1)) entries) ∙ length-map entries (λ m. (m.0, view m.1)) in
    c.len.ensures.len ∙ sym (members_in_object (view c.args.value.now) (members_view entries) shown ∙ count)
