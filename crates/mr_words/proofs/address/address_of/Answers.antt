use Rattle.std.proofs.Common.{◌≡◌, sym, ap, subst, ◌∙◌}
use Rattle.std.specs.Prelude.{unwrap_or}
use Rattle.std.specs.String.{string_bytes}
use Rattle.mr_words.specs.Addresses.{IsAddressOf}
use Rattle.mr_words.proofs.AddressParts.{address_from}
use Rattle.mr_words.proofs.address.address_of.Goals as goal

pub returns-in_ok-from_str-in-Some : goal.returns-in_ok-from_str-in-Some
returns-in_ok-from_str-in-Some c =
    let same : string_bytes c.in_ok-from_str-in-Some.field-0 ≡ c.in-Some.host.now = c.in_ok-from_str-in-Some.ensures.ok in
    subst (λ t. IsAddressOf c.args.url.now t c.unwrap_or.result) (sym same)
    (address_from c.args.url.now c.in-Some.host.now c.unwrap_or.result (sym c.has_plain_parts.ensures ∙ c.if-has_plain_parts.true) (sym c.in-Some.ensures)
    c.if-host-le255.true (ap (λ o. unwrap_or o 80) (sym c.port.ensures.value) ∙ sym c.unwrap_or.ensures))
