use Rattle.std.specs.String.{string_bytes}
use Rattle.mr_words.proofs.AddressParts.{address_of_text}
use Rattle.mr_words.proofs.address.peer_address.Goals as goal

pub returns-in-Ok : goal.returns-in-Ok
returns-in-Ok c = address_of_text string_bytes c.args.text.now c.in-Ok.url c.address_of.result c.in-Ok.ensures c.address_of.ensures
