use Rattle.std.proofs.Common.{ℕ, List, arith, subst}
use Rattle.std.specs.Io.KnownBytes.{Appends}
use Rattle.std.proofs.KnownBytes.{Appends-trans}
use Rattle.std.proofs.lemmas.Grind.{common_steps}
use Rattle.mr_http.proofs.SentPieces.{sent_more}
use Rattle.mr_http.proofs.sending.send.Goals as goal

pub sending-preserved : goal.sending-preserved
sending-preserved g c =
    let bytes = c.args.bytes.now in
    let bound = c.in-Ok.ensures.bound in
    let start = g.W.Write.contents c.args.writer.now in
    let before = g.W.Write.contents c.sending.writer in
    let after = g.W.Write.contents c.write.new.self in
    let P : List ℕ → Type 0 = λ l. Appends start after l in
    record {
      within = grind (arith, common_steps);
      sent = subst P (sent_more bytes c.sending.at c.in-Ok.count)
          (Appends-trans start before after _ _ c.sending.invariant.sent c.in-Ok.ensures.bytes);
    }
