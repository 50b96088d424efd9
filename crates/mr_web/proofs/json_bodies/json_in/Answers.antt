use Rattle.std.proofs.Common.{◌≡◌, true, false}
use Rattle.serde_json.specs.View.{view}
use Rattle.mr_web.proofs.JsonBodies.{body_reads, body_refused}
use Rattle.mr_web.proofs.json_bodies.json_in.Goals as goal

pub returns-in-Ok : goal.returns-in-Ok
returns-in-Ok c =
    let read = c.in-Ok.ensures.ok in
    body_reads c.args.body.now (view c.in-Ok.value) read.0 read.1

pub returns-else-is_memory : goal.returns-else-is_memory
returns-else-is_memory c = body_refused c.args.body.now (c.in-Err.ensures.err (λ m.
    let truth : false ≡ true = c.if-is_memory.ensures.1 m in let bad : ⊥ = cc in bad))
