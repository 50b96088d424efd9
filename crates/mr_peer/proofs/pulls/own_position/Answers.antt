use Rattle.std.proofs.Common.{ℕ, Vec, Global}
use Rattle.mr_model.specs.Serving.{Reaches}
use Rattle.mr_model.specs.Step.{AskPosition}
use Rattle.mr_service.specs.Asked.{reply_of}
use Rattle.mr_peer.specs.PeerAsking.{HandsPosition}
use Rattle.mr_service.specs.Worlds.{IsPositionText}
use Rattle.mr_peer.proofs.AskLemmas.{position_handed, position_told, reads_faults}
use Rattle.mr_peer.proofs.Exchanges.{of_served}
use Rattle.mr_peer.proofs.pulls.own_position.Goals as goal

pub returns-clause-exchanged : goal.returns-clause-exchanged
returns-clause-exchanged g c =
    let reply = reply_of c.reply_to-reply.result in
    of_served g.K.Keeper c.args.service.now c.reply_to-reply.new.service AskPosition reply c.position_in.result HandsPosition
    (Reaches (g.K.Keeper.tables c.args.service.now) AskPosition) c.reply_to-reply.ensures
    (position_handed (λ (v : Vec ℕ Global). v.items) reply c.position_in.result c.position_in.ensures)
    (position_told (λ (v : Vec ℕ Global). v.items) reply c.position_in.result c.position_in.ensures) (λ t r. r)

pub returns-clause-fault : goal.returns-clause-fault
returns-clause-fault g c =
    let reply = reply_of c.reply_to-reply.result in
    reads_faults reply (λ (v : Vec ℕ Global). IsPositionText reply v.items) c.position_in.result c.position_in.ensures

pub returns-clause-once : goal.returns-clause-once
returns-clause-once g c = (reply_of c.reply_to-reply.result, c.reply_to-reply.ensures, c.position_in.ensures)
