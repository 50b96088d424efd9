use Rattle.std.proofs.Common.{map}
use Rattle.mr_service.specs.Asked.{reply_of}
use Rattle.mr_service.proofs.KeeperWorldSteps.{found_in, none_in, deliver_found, deliver_nobody, deliver_nothing}
use Rattle.mr_service.proofs.world_steps.deliver.Goals as goal

pub returns-in-Some-text_of : goal.returns-in-Some-text_of
returns-in-Some-text_of c =
    let ms = c.args.members.now.items in
    let pool = map (λ bytes. bytes.items) c.args.pool.now in
    let found = found_in c.as_slice.result.now ms c.args.to c.in-Some.place c.as_slice.ensures.value c.in-Some.ensures.0 c.in-Some.ensures.1 in
    deliver_found ms pool c.args.batch c.args.to c.args.bytes c.in-Some.place c.in-Some-text_of.text.now c.front_of.result.now c.index_mut.result.now c.receive.new.self
    (reply_of c.receive.result) found c.index_mut.ensures.value c.in-Some-text_of.ensures c.front_of.ensures c.receive.ensures

pub returns-in-None-text_of : goal.returns-in-None-text_of
returns-in-None-text_of c =
    let ms = c.args.members.now.items in
    deliver_nothing ms (map (λ bytes. bytes.items) c.args.pool.now) c.args.batch c.args.to c.args.bytes
    (found_in c.as_slice.result.now ms c.args.to c.in-Some.place c.as_slice.ensures.value c.in-Some.ensures.0 c.in-Some.ensures.1).low c.in-None-text_of.ensures

pub returns-in-None : goal.returns-in-None
returns-in-None c =
    deliver_nobody c.args.members.now.items (map (λ bytes. bytes.items) c.args.pool.now) c.args.batch c.args.to c.args.bytes
    (none_in c.as_slice.result.now c.args.members.now.items c.args.to c.as_slice.ensures.value c.in-None.ensures)
