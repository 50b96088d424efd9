use Rattle.mr_service.specs.Asked.{reply_of}
use Rattle.mr_service.proofs.KeeperWorldSteps.{found_in, none_in, do_found, do_nobody}
use Rattle.mr_service.proofs.world_steps.ask.Goals as goal

pub returns-in-Some : goal.returns-in-Some
returns-in-Some c = λ pool.
    let ms = c.args.members.now.items in
    let found = found_in c.as_slice.result.now ms c.args.server c.in-Some.place c.as_slice.ensures.value c.in-Some.ensures.0 c.in-Some.ensures.1 in
    do_found ms pool c.args.server c.in-Some.place c.args.command.now c.index_mut.result.now c.ask.new.self (reply_of c.ask.result) found c.index_mut.ensures.value c.ask.ensures

pub returns-in-None : goal.returns-in-None
returns-in-None c = λ pool. do_nobody c.args.members.now.items pool c.args.server c.args.command.now
    (none_in c.as_slice.result.now c.args.members.now.items c.args.server c.as_slice.ensures.value c.in-None.ensures)
