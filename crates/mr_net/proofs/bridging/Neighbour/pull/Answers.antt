use Rattle.std.proofs.Common.{inl, refl, None, Ok, Err}
use Rattle.mr_net.specs.declared.ways.Way.TheVariants.{Pull}
use Rattle.mr_net.proofs.BridgeLaws.{is_err, taken, unasked, untaken}
use Rattle.mr_net.proofs.bridging.Neighbour.pull.Goals as goal

pub returns-in_err-stream : goal.returns-in_err-stream
returns-in_err-stream g c = (inl (is_err _ c.from_residual.result c.from_residual.ensures.1, refl), unasked g.S.Keeper Pull c.args.self.now.server)

pub returns-in_err-ask_pull : goal.returns-in_err-ask_pull
returns-in_err-ask_pull g c =
    let (held, holds, asked, once) = c.in_err-ask_pull.ensures in
    let result = c.from_residual-in_err-ask_pull.result in (
      untaken g.C.Keeper c.args.self.now.client c.ask_pull.new.client c.ask_pull.new.client c.as_str.result.now held holds (Err c.in_err-ask_pull.field-0.0) result asked once
          (is_err _ result c.from_residual-in_err-ask_pull.ensures.1) refl,
      unasked g.S.Keeper Pull c.args.self.now.server,
    )

pub returns-in_err-serve : goal.returns-in_err-serve
returns-in_err-serve g c =
    let (held, holds, asked, once) = c.in_ok-ask_pull.ensures in
    let result = c.from_residual-in_err-serve.result in (
      untaken g.C.Keeper c.args.self.now.client c.ask_pull.new.client c.serve.new.self.client c.as_str.result.now held holds (Ok tt) result asked once
          (is_err _ result c.from_residual-in_err-serve.ensures.1) c.in_err-serve.ensures.client,
      c.in_err-serve.ensures.server,
    )

pub returns : goal.returns
returns g c =
    let (held, holds, asked, once) = c.in_ok-ask_pull.ensures in
    let (called, took, comes, took_once) = c.take_pull.ensures in (
      taken g.C.Keeper c.args.self.now.client c.ask_pull.new.client c.serve.new.self.client c.take_pull.new.service c.as_str.result.now held holds None called
          c.take_pull.result asked once c.in_ok-serve.ensures.client took comes took_once,
      c.in_ok-serve.ensures.server,
    )
