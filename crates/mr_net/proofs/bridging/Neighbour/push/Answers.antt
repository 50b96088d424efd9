use Rattle.std.proofs.Common.{inl, refl, Ok, Err}
use Rattle.mr_net.proofs.BridgeLaws.{asked_once, asked_twice, ends_so, handed, is_err, no_round}
use Rattle.mr_net.proofs.bridging.Neighbour.push.Goals as goal

pub returns-in_err-position : goal.returns-in_err-position
returns-in_err-position g c = (
  inl (is_err _ c.from_residual.result c.from_residual.ensures.1, c.in_err-position.ensures.client),
  asked_once g.S.Keeper c.args.self.now.server c.position.new.self.server c.in_err-position.ensures.server,
)

pub returns-in_err-stream : goal.returns-in_err-stream
returns-in_err-stream g c = (
  inl (is_err _ c.from_residual-in_err-stream.result c.from_residual-in_err-stream.ensures.1, c.in_ok-position.ensures.client),
  asked_once g.S.Keeper c.args.self.now.server c.position.new.self.server c.in_ok-position.ensures.server,
)

pub returns-in_err-ending : goal.returns-in_err-ending
returns-in_err-ending g c =
    let (held, holds, gave, once) = c.in_err-ending.ensures in
    let result = c.from_residual-in_err-ending.result in (
      handed g.C.Keeper c.args.self.now.client c.position.new.self.client c.ask_push.new.client c.ask_push.new.client c.in_ok-position.position c.as_str-host.result.now held
          holds (Err c.in_err-ending.field-0.0) result c.in_ok-position.ensures.client gave once refl (no_round _ result (is_err _ result c.from_residual-in_err-ending.ensures.1)),
      asked_once g.S.Keeper c.args.self.now.server c.position.new.self.server c.in_ok-position.ensures.server,
    )

pub returns-in_err-serve : goal.returns-in_err-serve
returns-in_err-serve g c =
    let (held, holds, gave, once) = c.in_ok-ending.ensures in
    let result = c.from_residual-in_err-serve.result in (
      handed g.C.Keeper c.args.self.now.client c.position.new.self.client c.ask_push.new.client c.serve.new.self.client c.in_ok-position.position c.as_str-host.result.now held
          holds (Ok c.in_ok-ending.ending) result c.in_ok-position.ensures.client gave once c.in_err-serve.ensures.client
          (no_round _ result (is_err _ result c.from_residual-in_err-serve.ensures.1)),
      asked_twice g.S.Keeper c.args.self.now.server c.position.new.self.server c.serve.new.self.server c.in_ok-position.ensures.server c.in_err-serve.ensures.server,
    )

pub returns : goal.returns
returns g c =
    let (held, holds, gave, once) = c.in_ok-ending.ensures in
    let (counts, told, brings) = c.take_push.ensures in (
      handed g.C.Keeper c.args.self.now.client c.position.new.self.client c.ask_push.new.client c.serve.new.self.client c.in_ok-position.position c.as_str-host.result.now held
          holds (Ok c.in_ok-ending.ending) c.take_push.result c.in_ok-position.ensures.client gave once c.in_ok-serve.ensures.client
          (ends_so counts c.in_ok-ending.ending c.take_push.result brings),
      asked_twice g.S.Keeper c.args.self.now.server c.position.new.self.server c.serve.new.self.server c.in_ok-position.ensures.server c.in_ok-serve.ensures.server,
    )
