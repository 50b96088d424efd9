use Rattle.std.proofs.Common.{◌∙◌, ap}
use Rattle.mr_replay.specs.Hidden.{shown}
use Rattle.mr_replay.specs.Overlay.{overlaid}
use Rattle.mr_replay.proofs.Hiding.{shown-empty}
use Rattle.mr_replay.proofs.overlay.Overlay.over.Goals as goal

pub returns : goal.returns
returns c = ap (overlaid (shown c.new.result c.args.base)) c.new-2.ensures.value ∙ shown-empty c.new.result c.args.base c.new.ensures.empty
