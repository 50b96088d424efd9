use Rattle.std.proofs.Common.{◌∙◌, ap, ◌<◌, ◌^◌, length, take, arith, Some, Ok, Err}
use Rattle.mr_web.specs.RepliesWritten.{Writes}
use Rattle.mr_branches.proofs.ThreeCalls.{not_pushed, pushed}
use Rattle.mr_branches.proofs.pulling.push_between.Goals as goal

pub returns-in_err-ending : goal.returns-in_err-ending
returns-in_err-ending g c =
    not_pushed g.C.Keeper g.S.Keeper c.args.position.now c.args.client.now c.push_ask.new.service c.args.server.now c.args.host.now c.new-request.result.items c.push_ask.new.writer.items
    c.in_err-ending.field-0.0 c.in_err-ending.ensures.once

pub returns-in_err-serve_one : goal.returns-in_err-serve_one
returns-in_err-serve_one g c =
    let request = c.push_ask.new.writer in
    let ok = request.ok.0 in
    let small = request.small in
    let low : length request.items < 2 ^ 64 = omega arith in
    pushed g.C.Keeper g.S.Keeper c.args.position.now c.args.client.now c.push_ask.new.service c.args.server.now c.serve_one.new.service c.args.host.now c.new-request.result.items request.items
    c.front_of-line.result.now c.args.sent c.in_ok-ending.ending (Writes (Some c.new-response.result.items) (Some c.serve_one.new.writer.items))
    (Err c.in_err-serve_one.field-0.0) c.requires low c.new-request.ensures.items
    (c.front_of-line.ensures ∙ ap (take c.args.sent) c.as_slice.ensures.value) c.in_ok-ending.ensures.once c.in_err-serve_one.ensures.served.once

pub returns-in_err-writes : goal.returns-in_err-writes
returns-in_err-writes g c =
    let request = c.push_ask.new.writer in
    let ok = request.ok.0 in
    let small = request.small in
    let low : length request.items < 2 ^ 64 = omega arith in
    pushed g.C.Keeper g.S.Keeper c.args.position.now c.args.client.now c.push_ask.new.service c.args.server.now c.serve_one.new.service c.args.host.now c.new-request.result.items request.items
    c.front_of-line.result.now c.args.sent c.in_ok-ending.ending (Writes (Some c.new-response.result.items) (Some c.serve_one.new.writer.items))
    (Ok c.in_ok-serve_one.field-0) c.requires low c.new-request.ensures.items
    (c.front_of-line.ensures ∙ ap (take c.args.sent) c.as_slice.ensures.value) c.in_ok-ending.ensures.once c.in_ok-serve_one.ensures.served.once

pub returns : goal.returns
returns g c =
    let request = c.push_ask.new.writer in
    let ok = request.ok.0 in
    let small = request.small in
    let low : length request.items < 2 ^ 64 = omega arith in
    pushed g.C.Keeper g.S.Keeper c.args.position.now c.args.client.now c.push_ask.new.service c.args.server.now c.serve_one.new.service c.args.host.now c.new-request.result.items request.items
    c.front_of-line.result.now c.args.sent c.in_ok-ending.ending (Writes (Some c.new-response.result.items) (Some c.serve_one.new.writer.items))
    (Ok c.in_ok-serve_one.field-0) c.requires low c.new-request.ensures.items
    (c.front_of-line.ensures ∙ ap (take c.args.sent) c.as_slice.ensures.value) c.in_ok-ending.ensures.once c.in_ok-serve_one.ensures.served.once
