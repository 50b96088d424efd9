use Rattle.std.proofs.Common.{◌∙◌, ap, ◌<◌, ◌^◌, length, take, arith}
use Rattle.mr_branches.proofs.ThreeCalls.{between_err, between_ok, not_pulled}
use Rattle.mr_branches.proofs.pulling.pull_between.Goals as goal

pub returns-in_err-pull_ask : goal.returns-in_err-pull_ask
returns-in_err-pull_ask g c =
    not_pulled g.C.Keeper g.S.Keeper c.args.client.now c.pull_ask.new.service c.args.server.now c.args.host.now c.new-request.result.items c.pull_ask.new.writer.items
    c.in_err-pull_ask.field-0.0 c.in_err-pull_ask.ensures.once

pub returns-in_err-serve_one : goal.returns-in_err-serve_one
returns-in_err-serve_one g c =
    let request = c.pull_ask.new.writer in
    let response = c.serve_one.new.writer in
    let ok = request.ok.0 in
    let small = request.small in
    let ok_too = response.ok.0 in
    let small_too = response.small in
    let low : length request.items < 2 ^ 64 = omega arith in
    let short : length response.items < 2 ^ 64 = omega arith in
    between_err g.C.Keeper g.S.Keeper c.args.client.now c.pull_ask.new.service c.args.server.now c.serve_one.new.service c.args.host.now c.new-request.result.items request.items
    c.front_of-line.result.now c.new-response.result.items response.items c.args.sent c.in_err-serve_one.field-0.0 c.requires low short
    c.in_ok-pull_ask.ensures.once c.new-request.ensures.items (c.front_of-line.ensures ∙ ap (take c.args.sent) c.as_slice.ensures.value)
    c.new-response.ensures.items c.in_err-serve_one.ensures.served.once

pub returns : goal.returns
returns g c =
    let request = c.pull_ask.new.writer in
    let response = c.serve_one.new.writer in
    let ok = request.ok.0 in
    let small = request.small in
    let ok_too = response.ok.0 in
    let small_too = response.small in
    let low : length request.items < 2 ^ 64 = omega arith in
    let short : length response.items < 2 ^ 64 = omega arith in
    between_ok g.C.Keeper g.S.Keeper c.args.client.now c.pull_ask.new.service c.pull_take.new.service c.args.server.now c.serve_one.new.service c.args.host.now c.new-request.result.items request.items
    c.front_of-line.result.now c.new-response.result.items response.items c.front_of-back.result.now c.args.sent c.args.told c.in_ok-serve_one.field-0 c.pull_take.result c.requires low short
    c.in_ok-pull_ask.ensures.once c.new-request.ensures.items (c.front_of-line.ensures ∙ ap (take c.args.sent) c.as_slice.ensures.value)
    c.new-response.ensures.items c.in_ok-serve_one.ensures.served.once (c.front_of-back.ensures ∙ ap (take c.args.told) c.as_slice-2.ensures.value) c.pull_take.ensures.once
