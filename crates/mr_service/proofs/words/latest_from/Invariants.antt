use Rattle.std.proofs.Common.{◌≡◌, map, drop}
use Rattle.mr_service.specs.Asked.{words_of}
use Rattle.mr_service.specs.SubmittedWords.{latest_from}
use Rattle.mr_service.proofs.words.latest_from.Given as goal

-- with the choices that are left, the latest start so far gives that of all
abbrev pub invariant-loop-choice : goal.invariant-loop-choice
invariant-loop-choice l = latest_from l.latest (map words_of (drop l.choice-index l.words)) ≡ latest_from l.fn.minute (map words_of l.words)
