use Rattle.std.proofs.Common.{◌≡◌, map, take}
use Rattle.clap.specs.Words.{app_of}
use Rattle.mr_words.specs.Grammar.{program}
use Rattle.mr_words.proofs.grammar.grammar.Given as goal

-- the rows so far
abbrev pub invariant-loop-name : goal.invariant-loop-name
invariant-loop-name l = app_of l.command ≡ program (map (λ s. s.now) (take l.name-index l.name-items))
