use Rattle.std.proofs.Common.{◌≡◌, map, take}
use Rattle.mr_service.specs.Asked.{words_of}
use Rattle.mr_words.specs.CommandTable.{slot_in_word}
use Rattle.mr_words.proofs.words.slots.Given as goal

-- the slots of the words so far
abbrev pub invariant-loop-word : goal.invariant-loop-word
invariant-loop-word l = map words_of l.slots.items ≡ map slot_in_word (map (λ w. w.now) (take l.word-index l.words))
