use Rattle.std.proofs.Common.{◌≡◌, ◌++◌, map, pos, take}
use Rattle.context_list.proofs.codes.put_words.Given as goal

-- the words so far stand behind what was there
abbrev pub invariant-loop-word : goal.invariant-loop-word
invariant-loop-word l = l.code.items ≡ l.initial.code.items ++ map pos (take l.word-index l.words)
