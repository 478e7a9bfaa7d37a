use Rattle.std.proofs.Common.{◌≡◌, ◌++◌, drop}
use Rattle.gen_image.specs.Number.{words_of}
use Rattle.gen_image.proofs.words.put_words.Given as goal

-- what is appended so far, and what is still to be appended
abbrev pub invariant-loop-word : goal.invariant-loop-word
invariant-loop-word l = l.out.items ++ words_of (drop l.word-index l.words) ≡ l.initial.out.items ++ words_of l.words
