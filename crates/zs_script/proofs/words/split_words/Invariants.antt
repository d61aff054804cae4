use Rattle.std.proofs.Common.{◌≡◌}
use Rattle.zs_script.proofs.words.split_words.Given as goal

abbrev pub invariant-loop-word : goal.invariant-loop-word
invariant-loop-word l =
    l.words.items ≡ l.yielded ×
    (goal.iterator-loop-word).can_next l.word-iterator ×
    (goal.iterator-loop-word).is_finite l.word-iterator
