use Rattle.std.proofs.Common.{◌≡◌, ◌+◌, ◌<◌, length}
use Rattle.zs_words.specs.TextParts.{BeginsWith, NoCharBegins}
use Rattle.zs_words.proofs.texts.split_char.Given as goal

abbrev pub invariant-loop : goal.invariant-loop
invariant-loop l =
    BeginsWith l.fn.word l.bytes.items l.rest
    × NoCharBegins l.bytes.items
    × (0 < length l.rest + length l.bytes.items)
    × (length l.bytes.items ≡ l.counter)
