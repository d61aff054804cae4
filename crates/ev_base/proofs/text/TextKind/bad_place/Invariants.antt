use Rattle.std.proofs.Common.{◌≡◌, ◌+◌, ◌≤◌, IsUtf8, chars, length}
use Rattle.std.specs.Str.Iter.{chars_rest}
use Rattle.ev_base.specs.Texts.{bad_place}
use Rattle.ev_base.proofs.text.TextKind.bad_place.Given as goal

abbrev pub invariant-loop-c : goal.invariant-loop-c
invariant-loop-c l =
    IsUtf8 (chars_rest l.c-iterator)
    × (l.place + length (chars_rest l.c-iterator) ≤ length l.text)
    × (bad_place l.self l.place (chars (chars_rest l.c-iterator)) ≡ bad_place l.self 0 (chars l.text))
