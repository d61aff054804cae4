use Rattle.std.proofs.Common.{◌≡◌, ◌≤◌, length, take, drop, sym, ap, arith, drop-drop, length-take-le, take-append-drop, take_at}
use Rattle.ev_ports.proofs.memory.MemSourceSource.read.Goals as goal

-- the bytes taken stand at the front of the slice, and those left behind them in the list
pub returns-clause-taken : goal.returns-clause-taken
returns-clause-taken c =
    let n = c.copy_front-count.result in
    let left = c.args.self.now.left in
    let within : n ≤ length left = grind arith in
    let gave : c.left.result.now ≡ left = cc in
    let left_is : drop c.self.inside.taken c.self.inside.bytes.items ≡ left = ap (λ source. source.left) c.self.view_is in
    let front = take_at (take n left) (drop n c.args.into.now) n (length-take-le n left within) in
    (grind arith, grind arith, rw (c.copy_front-count.ensures.copied, gave, front, ← drop-drop, left_is) (sym (take-append-drop n left)))
