use Rattle.std.proofs.Common.{◌+◌, ◌≤◌}
use Rattle.rows_bench.proofs.work.filled.Given as goal

-- there is room for the rows that are left to put
abbrev pub invariant-loop-place : goal.invariant-loop-place
invariant-loop-place l = 1000000 ≤ l.posts.receipts.spare + l.place
