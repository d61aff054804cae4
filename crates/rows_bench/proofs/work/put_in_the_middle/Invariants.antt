use Rattle.std.proofs.Common.{◌+◌, ◌≤◌}
use Rattle.rows_bench.proofs.work.put_in_the_middle.Given as goal

-- there is room for the rows that are left to put
abbrev pub invariant-loop-place : goal.invariant-loop-place
invariant-loop-place l = 10000 ≤ l.posts.receipts.spare + l.place
