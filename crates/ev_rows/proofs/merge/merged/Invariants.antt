use Rattle.std.proofs.Common.{◌≡◌, ◌+◌, ◌≤◌, vec_len, vec_capacity}
use Rattle.std.specs.VecDeque.{deque_len, deque_capacity}
use Rattle.ev_rows.proofs.MergeLemmas.{IsMerging}
use Rattle.ev_rows.proofs.merge.merged.Given as goal

abbrev pub invariant-loop-key : goal.invariant-loop-key
invariant-loop-key g l = record {
  merging : IsMerging g.K.Ord.cmp l.fn.rows.items l.fn.new_rows.items l.ring.items l.left l.new_rows.items;
  left_within : l.left ≤ deque_len l.ring;
  no_more : deque_len l.ring + vec_len l.new_rows ≤ vec_len l.fn.rows + vec_len l.fn.new_rows;
  same_block : deque_capacity l.ring ≡ vec_capacity l.fn.rows;
}

abbrev pub decreases-loop-key : goal.decreases-loop-key
decreases-loop-key g l = l.left + vec_len l.new_rows
