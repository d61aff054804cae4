use Rattle.std.proofs.Common.{◌≡◌, ◌≤◌, length, take, vec_capacity, vec_len}
use Rattle.zr_realm.specs.Parts.{receipt_rows, users_of}
use Rattle.zr_realm.proofs.posts.new_receipts.Given as goal

-- the receipts of those passed, in the memory that was there
abbrev pub invariant-loop-number : goal.invariant-loop-number
invariant-loop-number l = record {
  rows : l.rows.items ≡ receipt_rows l.fn.message l.fn.sender (users_of (take l.number-index l.receivers));
  len : vec_len l.rows ≡ l.number-index;
  room : length l.receivers ≤ vec_capacity l.rows;
}
