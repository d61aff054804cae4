use Rattle.std.proofs.Common.{◌<◌, ◌-◌, arith, sym}
use Rattle.ev_rows.proofs.MergeLemmas.{IsMerging, last_read, read_last, step_old, step_both, step_new}
use Rattle.ev_rows.proofs.merge.merged.Goals as goal
use Rattle.ev_rows.proofs.merge.merged.Goals.{After-push_front_reserved, After-push_front_reserved-in-Greater}

-- the last old row goes to the front
pub loop-key-preserved-in-Less : goal.loop-key-preserved-in-Less
loop-key-preserved-in-Less g c =
    let some : 0 < c.loop-key.left = grind (arith, c.in-Less.ensures.none) in
    let row = c.in-Some.field-0.now in
    let last = last_read c.loop-key.new_rows.items row (rw c.deref.ensures.value at c.in-Some.ensures.item.3) in
    let step = step_old g.met.K.Ord.total c.loop-key.invariant.merging last.front row last.is _ c.loop-key.ring.ok.0 some (λ d. sym (c.in-Less.ensures.last d some)) in
    record { merging = rw c.rotate_right.ensures.items step; left_within = omega arith; no_more = omega arith; same_block = omega arith }

-- it takes the new value on the way
merging_both : (g : _) (c : After-push_front_reserved g) → IsMerging g.K.Ord.cmp c.args.rows.items c.args.new_rows.items c.push_front_reserved.new.self.items (c.loop-key.left - 1) c.pop.new.self.items
merging_both g c =
    let some : 0 < c.loop-key.left = grind (arith, c.in-Equal.ensures.none) in
    let row = c.unwrap-value.result in
    let front_is = rw c.unwrap-value.ensures at c.pop.ensures.items in
    let read = rw c.deref.ensures.value at c.in-Some.ensures.item.3 in
    let same = read_last c.loop-key.new_rows.items c.pop.new.self.items row c.in-Some.field-0.now front_is read.1 in
    let last_is = rw c.unwrap-old_key.ensures at c.pop_back.ensures.lookup in
    let step = step_both g.met.K.Ord.total c.loop-key.invariant.merging c.pop.new.self.items row front_is _ c.loop-key.ring.ok.0 some
    (λ d. rw (← same) (sym (c.in-Equal.ensures.last d some))) c.unwrap-old_key.result last_is in
    rw (c.push_front_reserved.ensures.items, c.pop_back.ensures.rest) step

pub loop-key-preserved-in-Equal : goal.loop-key-preserved-in-Equal
loop-key-preserved-in-Equal g c =
    let rows = rw c.unwrap-old_key.ensures at c.pop_back.ensures.cases in
    let new_rows = rw c.unwrap-value.ensures at c.pop.ensures.cases in
    record { merging = merging_both g c; left_within = omega arith; no_more = omega arith; same_block = omega arith }

-- the new row goes to the front
merging_new : (g : _) (c : After-push_front_reserved-in-Greater g) → IsMerging g.K.Ord.cmp c.args.rows.items c.args.new_rows.items c.push_front_reserved-in-Greater.new.self.items c.loop-key.left c.pop-in-Greater.new.self.items
merging_new g c =
    let row = c.unwrap.result in
    let front_is = rw c.unwrap.ensures at c.pop-in-Greater.ensures.items in
    let read = rw c.deref.ensures.value at c.in-Some.ensures.item.3 in
    let same = read_last c.loop-key.new_rows.items c.pop-in-Greater.new.self.items row c.in-Some.field-0.now front_is read.1 in
    let step = step_new g.met.K.Ord.total c.loop-key.invariant.merging c.pop-in-Greater.new.self.items row front_is _ c.loop-key.ring.ok.0
    (λ some d. rw (← same) (sym (c.in-Greater.ensures.last d some))) in
    rw c.push_front_reserved-in-Greater.ensures.items step

pub loop-key-preserved : goal.loop-key-preserved
loop-key-preserved g c =
    let new_rows = rw c.unwrap.ensures at c.pop-in-Greater.ensures.cases in
    record { merging = merging_new g c; left_within = omega arith; no_more = omega arith; same_block = omega arith }
