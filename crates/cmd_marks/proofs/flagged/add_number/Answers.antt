-- A binary search tells whether the number is there, and where it goes.
use Rattle.std.proofs.Common.{◌∙◌, arith}
use Rattle.cmd_marks.proofs.FlagLemmas.{one_more, with_found, with_gap}
use Rattle.cmd_marks.proofs.flagged.add_number.Goals as goal

pub returns-in-Ok-clause-added : goal.returns-in-Ok-clause-added
returns-in-Ok-clause-added c = λ yes numbers are.
    with_found numbers c.as_slice.result.now c.args.seen.now.items c.args.number c.in-Ok.field-0 c.as_slice.ensures.value are c.in-Ok.ensures.bound c.in-Ok.ensures.ok

pub returns-in-Err-clause-added : goal.returns-in-Err-clause-added
returns-in-Err-clause-added c = λ yes numbers are.
    c.insert_number.ensures.added yes
    ∙ with_gap numbers c.as_slice.result.now c.args.seen.now.items c.args.number c.in-Err.at c.as_slice.ensures.value are c.in-Err.ensures.bound c.in-Err.ensures.position

pub returns-in-Err-clause-full : goal.returns-in-Err-clause-full
returns-in-Err-clause-full c = λ none numbers are.
    let more = one_more numbers c.as_slice.result.now c.args.seen.now.items c.args.number c.in-Err.at c.as_slice.ensures.value are c.in-Err.ensures.bound c.in-Err.ensures.position in
    let full = c.insert_number.ensures.full none in
    omega arith
