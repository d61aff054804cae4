use Rattle.ev_laws.proofs.Loops.{joined, joined_last}
use Rattle.ev_laws.proofs.changing.flags.push_flags.Goals as goal

pub returns : goal.returns
returns c =
    let two = joined _ _ _ _ _ c.in_ok-push_flag.ensures c.in_ok-push_flag-2.ensures in
    let three = joined _ _ _ _ _ two c.in_ok-push_flag-3.ensures in
    let four = joined _ _ _ _ _ three c.in_ok-push_flag-4.ensures in
    let five = joined _ _ _ _ _ four c.in_ok-push_flag-5.ensures in
    joined_last _ _ _ _ _ five _ c.push_flag-6.ensures
