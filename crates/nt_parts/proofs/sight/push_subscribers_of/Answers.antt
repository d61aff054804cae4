use Rattle.std.proofs.Common.{◌++◌, ap, rules}
use Rattle.std.proofs.lemmas.Result.{IfOk-equal}
use Rattle.ev_rows.specs.Rows.{one_of}
use Rattle.ev_types.specs.declared.event.Event.TheVariants.{PeerAdd}
use Rattle.nt_parts.proofs.sight.push_subscribers_of.Goals as goal

pub returns : goal.returns
returns c =
    let told = c.push_one_of.ensures (PeerAdd c.args.stream) (λ users made called. search rules) in
    IfOk-equal _ _ _ _ told (ap (λ users. c.args.events.now.items ++ one_of (PeerAdd c.args.stream) users) c.in_ok-users.ensures)
