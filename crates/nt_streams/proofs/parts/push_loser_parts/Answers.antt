use Rattle.std.proofs.Common.{◌∙◌, ◌++◌, ap, ap₂, flat_map}
use Rattle.std.proofs.lemmas.Result.{IfOk-equal}
use Rattle.ev_laws.proofs.Loops.{joined, joined_last}
use Rattle.nt_streams.specs.Sights.{own_part}
use Rattle.nt_streams.specs.StreamParts.{told}
use Rattle.nt_streams.specs.declared.own.Own.TheVariants.{Gone}
use Rattle.nt_streams.proofs.Movers.{losers_by_list}
use Rattle.nt_streams.proofs.parts.push_loser_parts.Goals as goal

pub returns : goal.returns
returns c =
    let tables = c.args.realm.now.state.tables in
    let turn = c.args.turn.now in
    let parts = c.args.parts.now.items in
    let first = c.in_ok-push_told.ensures
    ∙ ap₂ (λ users events. parts ++ told users events) c.deref.ensures.value c.in_ok-deleted.ensures in
    let left = c.in_ok-push_told-2.ensures
    ∙ ap₂ (λ users events. c.push_told.new.parts.items ++ told users events) c.deref-2.ensures.value c.in_ok-left.ensures in
    let gone = IfOk-equal _ _ _ _ c.push_each_own.ensures
    (ap (λ users. c.push_told-2.new.parts.items ++ flat_map (own_part tables turn Gone) users) c.deref-3.ensures.value) in
    IfOk-equal _ _ _ _ (joined_last _ _ _ _ _ (joined _ _ _ _ _ first left) _ gone)
    (ap (λ told. parts ++ told) (losers_by_list tables turn c.in_ok-losers.losers.items c.in_ok-users.users.items c.in_ok-losers.ensures c.in_ok-users.ensures))
