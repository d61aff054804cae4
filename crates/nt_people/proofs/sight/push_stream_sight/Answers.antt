use Rattle.std.proofs.Common.{◌∙◌, ◌++◌, ap, flat_map, rules}
use Rattle.std.proofs.lemmas.Result.{IfOk-equal}
use Rattle.ev_rows.specs.Rows.{keys_of, one_of}
use Rattle.ev_types.specs.declared.event.Event.TheVariants.{PeerAdd, StreamCreate, StreamDelete}
use Rattle.ev_laws.proofs.Loops.{joined, joined_last}
use Rattle.zw_views.specs.Views.{peers}
use Rattle.nt_people.proofs.sight.push_stream_sight.Goals as goal

pub returns : goal.returns
returns c =
    let created = c.in_ok-push_one_of.ensures StreamCreate (λ list made called. search rules) in
    let first = created ∙ ap (λ rows. c.args.events.now.items ++ one_of StreamCreate rows) (c.into_vec.ensures.rows ∙ c.in_ok-created.ensures) in
    let deleted = c.in_ok-push_one_of-2.ensures StreamDelete (λ list made called. search rules) in
    let second = deleted ∙ ap (λ keys. c.push_one_of.new.events.items ++ one_of StreamDelete keys) (c.in_ok-deleted-2.ensures ∙ ap keys_of c.in_ok-deleted.ensures) in
    let last = IfOk-equal _ _ _ _ c.push_subscribers.ensures
    (ap (λ streams. c.push_one_of-2.new.events.items ++ flat_map (λ stream. one_of (PeerAdd stream) (keys_of (peers c.args.realm.now.state.tables stream))) streams)
    (c.deref.ensures.value ∙ c.in_ok-streams.ensures ∙ ap keys_of c.in_ok-created.ensures)) in
    joined_last _ _ _ _ _ (joined _ _ _ _ _ first second) _ last
