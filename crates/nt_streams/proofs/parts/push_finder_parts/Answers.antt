use Rattle.std.proofs.Common.{◌∙◌, [], ◌++◌, ap, ap₂, append-nil, flat_map, sym, rules, tests}
use Rattle.std.proofs.lemmas.Result.{IfOk-equal}
use Rattle.ev_laws.proofs.Loops.{joined, joined_last}
use Rattle.nt_streams.specs.Sights.{own_part}
use Rattle.nt_streams.specs.StreamParts.{told}
use Rattle.nt_streams.specs.declared.own.Own.TheVariants.{Messages, Subscription}
use Rattle.nt_streams.proofs.Movers.{finders_by_list, no_items}
use Rattle.nt_streams.proofs.parts.push_finder_parts.Goals as goal

pub returns-then-is_empty : goal.returns-then-is_empty
returns-then-is_empty c =
    let nobody = no_items c.in_ok-users.users.items (search (rules, tests)) in
    sym (append-nil c.args.parts.now.items)
    ∙ ap (λ told. c.args.parts.now.items ++ told) (finders_by_list c.args.realm.now.state.tables c.args.turn.now [] (nobody ∙ c.in_ok-users.ensures))

pub returns : goal.returns
returns c =
    let tables = c.args.realm.now.state.tables in
    let turn = c.args.turn.now in
    let parts = c.args.parts.now.items in
    let first = c.in_ok-push_told.ensures
    ∙ ap₂ (λ users events. parts ++ told users events) c.deref.ensures.value c.in_ok-found.ensures in
    let own = c.in_ok-push_each_own.ensures
    ∙ ap (λ users. c.push_told.new.parts.items ++ flat_map (own_part tables turn Subscription) users) c.deref-2.ensures.value in
    let peers = c.in_ok-push_told-2.ensures
    ∙ ap₂ (λ users events. c.push_each_own.new.parts.items ++ told users events) c.deref-3.ensures.value c.in_ok-found_peers.ensures in
    let messages = IfOk-equal _ _ _ _ c.push_each_own-2.ensures
    (ap (λ users. c.push_told-2.new.parts.items ++ flat_map (own_part tables turn Messages) users) c.deref-4.ensures.value) in
    IfOk-equal _ _ _ _ (joined_last _ _ _ _ _ (joined _ _ _ _ _ (joined _ _ _ _ _ first own) peers) _ messages)
    (ap (λ told. parts ++ told) (finders_by_list tables turn c.in_ok-users.users.items c.in_ok-users.ensures))
