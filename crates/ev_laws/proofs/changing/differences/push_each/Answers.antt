use Rattle.std.proofs.Common.{◌≡◌, ◌∙◌, ◌++◌, ap, sym, map}
use Rattle.std.proofs.lemmas.List.{map-id}
use Rattle.std.proofs.lemmas.Iterator.Adapters.{YieldsList-from_vec}
use Rattle.std.proofs.lemmas.Iterator.Consumers.{YieldsList-end}
use Rattle.ev_laws.proofs.changing.differences.push_each.Goals as goal

pub returns : goal.returns
returns g c = λ event makes.
    let gives = c.into_iter-item-iterator.ensures.into_iter_gives in
    let end = YieldsList-end (YieldsList-from_vec {s = c.into_iter-item-iterator.result} c.args.items.items gives.0 (gives.1 ∙ c.args.items.ok.0)) c.loop-item.yielded c.loop-item.item-iterator c.loop-item.yielded_by c.next.result c.next.new.self c.in-None.is c.next.ensures.steps in
    let all : c.loop-item.yielded ≡ c.args.items.items = sym (map-id c.loop-item.yielded) ∙ end.0 in
    c.loop-item.invariant event makes ∙ ap (λ items. c.args.events.now.items ++ map event items) all
