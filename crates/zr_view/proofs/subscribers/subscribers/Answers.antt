use Rattle.std.proofs.Common.{◌∙◌}
use Rattle.zr_view.proofs.SubscriberLemmas.{subscribers_are_sorted, subscribers_rise}
use Rattle.zr_view.proofs.subscribers.subscribers.Goals as goal

pub from_vec-requires : goal.from_vec-requires
from_vec-requires c =
    subscribers_rise c.args.realm.now.state.tables c.streams.ensures.sorted c.args.user c.sort_unstable.new.self.items
    (rw (c.in_ok-found.ensures, c.subscriptions_rows-rows.ensures.all, c.streams.ensures.subscriptions) at c.sort_unstable.ensures.permutation) c.sort_unstable.ensures.sorted

pub returns : goal.returns
returns c =
    c.from_vec.ensures.rows
    ∙ subscribers_are_sorted c.args.realm.now.state.tables c.streams.ensures.sorted c.args.user c.sort_unstable.new.self.items
    (rw (c.in_ok-found.ensures, c.subscriptions_rows-rows.ensures.all, c.streams.ensures.subscriptions) at c.sort_unstable.ensures.permutation) c.sort_unstable.ensures.sorted
