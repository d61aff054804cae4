use Rattle.std.proofs.Common.{not, ap, ◌∙◌}
use Rattle.std.specs.List.{list_any}
use Rattle.ev_groups.specs.Items.{Numbered}
use Rattle.ev_groups.specs.Places as of_place
use Rattle.ev_groups.proofs.Taking.{any_closes_below}
use Rattle.ev_groups.proofs.closing.stays_open.Goals as goal

pub returns : goal.returns
returns c =
    ap not (c.one_closes_below.ensures
    ∙ ap (λ end. list_any (λ (item : Numbered). of_place.closes_below c.args.group.now.flag end item.1) c.args.later.now) (c.end_of-end.ensures ∙ ap of_place.end_of c.as_slice.ensures)
    ∙ any_closes_below c.args.group.now c.args.later.now)
