use Rattle.std.proofs.Common.{◌≡◌, ap, ◌∙◌}
use Rattle.ev_rows.proofs.RiseLemmas.{rise-remove_range}
use Rattle.ev_rows.proofs.keyed.Keyed.drop_range.Goals as goal

pub returns-clause-rows : goal.returns-clause-rows
returns-clause-rows g c =
    let rows_is : c.self.inside.rows.items ≡ c.args.self.now.rows = ap (λ t. t.rows) c.self.view_is in
    rw (← rows_is) (c.drop-drain.ensures.items ∙ c.drain.ensures.kept)

pub invariant_of-self : goal.invariant_of-self
invariant_of-self g c =
    rw (c.drop-drain.ensures.items ∙ c.drain.ensures.kept) (rise-remove_range _ _ _ _ c.requires.order c.self.invariant)
