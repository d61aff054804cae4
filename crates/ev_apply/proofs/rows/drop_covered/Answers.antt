use Rattle.std.proofs.Common.{not, rules}
use Rattle.std.proofs.lemmas.Fn.{always_returns_same}
use Rattle.ev_apply.specs.Kinds.{covered}
use Rattle.ev_apply.proofs.Prefixes.{kept_free}
use Rattle.ev_apply.proofs.rows.drop_covered.Goals as goal

pub returns-then-not-is_empty-clause-rows : goal.returns-then-not-is_empty-clause-rows
returns-then-not-is_empty-clause-rows g c =
    c.keep.ensures.rows (λ row. not (covered g.P.Prefix.is_under c.args.prefixes.now.keys row.0)) (always_returns_same _ _ _ (λ a r f' called. search rules))

pub returns-else-not-is_empty-clause-rows : goal.returns-else-not-is_empty-clause-rows
returns-else-not-is_empty-clause-rows g c =
    kept_free g.P.Prefix.is_under c.args.prefixes.now.keys (c.is_empty.ensures.0 c.if-not-is_empty.false) c.args.rows.now.rows
