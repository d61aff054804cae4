-- An accepted command makes no more rows than there may be.
use Rattle.std.proofs.Common.{◌≡◌, ◌∙◌, ◌+◌, ◌≤◌, Some, sym, ap, arith}
use Rattle.std.specs.Prelude.{option_map}
use Rattle.zr_types.specs.Effects.{made_by}
use Rattle.cmd_rules.proofs.CommitLemmas.{made_fits}
use Rattle.cmd_rules.proofs.commit.made_id.Goals as goal

pub overflow_cast-result : goal.overflow_cast-result
overflow_cast-result c =
    let made : made_by c.args.realm.now.state c.args.change.now.command ≡ Some (c.in-Some.before + 1) =
    sym c.rows_before.ensures ∙ ap (option_map (λ before. before + 1)) c.in-Some.is in
    let fits : c.in-Some.before + 1 ≤ 200000 = made_fits c.args.realm.now.state c.args.change.now c.requires c.in-Some.before made in
    omega (arith, fits)

pub overflow_add-result : goal.overflow_add-result
overflow_add-result c =
    let made : made_by c.args.realm.now.state c.args.change.now.command ≡ Some (c.in-Some.before + 1) =
    sym c.rows_before.ensures ∙ ap (option_map (λ before. before + 1)) c.in-Some.is in
    let fits : c.in-Some.before + 1 ≤ 200000 = made_fits c.args.realm.now.state c.args.change.now c.requires c.in-Some.before made in
    omega (arith, fits)
