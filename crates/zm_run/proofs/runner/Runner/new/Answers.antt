use Rattle.std.proofs.Common.{◌≡◌, [], true, length, refl, sym, subst}
use Rattle.zs_script.specs.declared.step.Setting.{Setting}
use Rattle.zm_run.specs.Running.{Represents}
use Rattle.zm_run.proofs.Told.{represents_at_first}
use Rattle.zm_run.proofs.runner.Runner.new.Goals as goal

pub returns : goal.returns
returns c =
    let player = c.in_ok-new.field-0 in
    let none = c.new-2.ensures.items in
    let setting : Setting = record { shards = length player.world.shards; is_first = true } in
    let left : setting ≡ record { shards = 1; is_first = true } = λ i. record { shards = c.in_ok-new.ensures.shards i; is_first = true } in
    let represents = represents_at_first player setting c.in_ok-new.ensures.follows left in
    (record { represents = subst (λ t. Represents player setting [] t) (sym none) represents; counted = refl; good = tt }, none)
