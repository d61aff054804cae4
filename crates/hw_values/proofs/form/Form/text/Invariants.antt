use Rattle.std.proofs.Common.{◌≡◌, drop, option_map, None}
use Rattle.hw_values.specs.Forms.{latest}
use Rattle.hw_values.proofs.form.Form.text.Given as goal

-- the pairs that are left give, behind what was found, what all of them give
abbrev pub invariant-loop-pair : goal.invariant-loop-pair
invariant-loop-pair l = record {
  same : latest l.name (option_map (λ text. text.now) l.found) (drop l.pair-index l.self) ≡ latest l.name None l.self;
}
