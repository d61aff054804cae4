use Rattle.std.proofs.Common.{◌≡◌, ◌++◌, map}
use Rattle.form_urlencoded.specs.Parse.{owned_pairs_left}
use Rattle.hw_values.specs.Forms.{decoded, pairs_of}
use Rattle.hw_values.proofs.form.add_pairs.Given as goal

-- the pairs so far and those that are left are those before the loop and all of the form
abbrev pub invariant-loop-pair : goal.invariant-loop-pair
invariant-loop-pair l = record {
  same : l.pairs.items ++ map decoded (owned_pairs_left l.pair-iterator) ≡ l.fn.pairs.items ++ pairs_of l.form;
}
