-- The distinct numbers that pass are those of the distinct messages that do.
use Rattle.std.proofs.Common.{◌≡◌, ◌∙◌, ℕ, filter, rules, ap}
use Rattle.std.specs.Ordering.{nat_cmp}
use Rattle.std.proofs.lemmas.Fn.{filter_same}
use Rattle.zr_types.specs.Commands.{differs, distinct}
use Rattle.cmd_marks.proofs.FlagLemmas.{message_of, numbers_in_order, numbers_of, passing_numbers}
use Rattle.cmd_marks.proofs.flagged.differing_numbers.Goals as goal

pub distinct-numbers-requires : goal.distinct-numbers-requires
distinct-numbers-requires c = numbers_in_order

pub returns : goal.returns
returns c =
    let test = differs c.args.realm.now.state.tables c.args.user c.args.flag c.args.add in
    let named : c.distinct-numbers.result.items ≡ distinct nat_cmp (numbers_of c.args.messages.now) = c.distinct-numbers.ensures ∙ ap (distinct nat_cmp) c.in_ok-named.ensures in
    c.from_vec.ensures
    ∙ filter_same _ (λ n. test (message_of n)) _ (λ a r f' called. search rules) _ _ c.retain.ensures.filtered
    ∙ ap (filter (λ (n : ℕ). test (message_of n))) named
    ∙ passing_numbers test c.args.messages.now
