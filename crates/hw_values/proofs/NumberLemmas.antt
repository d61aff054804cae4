-- The numbers that digits spell, from what is read of a text.
use Rattle.std.proofs.Common.{◌≡◌, ℕ, ◌≤◌, ◌<◌, ◌^◌, Bool, true, false, cond, nat_le, nat_lt, List, length, None, Some, refl, sym, ap, ◌∙◌, subst, arith}
use Rattle.std.specs.List.{list_all}
use Rattle.std.proofs.lemmas.Bool.{and_parts, and_from, cond-true, cond-false}
use Rattle.std.proofs.lemmas.Bool.Decides.{nat_tests}
use Rattle.zs_words.specs.Numbers.{IsNumber, is_digit, value_of_digits}
use Rattle.hw_values.specs.Numbers.{is_number, number_of}

-- the parts of the test
record Parts (most limit : ℕ) (text : List ℕ) : Type 0 where
  short : length text ≤ most
  number : IsNumber text (value_of_digits text)
  below : value_of_digits text < limit

parts_of : (most limit : ℕ) (text : List ℕ) → is_number most limit text ≡ true → Parts most limit text
parts_of most limit text is =
    let one = and_parts (nat_le (length text) most) _ is in
    let two = and_parts (nat_le 1 (length text)) _ one.1 in
    let three = and_parts (list_all is_digit text) (nat_lt (value_of_digits text) limit) two.1 in
    record {
      short = grind (arith, nat_tests, one.0);
      number = (grind (arith, nat_tests, two.0), three.0, refl);
      below = grind (arith, nat_tests, three.1);
    }

passes : (most limit : ℕ) (text : List ℕ) → length text ≤ most → IsNumber text (value_of_digits text) → value_of_digits text < limit → is_number most limit text ≡ true
passes most limit text short number below =
    let short_test : nat_le (length text) most ≡ true = grind (arith, nat_tests, short) in
    let some_test : nat_le 1 (length text) ≡ true = grind (arith, nat_tests, number.0) in
    let below_test : nat_lt (value_of_digits text) limit ≡ true = grind (arith, nat_tests, below) in
    and_from _ _ short_test (and_from _ _ some_test (and_from _ _ number.1 below_test))

none : (most limit : ℕ) (text : List ℕ) → (Parts most limit text → ⊥) → None ≡ number_of most limit text
unfolding number_of
none most limit text not = go (is_number most limit text) refl
  where
    go : (test : Bool) → is_number most limit text ≡ test → None ≡ cond (is_number most limit text) (Some (value_of_digits text)) None
    go true is = absurd (not (parts_of most limit text is))
    go false is = sym (cond-false (is_number most limit text) (Some (value_of_digits text)) None is)

pub too_long : (most limit : ℕ) (text : List ℕ) → most < length text → None ≡ number_of most limit text
too_long most limit text long = none most limit text (λ parts. omega (arith, long, parts.short))

pub no_number : (most limit : ℕ) (text : List ℕ) → limit ≤ 2 ^ 64 → ((number : ℕ) → IsNumber text number × (number < 2 ^ 64) → ⊥) → None ≡ number_of most limit text
no_number most limit text small not =
    none most limit text (λ parts. not (value_of_digits text) (parts.number, omega (arith, small, parts.below)))

pub too_great : (most limit : ℕ) (text : List ℕ) (number : ℕ) → IsNumber text number → (number < limit → ⊥) → None ≡ number_of most limit text
too_great most limit text number is great =
    let P : ℕ → Type 0 = λ value. value < limit in
    none most limit text (λ parts. great (subst P is.2 parts.below))

pub found : (most limit : ℕ) (text : List ℕ) (number : ℕ) → (most < length text → ⊥) → IsNumber text number → number < limit → Some number ≡ number_of most limit text
unfolding number_of
found most limit text number short is below =
    let P : ℕ → Type 0 = λ value. value < limit in
    let test = passes most limit text (omega (arith, short)) (is.0, is.1, refl) (subst P (sym is.2) below) in
    sym (cond-true (is_number most limit text) (Some (value_of_digits text)) None test ∙ ap Some is.2)
