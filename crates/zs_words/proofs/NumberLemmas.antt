-- The numbers and integers that words write, as `parse` reads them.
use Rattle.std.proofs.Common.{◌≡◌, ◌≢◌, ℕ, ◌+◌, ◌-◌, ◌*◌, ◌<◌, ◌^◌, true, List, [], ◌∷◌, ◌++◌, length, get_or, fold, Bor, Option, None, Some, Result, Ok, Err, MatchOption, ℤ, pos, neg_ℤ, FitsSigned, refl, sym, ap, ◌∙◌, subst, inl, inr, arith, rules}
use Rattle.std.specs.Int.{w64}
use Rattle.std.specs.List.{list_all}
use Rattle.std.specs.Result.{result_ok}
use Rattle.std.specs.Str.{IsUtf8}
use Rattle.std.specs.Str.Parse.{ParsesUnsigned, ParsesSigned}
use Rattle.std.proofs.lemmas.Bool.{and_parts, false≢true, cases_eq}
use Rattle.std.proofs.lemmas.Int.{ints}
use Rattle.std.proofs.lemmas.Bool.Decides.{nat_tests}
use Rattle.std.proofs.lemmas.List.Sums.{AllPass-from_list_all}
use Rattle.std.proofs.lemmas.Str.{IsUtf8-from_ascii, IsAscii-append}
use Rattle.std.proofs.lemmas.Str.Ascii.{IsAscii-from_all, IsAscii-cons}
use Rattle.std.specs.Str.{IsAscii}
use Rattle.std.proofs.lemmas.Str.Pattern.{IsSplitOnceResult, split_after}
use Rattle.std.proofs.lemmas.Str.Parse.{IsDigitsTest, IsNumeralModel, numerals_by_fold, parse_plain, parse_signed_minus, parse_signed_plain}
use Rattle.ev_base.specs.declared.ids.QueueId.{QueueId}
use Rattle.zs_words.specs.Numbers.{IsNumber, IsInteger, IsId, IsUser, IsQueue, is_digit, value_of_digits}

digits_test : IsDigitsTest (λ digits. list_all is_digit digits ≡ true)
digits_test = search rules

-- the digits and the value of the grammar are those of `parse`
digits_model : IsNumeralModel (λ digits. list_all is_digit digits ≡ true) value_of_digits
digits_model =
    numerals_by_fold _ digits_test (λ start digits. fold (λ value digit. value * 10 + (digit - 48)) start digits) (search rules)

first_digit : (word : List ℕ) (number : ℕ) → IsNumber word number → is_digit (get_or word 0 0) ≡ true
first_digit [] number is = absurd (omega (arith, is.0))
first_digit (first ∷ rest) number is = (and_parts (is_digit first) (list_all is_digit rest) is.1).0

-- a word that begins with + writes no number
pub plus_is_no_number : (word : List ℕ) → get_or word 0 0 ≡ 43 → (number : ℕ) → IsNumber word number → ⊥
plus_is_no_number word plus number is = false≢true (ap is_digit (sym plus) ∙ first_digit word number is)

-- a word that begins with + writes no integer
pub plus_is_no_integer : (word : List ℕ) → get_or word 0 0 ≡ 43 → (integer : ℤ) → IsInteger word integer → ⊥
plus_is_no_integer [] plus integer is = absurd is
plus_is_no_integer (first ∷ rest) plus integer (inl is) = plus_is_no_number (first ∷ rest) plus is.0 is.1
plus_is_no_integer (first ∷ rest) plus integer (inr is) = absurd (omega (arith, is.1))

-- what `parse` reads of a word without + is the number that the word writes
pub number_read : {E : Type 0} (word : List ℕ) (read : Result ℕ E) → ParsesUnsigned 64 10 word read → get_or word 0 0 ≢ 43 → MatchOption (result_ok read) ((number : ℕ) → IsNumber word number × (number < 2 ^ 64) → ⊥) (λ number. IsNumber word number × (number < 2 ^ 64))
number_read {E} word (Ok number) parses plain =
    let is = parse_plain digits_model {E = E} 64 word (Ok number) parses plain in
    ((is.0.1, is.0.0, sym is.1), omega (arith, is.0.2, is.1))
number_read {E} word (Err error) parses plain =
    let not = parse_plain digits_model {E = E} 64 word (Err error) parses plain in
    λ number is. not (is.0.1, is.0.0, omega (arith, is.0.2, is.1))

minus_read : {E : Type 0} (first : ℕ) (rest : List ℕ) (read : Result ℤ E) → ParsesSigned w64 10 (first ∷ rest) read → first ≡ 45 → MatchOption (result_ok read) ((integer : ℤ) → IsInteger (first ∷ rest) integer × FitsSigned w64 integer → ⊥) (λ integer. IsInteger (first ∷ rest) integer × FitsSigned w64 integer)
minus_read {E} first rest (Ok integer) parses minus =
    let is = parse_signed_minus digits_model {E = E} w64 (first ∷ rest) (Ok integer) parses minus in
    let value = value_of_digits rest in
    let fits : FitsSigned w64 (neg_ℤ (pos value)) = omega (arith, ints, is.0.2) in
    let P : ℤ → Type 0 = λ z. FitsSigned w64 z in
    (inr (value, minus, (is.0.1, is.0.0, refl), is.1), subst P (sym is.1) fits)
minus_read {E} first rest (Err error) parses minus =
    let not = parse_signed_minus digits_model {E = E} w64 (first ∷ rest) (Err error) parses minus in
    λ integer both. let fits : FitsSigned w64 integer = both.1 in elim both.0 [
      | inl number ↦ false≢true (ap is_digit (sym minus) ∙ first_digit (first ∷ rest) number.0 number.1)
      | inr number ↦ let P : ℤ → Type 0 = λ z. FitsSigned w64 z in
          let small : FitsSigned w64 (neg_ℤ (pos number.0)) = subst P number.3 fits in
          not (number.2.1, number.2.0, omega (arith, ints, number.2.2))
    ]

plain_read : {E : Type 0} (first : ℕ) (rest : List ℕ) (read : Result ℤ E) → ParsesSigned w64 10 (first ∷ rest) read → first ≢ 43 → first ≢ 45 → MatchOption (result_ok read) ((integer : ℤ) → IsInteger (first ∷ rest) integer × FitsSigned w64 integer → ⊥) (λ integer. IsInteger (first ∷ rest) integer × FitsSigned w64 integer)
plain_read {E} first rest (Ok integer) parses plain other =
    let is = parse_signed_plain digits_model {E = E} w64 (first ∷ rest) (Ok integer) parses plain other in
    let value = value_of_digits (first ∷ rest) in
    let fits : FitsSigned w64 (pos value) = omega (arith, ints, is.0.2) in
    let P : ℤ → Type 0 = λ z. FitsSigned w64 z in
    (inl (value, (is.0.1, is.0.0, refl), is.1), subst P (sym is.1) fits)
plain_read {E} first rest (Err error) parses plain other =
    let not = parse_signed_plain digits_model {E = E} w64 (first ∷ rest) (Err error) parses plain other in
    λ integer both. let fits : FitsSigned w64 integer = both.1 in elim both.0 [
      | inl number ↦ let P : ℤ → Type 0 = λ z. FitsSigned w64 z in
          let small : FitsSigned w64 (pos number.0) = subst P number.2 fits in
          not (number.1.1, number.1.0, omega (arith, ints, number.1.2))
      | inr number ↦ other number.1
    ]

-- what `parse` reads of a word without + is the integer that the word writes
pub integer_read : {E : Type 0} (word : List ℕ) (read : Result ℤ E) → ParsesSigned w64 10 word read → get_or word 0 0 ≢ 43 → MatchOption (result_ok read) ((integer : ℤ) → IsInteger word integer × FitsSigned w64 integer → ⊥) (λ integer. IsInteger word integer × FitsSigned w64 integer)
integer_read {E} [] (Ok integer) parses plain =
    let is = parse_signed_plain digits_model {E = E} w64 [] (Ok integer) parses plain (λ same. omega arith) in
    absurd (omega (arith, is.0.1))
integer_read {E} [] (Err error) parses plain = λ integer is. is.0
integer_read {E} (first ∷ rest) read parses plain =
    elim (cases_eq first 45) [
      | inl minus ↦ minus_read first rest read parses minus
      | inr other ↦ plain_read first rest read parses plain other
    ]

ascii_digit : (byte : ℕ) → is_digit byte ≡ true → byte < 128
ascii_digit byte is = grind (arith, nat_tests)

digits_ascii : (word : List ℕ) → list_all is_digit word ≡ true → IsAscii word
digits_ascii word each = IsAscii-from_all word (λ k byte within. ascii_digit _ (AllPass-from_list_all is_digit word each k byte within))

-- a word that writes a number is UTF-8
pub number_utf8 : (word : List ℕ) (number : ℕ) → IsNumber word number → IsUtf8 word
number_utf8 word number is = IsUtf8-from_ascii word (digits_ascii word is.1)

-- a word that writes an integer is UTF-8
pub integer_utf8 : (word : List ℕ) (integer : ℤ) → IsInteger word integer → IsUtf8 word
integer_utf8 [] integer is = absurd is
integer_utf8 (first ∷ rest) integer (inl is) = number_utf8 (first ∷ rest) is.0 is.1
integer_utf8 (first ∷ rest) integer (inr is) =
    IsUtf8-from_ascii (first ∷ rest) (IsAscii-cons first rest (omega (arith, is.1)) (digits_ascii rest is.2.1))

-- a word that writes a queue is UTF-8
pub queue_utf8 : (word : List ℕ) (queue : QueueId) → IsQueue word queue → IsUtf8 word
queue_utf8 word queue is =
    let P : List ℕ → Type 0 = λ w. IsUtf8 w in
    let owner = digits_ascii is.0 is.3.0.1 in
    let rest = IsAscii-cons 46 is.1 (omega arith) (digits_ascii is.1 is.4.0.1) in
    subst P (sym is.2) (IsUtf8-from_ascii (is.0 ++ (46 ∷ is.1)) (IsAscii-append is.0 (46 ∷ is.1) owner rest))

no_stop : (digits : List ℕ) → list_all is_digit digits ≡ true → (i : ℕ) → i < length digits → get_or digits i 0 ≢ 46
no_stop digits each i within stop =
    false≢true (ap is_digit (sym stop) ∙ AllPass-from_list_all is_digit digits each i 0 within)

-- a word that writes a queue is cut between its user and its number
pub queue_cut : (word : List ℕ) (cut : Option (Bor (List ℕ) × Bor (List ℕ))) → IsSplitOnceResult 46 word cut → (queue : QueueId) → IsQueue word queue → MatchOption cut ⊥ (λ parts. IsUser parts.0.now queue.user × IsId parts.1.now queue.number)
queue_cut word None is queue written =
    split_after 46 word written.0 written.1 None is (omega arith) written.2 (no_stop written.0 written.3.0.1)
queue_cut word (Some parts) is queue written =
    let same = split_after 46 word written.0 written.1 (Some parts) is (omega arith) written.2 (no_stop written.0 written.3.0.1) in
    let P : List ℕ → Type 0 = λ w. IsUser w queue.user in
    let Q : List ℕ → Type 0 = λ w. IsId w queue.number in
    (subst P (sym same.0) written.3, subst Q (sym same.1) written.4)
