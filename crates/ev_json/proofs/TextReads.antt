-- The compact text of a value without floats, whose keys rise, reads as that value.
use Rattle.std.proofs.Common.{ℕ, Greater, ◌≡◌, ◌≤◌, pos, negsuc, suc, max, List, [], Option, Some, option_map, refl, sym, ap, ap₂, subst, ◌∙◌, arith, append-nil}
use Rattle.std.proofs.lemmas.Cmp.{nat_list_cmp_total}
use Rattle.std.specs.Prelude.{⊤, option_and_then}
use Rattle.std.specs.Ordering.{nat_cmp, ordering_reverse}
use Rattle.std.specs.Cmp.Lexicographic.{slice_cmp}
use Rattle.json.specs.Json as json
use Rattle.json.specs.Tree as tree
use Rattle.json.specs.Lex.{tokens}
use Rattle.json.specs.Token.{Token}
use Rattle.json.specs.Print.{IsNumber}
use Rattle.json.proofs.Printed.Trees.{ArePrintable-json_tokens, value-json_tokens}
use Rattle.json.proofs.Printed.Tokens.{tokens-print}
use Rattle.json.proofs.Printed.Decimals.{IsNumber-decimal, IsNumber-signed_decimal}
use Rattle.serde_json.specs.Data.{Num, unsigned, negative, float, Data, null, boolean, number, string, array, object, Items, no_items, item, Members, no_members, member, put, depth, items_depth, members_depth}
use Rattle.serde_json.specs.Read.{number_of, of_json, of_items, of_members, read, max_depth}
use Rattle.serde_json.specs.Written.{compact_text, outline, items_outline, members_outline, number_text}
use Rattle.serde_json.proofs.Numbers.{number_of-decimal, number_of-negative}
use Rattle.serde_json.proofs.Texts.{print-outline}
use Rattle.ev_json.specs.Plain.{IsPlainNumber, IsBelowKeys, KeysRise, IsPlain, ArePlain, MembersArePlain}

-- putting the members one after another into those found gives these
abbrev joined : Members → Members → Members
joined no_members found = found
joined (member k d ms) found = joined ms (put k d found)

-- the members of one after those of the other
abbrev followed_by : Members → Members → Members
followed_by no_members later = later
followed_by (member k d ms) later = member k d (followed_by ms later)

-- the key is above those of all the members
abbrev IsAboveKeys : List ℕ → Members → Type 0
IsAboveKeys key no_members = ⊤
IsAboveKeys key (member other d ms) = (slice_cmp nat_cmp key other ≡ Greater) × IsAboveKeys key ms

-- all keys of the first are above those of the others
abbrev AreAboveKeys : Members → Members → Type 0
AreAboveKeys no_members found = ⊤
AreAboveKeys (member key d ms) found = IsAboveKeys key found × AreAboveKeys ms found

followed_by-none : (ms : Members) → followed_by ms no_members ≡ ms
followed_by-none no_members = refl
followed_by-none (member k d ms) = ap (member k d) (followed_by-none ms)

followed_by-one : (found : Members) (k : List ℕ) (d : Data) (ms : Members) → followed_by (followed_by found (member k d no_members)) ms ≡ followed_by found (member k d ms)
followed_by-one no_members k d ms = refl
followed_by-one (member l e found) k d ms = ap (member l e) (followed_by-one found k d ms)

put_last : (k : List ℕ) (d : Data) (found : Members) → IsAboveKeys k found → put k d found ≡ followed_by found (member k d no_members)
put_last k d no_members above = refl
put_last k d (member l e found) above = rw above.0 (ap (member l e) (put_last k d found above.1))

above_one_more : (key k : List ℕ) (d : Data) (found : Members) → IsAboveKeys key found → slice_cmp nat_cmp key k ≡ Greater → IsAboveKeys key (followed_by found (member k d no_members))
above_one_more key k d no_members above one = (one, tt)
above_one_more key k d (member l e found) above one = (above.0, above_one_more key k d found above.1 one)

all_above_one_more : (k : List ℕ) (d : Data) (found ms : Members) → AreAboveKeys ms found → IsBelowKeys k ms → AreAboveKeys ms (followed_by found (member k d no_members))
all_above_one_more k d found no_members above below = tt
all_above_one_more k d found (member key e ms) above below =
    (above_one_more key k d found above.0 (nat_list_cmp_total.antisymm key k ∙ ap ordering_reverse below.0), all_above_one_more k d found ms above.1 below.1)

joined_behind : (ms found : Members) → KeysRise ms → AreAboveKeys ms found → joined ms found ≡ followed_by found ms
joined_behind no_members found rise above = sym (followed_by-none found)
joined_behind (member k d ms) found rise above =
    ap (joined ms) (put_last k d found above.0)
    ∙ joined_behind ms (followed_by found (member k d no_members)) rise.1 (all_above_one_more k d found ms above.1 rise.0)
    ∙ followed_by-one found k d ms

above_none : (ms : Members) → AreAboveKeys ms no_members
above_none no_members = tt
above_none (member k d ms) = (tt, above_none ms)

joined-rise : (ms : Members) → KeysRise ms → joined ms no_members ≡ ms
joined-rise ms rise = joined_behind ms no_members rise (above_none ms)

number_again : (n : Num) → IsPlainNumber n → number_of (number_text n) ≡ Some n
number_again (unsigned n) h = number_of-decimal n h
number_again (negative (negsuc n)) h = number_of-negative n h
number_again (negative (pos _)) h = elim h [ ]
number_again (float _) h = elim h [ ]

number_is : (n : Num) → IsPlainNumber n → IsNumber (number_text n)
number_is (unsigned n) h = IsNumber-decimal n h
number_is (negative (negsuc n)) h = IsNumber-signed_decimal (negsuc n) (omega (arith, h))
number_is (negative (pos _)) h = elim h [ ]
number_is (float _) h = elim h [ ]

mutual
  plain_again : (d : Data) → IsPlain d → of_json (outline d) ≡ Some d
  plain_again null h = refl
  plain_again (boolean b) h = refl
  plain_again (number n) h = ap (option_map number) (number_again n h)
  plain_again (string s) h = refl
  plain_again (array ds) h = ap (option_map array) (items_again ds h)
  plain_again (object ms) h = ap (option_map object) (members_again ms no_members h.0 ∙ ap Some (joined-rise ms h.1))

  items_again : (ds : Items) → ArePlain ds → of_items (items_outline ds) ≡ Some ds
  items_again no_items h = refl
  items_again (item d ds) h = rw (plain_again d h.0, items_again ds h.1) refl

  members_again : (ms found : Members) → MembersArePlain ms → of_members (members_outline ms) found ≡ Some (joined ms found)
  members_again no_members found h = refl
  members_again (member k d ms) found h = rw (plain_again d h.0.1) (members_again ms (put k d found) h.1)

mutual
  numbers_are : (d : Data) → IsPlain d → tree.HasNumbers (outline d)
  numbers_are null h = tt
  numbers_are (boolean b) h = tt
  numbers_are (number n) h = number_is n h
  numbers_are (string s) h = tt
  numbers_are (array ds) h = items_are ds h
  numbers_are (object ms) h = members_are ms h.0

  items_are : (ds : Items) → ArePlain ds → tree.ItemsHaveNumbers (items_outline ds)
  items_are no_items h = tt
  items_are (item d ds) h = (numbers_are d h.0, items_are ds h.1)

  members_are : (ms : Members) → MembersArePlain ms → tree.MembersHaveNumbers (members_outline ms)
  members_are no_members h = tt
  members_are (member k d ms) h = (numbers_are d h.0.1, members_are ms h.1)

mutual
  depth_same : (d : Data) → tree.depth (outline d) ≡ depth d
  depth_same null = refl
  depth_same (boolean b) = refl
  depth_same (number n) = refl
  depth_same (string s) = refl
  depth_same (array ds) = ap suc (items_depth_same ds)
  depth_same (object ms) = ap suc (members_depth_same ms)

  items_depth_same : (ds : Items) → tree.items_depth (items_outline ds) ≡ items_depth ds
  items_depth_same no_items = refl
  items_depth_same (item d ds) = ap₂ max (depth_same d) (items_depth_same ds)

  members_depth_same : (ms : Members) → tree.members_depth (members_outline ms) ≡ members_depth ms
  members_depth_same no_members = refl
  members_depth_same (member k d ms) = ap₂ max (depth_same d) (members_depth_same ms)

abbrev whole : Option (json.Json × List Token) → Option Data
whole o = option_and_then of_json (option_and_then (λ p. json.if_last p.0 p.1) o)

-- the text reads as the value
pub text_again : (d : Data) → IsPlain d → depth d ≤ 127 → read (compact_text d) ≡ Some d
text_again d plain shallow =
    let j = outline d in
    let printed : tokens (compact_text d) ≡ tree.json_tokens j =
    subst (λ t. tokens t ≡ tree.json_tokens j) (print-outline d)
    (tokens-print (tree.json_tokens j) (ArePrintable-json_tokens j (numbers_are d plain))) in
    ap whole (ap (json.value max_depth) (printed ∙ sym (append-nil _)) ∙ value-json_tokens j max_depth [] (omega (arith, depth_same d, shallow)))
    ∙ plain_again d plain
