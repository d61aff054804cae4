-- What words stand for: byte by byte, and by the characters in UTF-8.
use Rattle.std.proofs.Common.{◌≡◌, ◌≢◌, ℕ, ◌+◌, ◌*◌, ◌<◌, ◌≤◌, Bool, true, false, ◌&&◌, ◌==◌, List, [], ◌∷◌, ◌++◌, length, take, Option, None, Some, option_map, IsUtf8, refl, sym, ap, ◌∙◌, subst, inl, inr, ◌⊎◌, ◌↔◌, arith}
use Rattle.std.specs.Char.{digit_value}
use Rattle.std.specs.Str.{encode_utf8_all, all_scalars}
use Rattle.std.proofs.Math.Utf8.{encode}
use Rattle.std.proofs.lemmas.Bool.{cond-true, cond-false, false≢true, and_from, and_parts, cases_lt}
use Rattle.std.proofs.lemmas.Bool.Decides.{nat_tests}
use Rattle.std.proofs.lemmas.List.{append-nil, append_assoc, take-append-le, take_all, take_at, length-append}
use Rattle.std.proofs.lemmas.Str.{IsUtf8-nil, IsUtf8-append, IsUtf8-encode, IsUtf8-past_char, length-encode, len_utf8_bounds}
use Rattle.zs_words.specs.Texts.{decoded, with_escape, is_hexadecimal, DecodesToUtf8}
use Rattle.zs_words.specs.TextParts.{BeginsWith, NoCharBegins}

not_percent : (byte : ℕ) → byte ≢ 37 → (byte == 37) ≡ false
not_percent byte other = grind (arith, nat_tests)

decoded_byte : (byte : ℕ) (rest : List ℕ) → byte ≢ 37 → decoded (byte ∷ rest) ≡ option_map (λ bytes. byte ∷ bytes) (decoded rest)
unfolding decoded
decoded_byte byte [] other = cond-false _ _ _ (not_percent byte other)
decoded_byte byte (next ∷ []) other = cond-false _ _ _ (not_percent byte other)
decoded_byte byte (next ∷ third ∷ rest) other = cond-false _ _ _ (not_percent byte other) ∙ cond-false _ _ _ (not_percent byte other)

decoded_escape : (high low : ℕ) (rest : List ℕ) → decoded (37 ∷ high ∷ low ∷ rest) ≡ with_escape high low (decoded rest)
unfolding decoded
decoded_escape high low rest = refl

pub decoded_none : decoded (37 ∷ []) ≡ None
unfolding decoded
decoded_none = refl

pub decoded_alone : (byte : ℕ) → decoded (37 ∷ byte ∷ []) ≡ None
unfolding decoded
decoded_alone byte = refl

pub decoded_nil : decoded [] ≡ Some []
unfolding decoded
decoded_nil = refl

and_not_left : (a b : Bool) → a ≡ false → (a && b) ≡ false
and_not_left true b is = absurd (false≢true (sym is))
and_not_left false b is = refl

and_not_right : (a b : Bool) → b ≡ false → (a && b) ≡ false
and_not_right true b is = is
and_not_right false b is = refl

pub no_high : (high low : ℕ) (rest : List ℕ) → is_hexadecimal high ≡ false → decoded (37 ∷ high ∷ low ∷ rest) ≡ None
no_high high low rest bad = decoded_escape high low rest ∙ cond-false _ _ _ (and_not_left (is_hexadecimal high) (is_hexadecimal low) bad)

pub no_low : (high low : ℕ) (rest : List ℕ) → is_hexadecimal low ≡ false → decoded (37 ∷ high ∷ low ∷ rest) ≡ None
no_low high low rest bad = decoded_escape high low rest ∙ cond-false _ _ _ (and_not_right (is_hexadecimal high) (is_hexadecimal low) bad)

-- a word begins with a byte that stands for itself
pub begins_byte : (word rest : List ℕ) (byte : ℕ) → word ≡ byte ∷ rest → byte ≢ 37 → BeginsWith word (byte ∷ []) rest
begins_byte word rest byte is other = record {
  stands = ap decoded is ∙ decoded_byte byte rest other;
  shorter = omega (arith, ap length is);
}

-- a word begins with an escape
pub begins_escape : (word rest : List ℕ) (high low byte : ℕ) → word ≡ 37 ∷ high ∷ low ∷ rest → is_hexadecimal high ≡ true → is_hexadecimal low ≡ true → byte ≡ 16 * digit_value high + digit_value low → BeginsWith word (byte ∷ []) rest
begins_escape word rest high low byte is is_high is_low value =
    let P : ℕ → Type 0 = λ first. decoded word ≡ option_map (λ bytes. first ∷ bytes) (decoded rest) in
    let stands : P (16 * digit_value high + digit_value low) = ap decoded is ∙ (decoded_escape high low rest ∙ cond-true _ _ _ (and_from (is_hexadecimal high) (is_hexadecimal low) is_high is_low)) in
    record {
      stands = subst P (sym value) stands;
      shorter = omega (arith, ap length is);
    }

map_nothing : (o : Option (List ℕ)) → o ≡ option_map (λ more. [] ++ more) o
map_nothing None = refl
map_nothing (Some more) = refl

-- every word begins with nothing
pub begins_here : (word : List ℕ) → BeginsWith word [] word
begins_here word = record { stands = map_nothing (decoded word); shorter = omega arith }

map_twice : (front bytes : List ℕ) (o : Option (List ℕ)) → option_map (λ more. front ++ more) (option_map (λ more. bytes ++ more) o) ≡ option_map (λ more. (front ++ bytes) ++ more) o
map_twice front bytes None = refl
map_twice front bytes (Some more) = ap Some (sym (append_assoc front bytes more))

-- what a word begins with, and then what the rest begins with
pub begins_more : (word front rest bytes last : List ℕ) → BeginsWith word front rest → BeginsWith rest bytes last → BeginsWith word (front ++ bytes) last
begins_more word front rest bytes last first then_ = record {
  stands = first.stands ∙ (ap (option_map (λ more. front ++ more)) then_.stands ∙ map_twice front bytes (decoded last));
  shorter = omega (arith, first.shorter, then_.shorter, length-append front bytes);
}

-- a word that is read to its end stands for what was read
pub read_whole : (word bytes rest : List ℕ) → BeginsWith word bytes rest → rest ≡ [] → decoded word ≡ Some bytes
read_whole word bytes rest begins ends =
    begins.stands ∙ (ap (λ word. option_map (λ more. bytes ++ more) (decoded word)) ends
    ∙ (ap (option_map (λ more. bytes ++ more)) decoded_nil ∙ ap Some (append-nil bytes)))

-- nor does a word stand for anything where its rest doesn't
pub read_nothing : (word bytes rest : List ℕ) → BeginsWith word bytes rest → decoded rest ≡ None → decoded word ≡ None
read_nothing word bytes rest begins none = begins.stands ∙ ap (option_map (λ more. bytes ++ more)) none

map_some : (bytes : List ℕ) (o : Option (List ℕ)) (text : List ℕ) → option_map (λ more. bytes ++ more) o ≡ Some text → (more : List ℕ) × (o ≡ Some more) × (bytes ++ more ≡ text)
map_some bytes None text is = absurd (cc)
map_some bytes (Some more) text is = (more, refl, cc)

behind_chars : (chars : List ℕ) (behind text : List ℕ) → encode_utf8_all chars ++ behind ≡ text → IsUtf8 text → IsUtf8 behind
behind_chars [] behind text is utf8 = subst IsUtf8 (sym is) utf8
behind_chars (char ∷ chars) behind text is utf8 =
    let rest = encode_utf8_all chars ++ behind in
    behind_chars chars behind rest refl (IsUtf8-past_char text rest char utf8 (sym is ∙ append_assoc (encode char) (encode_utf8_all chars) behind))

-- what follows UTF-8 in UTF-8 is UTF-8
utf8_behind : (front behind : List ℕ) → IsUtf8 front → IsUtf8 (front ++ behind) → IsUtf8 behind
utf8_behind front behind first whole =
    behind_chars first.0 behind (front ++ behind) (ap (λ bytes. bytes ++ behind) first.1.1) whole

-- a word that begins with UTF-8 decodes to UTF-8 just where its rest does
pub utf8_step : (word text rest : List ℕ) → IsUtf8 text → BeginsWith word text rest → DecodesToUtf8 word ↔ DecodesToUtf8 rest
utf8_step word text rest utf8 begins = (
  λ is. let more = map_some text (decoded rest) is.0 (sym begins.stands ∙ is.1) in
      (more.0, more.1, utf8_behind text more.0 utf8 (subst IsUtf8 (sym more.2) is.2)),
  λ is. (text ++ is.0, begins.stands ∙ ap (option_map (λ more. text ++ more)) is.1, IsUtf8-append text is.0 utf8 is.2),
)

pub utf8_ended : (word : List ℕ) → word ≡ [] → DecodesToUtf8 word
utf8_ended word ends = ([], ap decoded ends ∙ decoded_nil, IsUtf8-nil)

char_first : (chars text : List ℕ) → all_scalars chars ≡ true → encode_utf8_all chars ≡ text → 0 < length text → (k : ℕ) × (1 ≤ k) × (k ≤ 4) × (k ≤ length text) × IsUtf8 (take k text)
char_first [] text scalars is some = absurd (omega (arith, ap length is))
char_first (char ∷ chars) text scalars is some =
    let k = length (encode char) in
    let bounds = len_utf8_bounds char in
    let long = length-encode char in
    let low : 1 ≤ k = omega arith in
    let high : k ≤ 4 = omega arith in
    let within : k ≤ length text = omega (arith, ap length is, length-append (encode char) (encode_utf8_all chars)) in
    let begins : take k text ≡ encode char = ap (take k) (sym is) ∙ take_at (encode char) (encode_utf8_all chars) k refl in
    (k, low, high, within, subst IsUtf8 (sym begins) (IsUtf8-encode char (and_parts _ (all_scalars chars) scalars).0))

pub no_char_none : NoCharBegins []
no_char_none = record { none = λ k low high utf8. absurd (omega arith) }

pub no_char_more : (bytes : List ℕ) (byte : ℕ) → NoCharBegins bytes → (IsUtf8 (bytes ++ byte ∷ []) → ⊥) → NoCharBegins (bytes ++ byte ∷ [])
no_char_more bytes byte before not = record {
  none = λ k low high utf8. elim (cases_lt (length bytes) k) [
    | inl past ↦ not (subst IsUtf8 (take_all k (bytes ++ byte ∷ []) (omega (arith, length-append bytes (byte ∷ [])))) utf8)
    | inr within ↦ before.none k low within (subst IsUtf8 (take-append-le k bytes (byte ∷ []) within) utf8)
  ];
}

-- no text in UTF-8 begins with these bytes, where they are four or are all of it
no_utf8 : (bytes more : List ℕ) → NoCharBegins bytes → 0 < length bytes → (4 ≤ length bytes) ⊎ (length more ≡ 0) → IsUtf8 (bytes ++ more) → ⊥
no_utf8 bytes more not some enough utf8 =
    let long = length-append bytes more in
    let char = char_first utf8.0 (bytes ++ more) utf8.1.0 utf8.1.1 (omega arith) in
    let within : char.0 ≤ length bytes = elim enough [ inl four ↦ omega (arith, char.2) | inr none ↦ omega (arith, char.3) ] in
    not.none char.0 char.1 within (subst IsUtf8 (take-append-le char.0 bytes more within) char.4)

-- four bytes of which no first ones are a character
pub four_bytes : (word bytes rest : List ℕ) → BeginsWith word bytes rest → NoCharBegins bytes → 4 ≤ length bytes → DecodesToUtf8 word → ⊥
four_bytes word bytes rest begins not four is =
    let more = map_some bytes (decoded rest) is.0 (sym begins.stands ∙ is.1) in
    no_utf8 bytes more.0 not (omega arith) (inl four) (subst IsUtf8 (sym more.2) is.2)

-- all bytes, of which no first ones are a character, or a rest that stands for nothing
pub cut_short : (word bytes rest : List ℕ) → BeginsWith word bytes rest → NoCharBegins bytes → 0 < length rest + length bytes → (rest ≡ []) ⊎ (decoded rest ≡ None) → DecodesToUtf8 word → ⊥
cut_short word bytes rest begins not some (inl ends) is =
    let more = map_some bytes (decoded rest) is.0 (sym begins.stands ∙ is.1) in
    let empty : Some [] ≡ Some more.0 = sym decoded_nil ∙ (sym (ap decoded ends) ∙ more.1) in
    let none : [] ≡ more.0 = cc in
    no_utf8 bytes more.0 not (omega (arith, ap length ends)) (inr (sym (ap length none))) (subst IsUtf8 (sym more.2) is.2)
cut_short word bytes rest begins not some (inr none) is =
    let nothing : None ≡ Some is.0 = sym (read_nothing word bytes rest begins none) ∙ is.1 in
    absurd (cc)

-- nothing stands behind a %, or one byte alone
pub no_digits : (digits : List ℕ) → length digits ≡ 0 → decoded (37 ∷ digits) ≡ None
no_digits [] none = decoded_none
no_digits (byte ∷ rest) none = absurd (omega arith)

pub one_digit : (digits after : List ℕ) (high : ℕ) → digits ≡ high ∷ after → length after ≡ 0 → decoded (37 ∷ digits) ≡ None
one_digit digits [] high is none = ap (λ rest. decoded (37 ∷ rest)) is ∙ decoded_alone high
one_digit digits (byte ∷ rest) high is none = absurd (omega arith)

-- a % with two bytes behind it
pub escape_is : (digits after rest : List ℕ) (high low : ℕ) → digits ≡ high ∷ after → after ≡ low ∷ rest → 37 ∷ digits ≡ 37 ∷ high ∷ low ∷ rest
escape_is digits after rest high low is behind = ap (λ bytes. 37 ∷ bytes) (is ∙ ap (λ bytes. high ∷ bytes) behind)

pub read_end : (word bytes rest all : List ℕ) → BeginsWith word bytes rest → (rest ≡ []) ⊎ (decoded rest ≡ None) → decoded word ≡ Some all → decoded word ≡ Some bytes
read_end word bytes rest all begins (inl ends) is = read_whole word bytes rest begins ends
read_end word bytes rest all begins (inr none) is =
    let nothing : None ≡ Some all = sym (read_nothing word bytes rest begins none) ∙ is in
    absurd (cc)

zero_is : (number : ℕ) → true ≡ (number == 0) → number ≡ 0
zero_is number is = grind (arith, nat_tests)

pub empty_is : (word : List ℕ) → true ≡ (length word == 0) → word ≡ []
empty_is [] is = refl
empty_is (byte ∷ rest) is = absurd (omega (arith, zero_is (length (byte ∷ rest)) is))
