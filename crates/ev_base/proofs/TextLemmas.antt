-- What it means that a text has no fault.
use Rattle.std.proofs.Common.{◌≡◌, ◌⊎◌, ℕ, ◌+◌, ◌≤◌, Bool, true, false, not, ◌||◌, if◌then◌else◌, nat_lt, List, [], ◌∷◌, ◌++◌, Option, Some, None, option_map, is_some, IsUtf8, chars, length, length-append, inl, inr, refl, ap, subst, true≢false, arith}
use Rattle.std.proofs.lemmas.Bool.Decides.{nat_tests}
use Rattle.std.proofs.lemmas.Str.{chars_past_char, len_utf8_bounds, length-encode}
use Rattle.std.proofs.StrCases.{chars_of_empty}
use Rattle.std.specs.Char.{encode_utf8, is_ascii_alphanumeric, is_ascii_control}
use Rattle.ev_base.specs.Texts.{bad_place, fault_of, IsText, least, may_have, most}
use Rattle.ev_base.specs.declared.text.TextFault.TheVariants.{TooShort, TooLong, BadChar}
use Rattle.ev_base.specs.declared.text.TextKind.{TextKind}
use Rattle.ev_base.specs.declared.text.TextKind.TheVariants.{RealmName, RealmDescription, StreamName, StreamDescription, Topic, FullName, Email, ApiKey, Content, Emoji, Color}

module _ (kind : TextKind) (place c : ℕ) (text rest : List ℕ) (utf8 : IsUtf8 text) (parts : text ≡ encode_utf8 c ++ rest) where
  -- the first character decides, or the rest does
  bad_place-char : bad_place kind place (chars text) ≡ (if may_have kind place c then bad_place kind (place + 1) (chars rest) else Some place)
  bad_place-char = ap (bad_place kind place) (chars_past_char text rest c utf8 parts)

  pub bad_place-refused : may_have kind place c ≡ false → bad_place kind place (chars text) ≡ Some place
  bad_place-refused bad = rw bad at bad_place-char

  pub bad_place-allowed : may_have kind place c ≡ true → bad_place kind place (chars text) ≡ bad_place kind (place + 1) (chars rest)
  bad_place-allowed good = rw good at bad_place-char

pub bad_place-empty : (kind : TextKind) (place : ℕ) (text : List ℕ) → length text ≡ 0 → bad_place kind place (chars text) ≡ None
bad_place-empty kind place text empty = ap (bad_place kind place) (chars_of_empty text empty)

-- a character takes a byte at least
pub place_fits : (place c size : ℕ) (text rest : List ℕ) → text ≡ encode_utf8 c ++ rest → place + length text ≤ size → place + 1 + length rest ≤ size
place_fits place c size text rest parts fits =
    omega (arith, ap (λ (bs : List ℕ). length bs) parts, length-append (encode_utf8 c) rest, length-encode c, len_utf8_bounds c)

-- the characters are a text of the kind
pub record HasNoFault (kind : TextKind) (cs : List ℕ) : Type 0 where
  pub least_fits : least kind ≤ length cs
  pub most_fits : length cs ≤ most kind
  pub allowed : bad_place kind 0 cs ≡ None

HasNoFault-tests : (kind : TextKind) (cs : List ℕ) (short long : Bool) (bad : Option ℕ)
    → nat_lt (length cs) (least kind) ≡ short → nat_lt (most kind) (length cs) ≡ long → bad_place kind 0 cs ≡ bad
    → (if short then Some (TooShort (length cs)) else if long then Some (TooLong (length cs)) else option_map BadChar bad) ≡ None
    → HasNoFault kind cs
HasNoFault-tests kind cs true long bad s l b none = absurd (true≢false (ap is_some none))
HasNoFault-tests kind cs false true bad s l b none = absurd (true≢false (ap is_some none))
HasNoFault-tests kind cs false false (Some place) s l b none = absurd (true≢false (ap is_some none))
HasNoFault-tests kind cs false false None s l b none =
    record { least_fits = grind (arith, nat_tests); most_fits = grind (arith, nat_tests); allowed = b }

-- a text without a fault has a length in the kind's range and allowed characters alone
pub HasNoFault-fault_of : (kind : TextKind) (text : List ℕ) → fault_of kind text ≡ None → HasNoFault kind (chars text)
unfolding fault_of
HasNoFault-fault_of kind text none = HasNoFault-tests kind (chars text) _ _ _ refl refl refl none

-- and the other way round
pub fault_of-HasNoFault : (kind : TextKind) (text : List ℕ) → HasNoFault kind (chars text) → fault_of kind text ≡ None
unfolding fault_of
fault_of-HasNoFault kind text fits =
    let short : nat_lt (length (chars text)) (least kind) ≡ false = grind (arith, nat_tests) in
    let long : nat_lt (most kind) (length (chars text)) ≡ false = grind (arith, nat_tests) in
    rw (short, long, fits.allowed)

-- what one kind allows, the other does
abbrev AllowsMore : TextKind → TextKind → Type 0
AllowsMore kind other = (place c : ℕ) → may_have kind place c ≡ true → may_have other place c ≡ true

bad_place-more : (kind other : TextKind) → AllowsMore kind other → (place : ℕ) (cs : List ℕ) → bad_place kind place cs ≡ None → bad_place other place cs ≡ None
bad_place-more kind other more place [] none = refl
bad_place-more kind other more place (c ∷ cs) none =
    let goes : (b : Bool) → may_have kind place c ≡ b → bad_place other place (c ∷ cs) ≡ None = elim [
      | true ↦ λ allowed. rw (more place c allowed) (bad_place-more kind other more (place + 1) cs (rw allowed at none))
      | false ↦ λ refused. absurd (true≢false (ap is_some (rw refused at none)))
    ] in
    goes (may_have kind place c) refl

not_first : (a b : Bool) → not (a || b) ≡ true → not a ≡ true
not_first false b holds = refl
not_first true b holds = holds

-- letters, digits and the other characters of keys, emoji and colors are no controls
letters_and_digits : (c : ℕ) → is_ascii_alphanumeric c ≡ true → not (is_ascii_control c) ≡ true
letters_and_digits c allowed = grind (arith, nat_tests)

emoji_chars : (c : ℕ) → may_have Emoji 0 c ≡ true → not (is_ascii_control c) ≡ true
emoji_chars c allowed = grind (arith, nat_tests)

color_chars : (place c : ℕ) → may_have Color place c ≡ true → not (is_ascii_control c) ≡ true
color_chars place c allowed = grind (arith, nat_tests)

allows_more : (kind : TextKind) → (kind ≡ Content) ⊎ (AllowsMore kind RealmDescription × (most kind ≤ 1024))
allows_more RealmName = inr (λ place c allowed. allowed, omega arith)
allows_more RealmDescription = inr (λ place c allowed. allowed, omega arith)
allows_more StreamName = inr (λ place c allowed. allowed, omega arith)
allows_more StreamDescription = inr (λ place c allowed. allowed, omega arith)
allows_more Topic = inr (λ place c allowed. allowed, omega arith)
allows_more FullName = inr (λ place c allowed. allowed, omega arith)
allows_more Email = inr (λ place c allowed. not_first _ _ allowed, omega arith)
allows_more ApiKey = inr (λ place c allowed. letters_and_digits c allowed, omega arith)
allows_more Content = inl refl
allows_more Emoji = inr (λ place c allowed. emoji_chars c allowed, omega arith)
allows_more Color = inr (λ place c allowed. color_chars place c allowed, omega arith)

-- every text is a realm's description or the content of a message
pub description_or_content : (text : List ℕ) → IsText text → (fault_of RealmDescription text ≡ None) ⊎ (fault_of Content text ≡ None)
description_or_content text is_text =
    elim (allows_more is_text.0) [
      | inl content ↦ inr (subst (λ (kind : TextKind). fault_of kind text ≡ None) content is_text.1)
      | inr more ↦
          let fits = HasNoFault-fault_of is_text.0 text is_text.1 in
          inl (fault_of-HasNoFault RealmDescription text (record {
            least_fits = omega arith;
            most_fits = omega (arith, more.1, fits.most_fits);
            allowed = bad_place-more is_text.0 RealmDescription more.0 0 (chars text) fits.allowed;
          }))
    ]
