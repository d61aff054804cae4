-- What is answered where the last word spells nothing, or memory runs out for it.
use Rattle.std.proofs.Common.{◌≡◌, ℕ, ◌≤◌, ◌<◌, List, [], ◌∷◌, ◌-◌, length, take, drop, get_or, Bor, Err, Some, refl, sym, ◌∙◌, subst, arith}
use Rattle.std.proofs.lemmas.List.{take_all}
use Rattle.ev_base.specs.declared.ids.StreamId.{StreamId}
use Rattle.zr_types.specs.declared.command.Command.TheVariants.{Streams}
use Rattle.zr_types.specs.declared.command.StreamCommand.TheVariants.{SubProperty}
use Rattle.zr_types.specs.declared.command.SubField.TheVariants as value
use Rattle.ev_base.specs.declared.ids.UserId.{UserId}
use Rattle.zs_words.specs.declared.names.CommandName.{CommandName}
use Rattle.zs_script.specs.declared.step.Step.TheVariants.{Command}
use Rattle.zs_words.specs.declared.names.SubProperty.{SubProperty as SubName}
use Rattle.zs_words.specs.declared.names.SubProperty.TheVariants as sub
use Rattle.zs_words.specs.declared.fault.LineFault.{LineFault}
use Rattle.zs_words.specs.declared.fault.LineFault.TheVariants.{NotAStep, NoMemory}
use Rattle.zs_script.specs.Grammar.{Two, Three, Four, ValueSpells, SubPropertySpells, ArgumentsSpell, CommandSpells}
use Rattle.zs_words.specs.Names.{IsSubProperty}
use Rattle.zs_words.specs.Numbers.{IsUser, IsStream}
use Rattle.zs_words.specs.Texts.{IsText}
use Rattle.zs_script.specs.Readings.{ReadsStep}
use Rattle.zs_words.specs.Readings.{Reads, pointed}

-- word k, as a slice pattern reads it
abbrev pub word : List (Bor (List ℕ)) → ℕ → List ℕ
word words k = (get_or words k (record { ref_ptr = (0, 0); now = [] })).now

pub two_last : {A B W : Type 0} (first : List ℕ → A → Type 0) (second : List ℕ → B → Type 0) (make : A → B → W) (words : List (Bor (List ℕ))) (fault : LineFault) (x : A) → 2 ≤ length words → length words < 3 → first (word words 0) x → Reads (second (word words 1)) (Err fault) → Reads (Two first second make (pointed words)) (Err fault)
two_last first second make [] fault x least below is reads = absurd (omega arith)
two_last first second make (a ∷ []) fault x least below is reads = absurd (omega arith)
two_last first second make (a ∷ b ∷ []) fault x least below is reads = record {
  value = tt;
  not_a_step = λ none whole spells. reads.not_a_step (cc) spells.1 spells.3;
  no_memory = λ none. let y = reads.no_memory (cc) in (make x y.0, (x, y.0, is, y.1, refl));
}
two_last first second make (a ∷ b ∷ c ∷ rest) fault x least below is reads = absurd (omega arith)

pub three_last : {A B C W : Type 0} (first : List ℕ → A → Type 0) (second : List ℕ → B → Type 0) (third : List ℕ → C → Type 0) (make : A → B → C → W) (words : List (Bor (List ℕ))) (fault : LineFault) (x : A) (y : B) → 3 ≤ length words → length words < 4 → first (word words 0) x → second (word words 1) y → Reads (third (word words 2)) (Err fault) → Reads (Three first second third make (pointed words)) (Err fault)
three_last first second third make [] fault x y least below is also reads = absurd (omega arith)
three_last first second third make (a ∷ []) fault x y least below is also reads = absurd (omega arith)
three_last first second third make (a ∷ b ∷ []) fault x y least below is also reads = absurd (omega arith)
three_last first second third make (a ∷ b ∷ c ∷ []) fault x y least below is also reads = record {
  value = tt;
  not_a_step = λ none whole spells. reads.not_a_step (cc) spells.2 spells.5;
  no_memory = λ none. let z = reads.no_memory (cc) in (make x y z.0, (x, y, z.0, is, also, z.1, refl));
}
three_last first second third make (a ∷ b ∷ c ∷ d ∷ rest) fault x y least below is also reads = absurd (omega arith)

-- the third of four words is read last
pub four_third : {A B C D W : Type 0} (first : List ℕ → A → Type 0) (second : List ℕ → B → Type 0) (third : List ℕ → C → Type 0) (fourth : List ℕ → D → Type 0) (make : A → B → C → D → W) (words : List (Bor (List ℕ))) (fault : LineFault) (x : A) (y : B) (u : D) → 4 ≤ length words → length words < 5 → first (word words 0) x → second (word words 1) y → fourth (word words 3) u → Reads (third (word words 2)) (Err fault) → Reads (Four first second third fourth make (pointed words)) (Err fault)
four_third first second third fourth make [] fault x y u least below is_x is_y is_u reads = absurd (omega arith)
four_third first second third fourth make (a ∷ []) fault x y u least below is_x is_y is_u reads = absurd (omega arith)
four_third first second third fourth make (a ∷ b ∷ []) fault x y u least below is_x is_y is_u reads = absurd (omega arith)
four_third first second third fourth make (a ∷ b ∷ c ∷ []) fault x y u least below is_x is_y is_u reads = absurd (omega arith)
four_third first second third fourth make (a ∷ b ∷ c ∷ d ∷ []) fault x y u least below is_x is_y is_u reads = record {
  value = tt;
  not_a_step = λ none whole spells. reads.not_a_step (cc) spells.2 spells.6;
  no_memory = λ none. let z = reads.no_memory (cc) in (make x y z.0 u, (x, y, z.0, u, is_x, is_y, z.1, is_u, refl));
}
four_third first second third fourth make (a ∷ b ∷ c ∷ d ∷ e ∷ rest) fault x y u least below is_x is_y is_u reads = absurd (omega arith)

-- where no values are spelled together by two words, three or four
pub two_none : {A B W : Type 0} (first : List ℕ → A → Type 0) (second : List ℕ → B → Type 0) (make : A → B → W) (words : List (Bor (List ℕ))) → 2 ≤ length words → length words < 3 → ((x : A) (y : B) → first (word words 0) x → second (word words 1) y → ⊥) → Reads (Two first second make (pointed words)) (Err NotAStep)
two_none first second make [] least below none = absurd (omega arith)
two_none first second make (a ∷ []) least below none = absurd (omega arith)
two_none first second make (a ∷ b ∷ []) least below none = record {
  value = tt;
  not_a_step = λ _ whole spells. none spells.0 spells.1 spells.2 spells.3;
  no_memory = λ other. absurd (cc);
}
two_none first second make (a ∷ b ∷ c ∷ rest) least below none = absurd (omega arith)

pub three_none : {A B C W : Type 0} (first : List ℕ → A → Type 0) (second : List ℕ → B → Type 0) (third : List ℕ → C → Type 0) (make : A → B → C → W) (words : List (Bor (List ℕ))) → 3 ≤ length words → length words < 4 → ((x : A) (y : B) (z : C) → first (word words 0) x → second (word words 1) y → third (word words 2) z → ⊥) → Reads (Three first second third make (pointed words)) (Err NotAStep)
three_none first second third make [] least below none = absurd (omega arith)
three_none first second third make (a ∷ []) least below none = absurd (omega arith)
three_none first second third make (a ∷ b ∷ []) least below none = absurd (omega arith)
three_none first second third make (a ∷ b ∷ c ∷ []) least below none = record {
  value = tt;
  not_a_step = λ _ whole spells. none spells.0 spells.1 spells.2 spells.3 spells.4 spells.5;
  no_memory = λ other. absurd (cc);
}
three_none first second third make (a ∷ b ∷ c ∷ d ∷ rest) least below none = absurd (omega arith)

pub four_none : {A B C D W : Type 0} (first : List ℕ → A → Type 0) (second : List ℕ → B → Type 0) (third : List ℕ → C → Type 0) (fourth : List ℕ → D → Type 0) (make : A → B → C → D → W) (words : List (Bor (List ℕ))) → 4 ≤ length words → length words < 5 → ((x : A) (y : B) (z : C) (u : D) → first (word words 0) x → second (word words 1) y → third (word words 2) z → fourth (word words 3) u → ⊥) → Reads (Four first second third fourth make (pointed words)) (Err NotAStep)
four_none first second third fourth make [] least below none = absurd (omega arith)
four_none first second third fourth make (a ∷ []) least below none = absurd (omega arith)
four_none first second third fourth make (a ∷ b ∷ []) least below none = absurd (omega arith)
four_none first second third fourth make (a ∷ b ∷ c ∷ []) least below none = absurd (omega arith)
four_none first second third fourth make (a ∷ b ∷ c ∷ d ∷ []) least below none = record {
  value = tt;
  not_a_step = λ _ whole spells. none spells.0 spells.1 spells.2 spells.3 spells.4 spells.5 spells.6 spells.7;
  no_memory = λ other. absurd (cc);
}
four_none first second third fourth make (a ∷ b ∷ c ∷ d ∷ e ∷ rest) least below none = absurd (omega arith)

-- where memory runs out for a whole that is spelled
pub four_memory : {A B C D W : Type 0} (first : List ℕ → A → Type 0) (second : List ℕ → B → Type 0) (third : List ℕ → C → Type 0) (fourth : List ℕ → D → Type 0) (make : A → B → C → D → W) (words : List (Bor (List ℕ))) (x : A) (y : B) (z : C) (u : D) → 4 ≤ length words → length words < 5 → first (word words 0) x → second (word words 1) y → third (word words 2) z → fourth (word words 3) u → Reads (Four first second third fourth make (pointed words)) (Err NoMemory)
four_memory first second third fourth make [] x y z u least below is_x is_y is_z is_u = absurd (omega arith)
four_memory first second third fourth make (a ∷ []) x y z u least below is_x is_y is_z is_u = absurd (omega arith)
four_memory first second third fourth make (a ∷ b ∷ []) x y z u least below is_x is_y is_z is_u = absurd (omega arith)
four_memory first second third fourth make (a ∷ b ∷ c ∷ []) x y z u least below is_x is_y is_z is_u = absurd (omega arith)
four_memory first second third fourth make (a ∷ b ∷ c ∷ d ∷ []) x y z u least below is_x is_y is_z is_u = record {
  value = tt;
  not_a_step = λ other. absurd (cc);
  no_memory = λ _. (make x y z u, (x, y, z, u, is_x, is_y, is_z, is_u, refl));
}
four_memory first second third fourth make (a ∷ b ∷ c ∷ d ∷ e ∷ rest) x y z u least below is_x is_y is_z is_u = absurd (omega arith)

pub two_memory : {A B W : Type 0} (first : List ℕ → A → Type 0) (second : List ℕ → B → Type 0) (make : A → B → W) (words : List (Bor (List ℕ))) (x : A) (y : B) → 2 ≤ length words → length words < 3 → first (word words 0) x → second (word words 1) y → Reads (Two first second make (pointed words)) (Err NoMemory)
two_memory first second make [] x y least below is_x is_y = absurd (omega arith)
two_memory first second make (a ∷ []) x y least below is_x is_y = absurd (omega arith)
two_memory first second make (a ∷ b ∷ []) x y least below is_x is_y = record {
  value = tt;
  not_a_step = λ other. absurd (cc);
  no_memory = λ _. (make x y, (x, y, is_x, is_y, refl));
}
two_memory first second make (a ∷ b ∷ c ∷ rest) x y least below is_x is_y = absurd (omega arith)

pub three_memory : {A B C W : Type 0} (first : List ℕ → A → Type 0) (second : List ℕ → B → Type 0) (third : List ℕ → C → Type 0) (make : A → B → C → W) (words : List (Bor (List ℕ))) (x : A) (y : B) (z : C) → 3 ≤ length words → length words < 4 → first (word words 0) x → second (word words 1) y → third (word words 2) z → Reads (Three first second third make (pointed words)) (Err NoMemory)
three_memory first second third make [] x y z least below is_x is_y is_z = absurd (omega arith)
three_memory first second third make (a ∷ []) x y z least below is_x is_y is_z = absurd (omega arith)
three_memory first second third make (a ∷ b ∷ []) x y z least below is_x is_y is_z = absurd (omega arith)
three_memory first second third make (a ∷ b ∷ c ∷ []) x y z least below is_x is_y is_z = record {
  value = tt;
  not_a_step = λ other. absurd (cc);
  no_memory = λ _. (make x y z, (x, y, z, is_x, is_y, is_z, refl));
}
three_memory first second third make (a ∷ b ∷ c ∷ d ∷ rest) x y z least below is_x is_y is_z = absurd (omega arith)

-- the third of four words was read before the whole was made
pub four_made : {A B C D W : Type 0} (first : List ℕ → A → Type 0) (second : List ℕ → B → Type 0) (third : List ℕ → C → Type 0) (fourth : List ℕ → D → Type 0) (make : A → B → C → D → W) (words : List (Bor (List ℕ))) (z : C) (whole : W) → 4 ≤ length words → length words < 5 → third (word words 2) z → Three first second fourth (λ x y u. make x y z u) (word words 0 ∷ word words 1 ∷ word words 3 ∷ []) whole → Four first second third fourth make (pointed words) whole
four_made first second third fourth make [] z whole least below is_z made = absurd (omega arith)
four_made first second third fourth make (a ∷ []) z whole least below is_z made = absurd (omega arith)
four_made first second third fourth make (a ∷ b ∷ []) z whole least below is_z made = absurd (omega arith)
four_made first second third fourth make (a ∷ b ∷ c ∷ []) z whole least below is_z made = absurd (omega arith)
four_made first second third fourth make (a ∷ b ∷ c ∷ d ∷ []) z whole least below is_z made = (made.0, made.1, z, made.2, made.3, made.4, is_z, made.5, made.6)
four_made first second third fourth make (a ∷ b ∷ c ∷ d ∷ e ∷ rest) z whole least below is_z made = absurd (omega arith)

-- a color that isn't read
pub no_color : (property : SubName) (word : List ℕ) (fault : LineFault) → property ≡ sub.Color → Reads (IsText word) (Err fault) → Reads (ValueSpells property word) (Err fault)
no_color sub.Color word fault is reads = record {
  value = tt;
  not_a_step = λ none field spells. reads.not_a_step (cc) spells.0 spells.1;
  no_memory = λ none. let text = reads.no_memory (cc) in (value.Color text.0, (text.0, text.1, refl));
}
no_color sub.IsMuted word fault is reads = absurd (cc)
no_color sub.PinToTop word fault is reads = absurd (cc)

-- a value of a subscription's property that isn't read
pub no_value : (words : List (Bor (List ℕ))) (fault : LineFault) (stream : StreamId) (property : SubName) → 3 ≤ length words → length words < 4 → IsStream (word words 0) stream → IsSubProperty (word words 1) property → Reads (ValueSpells property (word words 2)) (Err fault) → Reads (SubPropertySpells (pointed words)) (Err fault)
no_value [] fault stream property least below is_stream is_property reads = absurd (omega arith)
no_value (a ∷ []) fault stream property least below is_stream is_property reads = absurd (omega arith)
no_value (a ∷ b ∷ []) fault stream property least below is_stream is_property reads = absurd (omega arith)
no_value (a ∷ b ∷ c ∷ []) fault stream property least below is_stream is_property reads = record {
  value = tt;
  not_a_step = λ none whole spells.
      let P : SubName → Type 0 = λ name. ValueSpells name c.now spells.2 in
      let both : Some spells.1 ≡ Some property = sym spells.4 ∙ is_property in
      let same : spells.1 ≡ property = cc in
      reads.not_a_step (cc) spells.2 (subst P same spells.5);
  no_memory = λ none. let field = reads.no_memory (cc) in (Streams (SubProperty stream field.0), (stream, property, field.0, is_stream, is_property, field.1, refl));
}
no_value (a ∷ b ∷ c ∷ d ∷ rest) fault stream property least below is_stream is_property reads = absurd (omega arith)

-- a command behind its actor that isn't read
pub no_command : (name : CommandName) (words rest : List (Bor (List ℕ))) (fault : LineFault) (actor : UserId) → 1 ≤ length words → rest ≡ take (length words - 1) (drop 1 words) → IsUser (word words 0) actor → Reads (ArgumentsSpell name (pointed rest)) (Err fault) → ReadsStep (CommandSpells name (pointed words)) (Err fault)
no_command name [] rest fault actor least is is_actor reads = absurd (omega arith)
no_command name (a ∷ behind) rest fault actor least is is_actor reads =
    let same : rest ≡ behind = is ∙ take_all _ behind (omega arith) in
    let P : List (Bor (List ℕ)) → Type 0 = λ words. Reads (ArgumentsSpell name (pointed words)) (Err fault) in
    let fails = subst P same reads in
    record {
      step = tt;
      not_a_step = λ none whole spells. fails.not_a_step (cc) spells.1 spells.3;
      no_memory = λ none. let change = fails.no_memory (cc) in (Command actor change.0, (actor, change.0, is_actor, change.1, refl), tt);
    }
