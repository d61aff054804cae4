-- Words that spell one to four values: how many they are, that they spell one whole, and what holds of it.
use Rattle.std.proofs.Common.{◌≡◌, ℕ, List, [], ◌∷◌, length, refl, sym, ap, ◌∙◌, subst}
use Rattle.zs_words.proofs.Meanings.{SpellsOne}
use Rattle.zs_script.specs.Grammar.{One, Two, Three, Four}

pub one_word : {A W : Type 0} (first : List ℕ → A → Type 0) (make : A → W) (words : List (List ℕ)) (whole : W) → One first make words whole → length words ≡ 1
one_word first make [] whole is = absurd is
one_word first make (a ∷ []) whole is = refl
one_word first make (a ∷ b ∷ rest) whole is = absurd is

pub two_words : {A B W : Type 0} (first : List ℕ → A → Type 0) (second : List ℕ → B → Type 0) (make : A → B → W) (words : List (List ℕ)) (whole : W) → Two first second make words whole → length words ≡ 2
two_words first second make [] whole is = absurd is
two_words first second make (a ∷ []) whole is = absurd is
two_words first second make (a ∷ b ∷ []) whole is = refl
two_words first second make (a ∷ b ∷ c ∷ rest) whole is = absurd is

pub three_words : {A B C W : Type 0} (first : List ℕ → A → Type 0) (second : List ℕ → B → Type 0) (third : List ℕ → C → Type 0) (make : A → B → C → W) (words : List (List ℕ)) (whole : W) → Three first second third make words whole → length words ≡ 3
three_words first second third make [] whole is = absurd is
three_words first second third make (a ∷ []) whole is = absurd is
three_words first second third make (a ∷ b ∷ []) whole is = absurd is
three_words first second third make (a ∷ b ∷ c ∷ []) whole is = refl
three_words first second third make (a ∷ b ∷ c ∷ d ∷ rest) whole is = absurd is

pub four_words : {A B C D W : Type 0} (first : List ℕ → A → Type 0) (second : List ℕ → B → Type 0) (third : List ℕ → C → Type 0) (fourth : List ℕ → D → Type 0) (make : A → B → C → D → W) (words : List (List ℕ)) (whole : W) → Four first second third fourth make words whole → length words ≡ 4
four_words first second third fourth make [] whole is = absurd is
four_words first second third fourth make (a ∷ []) whole is = absurd is
four_words first second third fourth make (a ∷ b ∷ []) whole is = absurd is
four_words first second third fourth make (a ∷ b ∷ c ∷ []) whole is = absurd is
four_words first second third fourth make (a ∷ b ∷ c ∷ d ∷ []) whole is = refl
four_words first second third fourth make (a ∷ b ∷ c ∷ d ∷ e ∷ rest) whole is = absurd is

pub one_whole : {A W : Type 0} (first : List ℕ → A → Type 0) (make : A → W) → SpellsOne first → (words : List (List ℕ)) (v w : W) → One first make words v → One first make words w → v ≡ w
one_whole first make same [] v w is_v is_w = absurd is_v
one_whole first make same (a ∷ []) v w is_v is_w =
    let x = same a is_v.0 is_w.0 is_v.1 is_w.1 in
    is_v.2 ∙ (ap make x ∙ sym is_w.2)
one_whole first make same (a ∷ b ∷ rest) v w is_v is_w = absurd is_v

pub two_whole : {A B W : Type 0} (first : List ℕ → A → Type 0) (second : List ℕ → B → Type 0) (make : A → B → W) → SpellsOne first → SpellsOne second → (words : List (List ℕ)) (v w : W) → Two first second make words v → Two first second make words w → v ≡ w
two_whole first second make same1 same2 [] v w is_v is_w = absurd is_v
two_whole first second make same1 same2 (a ∷ []) v w is_v is_w = absurd is_v
two_whole first second make same1 same2 (a ∷ b ∷ []) v w is_v is_w =
    let x = same1 a is_v.0 is_w.0 is_v.2 is_w.2 in
    let y = same2 b is_v.1 is_w.1 is_v.3 is_w.3 in
    is_v.4 ∙ ((λ i. make (x i) (y i)) ∙ sym is_w.4)
two_whole first second make same1 same2 (a ∷ b ∷ c ∷ rest) v w is_v is_w = absurd is_v

pub three_whole : {A B C W : Type 0} (first : List ℕ → A → Type 0) (second : List ℕ → B → Type 0) (third : List ℕ → C → Type 0) (make : A → B → C → W) → SpellsOne first → SpellsOne second → SpellsOne third → (words : List (List ℕ)) (v w : W) → Three first second third make words v → Three first second third make words w → v ≡ w
three_whole first second third make same1 same2 same3 [] v w is_v is_w = absurd is_v
three_whole first second third make same1 same2 same3 (a ∷ []) v w is_v is_w = absurd is_v
three_whole first second third make same1 same2 same3 (a ∷ b ∷ []) v w is_v is_w = absurd is_v
three_whole first second third make same1 same2 same3 (a ∷ b ∷ c ∷ []) v w is_v is_w =
    let x = same1 a is_v.0 is_w.0 is_v.3 is_w.3 in
    let y = same2 b is_v.1 is_w.1 is_v.4 is_w.4 in
    let z = same3 c is_v.2 is_w.2 is_v.5 is_w.5 in
    is_v.6 ∙ ((λ i. make (x i) (y i) (z i)) ∙ sym is_w.6)
three_whole first second third make same1 same2 same3 (a ∷ b ∷ c ∷ d ∷ rest) v w is_v is_w = absurd is_v

pub four_whole : {A B C D W : Type 0} (first : List ℕ → A → Type 0) (second : List ℕ → B → Type 0) (third : List ℕ → C → Type 0) (fourth : List ℕ → D → Type 0) (make : A → B → C → D → W) → SpellsOne first → SpellsOne second → SpellsOne third → SpellsOne fourth → (words : List (List ℕ)) (v w : W) → Four first second third fourth make words v → Four first second third fourth make words w → v ≡ w
four_whole first second third fourth make same1 same2 same3 same4 [] v w is_v is_w = absurd is_v
four_whole first second third fourth make same1 same2 same3 same4 (a ∷ []) v w is_v is_w = absurd is_v
four_whole first second third fourth make same1 same2 same3 same4 (a ∷ b ∷ []) v w is_v is_w = absurd is_v
four_whole first second third fourth make same1 same2 same3 same4 (a ∷ b ∷ c ∷ []) v w is_v is_w = absurd is_v
four_whole first second third fourth make same1 same2 same3 same4 (a ∷ b ∷ c ∷ d ∷ []) v w is_v is_w =
    let x = same1 a is_v.0 is_w.0 is_v.4 is_w.4 in
    let y = same2 b is_v.1 is_w.1 is_v.5 is_w.5 in
    let z = same3 c is_v.2 is_w.2 is_v.6 is_w.6 in
    let u = same4 d is_v.3 is_w.3 is_v.7 is_w.7 in
    is_v.8 ∙ ((λ i. make (x i) (y i) (z i) (u i)) ∙ sym is_w.8)
four_whole first second third fourth make same1 same2 same3 same4 (a ∷ b ∷ c ∷ d ∷ e ∷ rest) v w is_v is_w = absurd is_v

-- what holds of whatever these words can make holds of the whole
pub one_made : {A W : Type 0} (first : List ℕ → A → Type 0) (make : A → W) (P : W → Type 0) → ((word : List ℕ) (x : A) → first word x → P (make x)) → (words : List (List ℕ)) (whole : W) → One first make words whole → P whole
one_made first make P each [] whole is = absurd is
one_made first make P each (a ∷ []) whole is = subst P (sym is.2) (each a is.0 is.1)
one_made first make P each (a ∷ b ∷ rest) whole is = absurd is

pub two_made : {A B W : Type 0} (first : List ℕ → A → Type 0) (second : List ℕ → B → Type 0) (make : A → B → W) (P : W → Type 0) → ((word other : List ℕ) (x : A) (y : B) → first word x → second other y → P (make x y)) → (words : List (List ℕ)) (whole : W) → Two first second make words whole → P whole
two_made first second make P each [] whole is = absurd is
two_made first second make P each (a ∷ []) whole is = absurd is
two_made first second make P each (a ∷ b ∷ []) whole is = subst P (sym is.4) (each a b is.0 is.1 is.2 is.3)
two_made first second make P each (a ∷ b ∷ c ∷ rest) whole is = absurd is

pub three_made : {A B C W : Type 0} (first : List ℕ → A → Type 0) (second : List ℕ → B → Type 0) (third : List ℕ → C → Type 0) (make : A → B → C → W) (P : W → Type 0) → ((x : A) (y : B) (z : C) → P (make x y z)) → (words : List (List ℕ)) (whole : W) → Three first second third make words whole → P whole
three_made first second third make P each [] whole is = absurd is
three_made first second third make P each (a ∷ []) whole is = absurd is
three_made first second third make P each (a ∷ b ∷ []) whole is = absurd is
three_made first second third make P each (a ∷ b ∷ c ∷ []) whole is = subst P (sym is.6) (each is.0 is.1 is.2)
three_made first second third make P each (a ∷ b ∷ c ∷ d ∷ rest) whole is = absurd is
