-- The parts of a word that stands for bytes, as it is read from its front.
use Rattle.std.specs.Prelude.{◌≡◌, ℕ, ◌+◌, ◌≤◌, List, ◌++◌, length, take, option_map, IsUtf8}
use Rattle.zs_words.specs.Texts.{decoded}

-- the word stands for these bytes, and then for what the rest stands for
pub record BeginsWith (word bytes rest : List ℕ) : Type 0 where
  pub stands : decoded word ≡ option_map (λ more. bytes ++ more) (decoded rest)
  pub shorter : length rest + length bytes ≤ length word

-- no first ones of these bytes are UTF-8
pub record NoCharBegins (bytes : List ℕ) : Type 0 where
  pub none : (k : ℕ) → 1 ≤ k → k ≤ length bytes → IsUtf8 (take k bytes) → ⊥

-- the word stands for a text, and then for what the rest stands for
abbrev pub BeginsWithUtf8 : List ℕ → List ℕ → Type 0
BeginsWithUtf8 word rest = (text : List ℕ) × IsUtf8 text × BeginsWith word text rest × (1 ≤ length text)
