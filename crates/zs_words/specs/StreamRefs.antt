-- The streams that words refer to.
use Rattle.std.specs.Prelude.{◌≡◌, ℕ, List, [], ◌∷◌}
use Rattle.zr_types.specs.declared.command.StreamRef.{StreamRef}
use Rattle.zr_types.specs.declared.command.StreamRef.TheVariants as ref
use Rattle.zs_words.specs.Numbers.{IsStream}
use Rattle.zs_words.specs.Texts.{IsText}

-- the word refers to a stream: by its number, or by = and a text word, its name
abbrev pub IsStreamRef : List ℕ → StreamRef → Type 0
IsStreamRef word (ref.Id stream) = IsStream word stream
IsStreamRef [] (ref.Name name) = ⊥
IsStreamRef (first ∷ rest) (ref.Name name) = (first ≡ 61) × IsText rest name
