use Rattle.std.proofs.Common.{◌≡◌, Bool, ℕ, List, [], ◌∷◌, ◌↔◌, IsTrue, map, string_bytes, arith, sym, ap, ◌∙◌}
use Rattle.std.specs.Str.{bytes_eq}
use Rattle.std.proofs.lemmas.Slice.Eq.{bytes_eq-Decides}
use Rattle.zm_run.proofs.Feeds.{one_mapped}
use Rattle.zm_run.proofs.replay.are_the_word.Goals as goal

is_word : (same : Bool) (text word : List ℕ) (all : List (List ℕ)) → same ≡ bytes_eq text word → all ≡ text ∷ [] → IsTrue same ↔ (all ≡ word ∷ [])
is_word same text word all tested one =
    let decides = bytes_eq-Decides text word in
    (λ is. one ∙ ap (λ t. t ∷ []) (decides.0 (sym tested ∙ is)), λ is. tested ∙ decides.1 (let both : text ∷ [] ≡ word ∷ [] = sym one ∙ is in cc))

pub returns-in-len1 : goal.returns-in-len1
returns-in-len1 c =
    let one = one_mapped string_bytes c.args.words.now c.word-item.result (omega arith) in
    let is : map string_bytes c.args.words.now ≡ c.as_str.result.now ∷ [] =
    one ∙ ap (λ word. string_bytes word ∷ []) (sym c.word-item.is) ∙ ap (λ text. text ∷ []) (sym c.as_str.ensures.value) in
    is_word c.eq.result c.as_str.result.now c.args.expected.now (map string_bytes c.args.words.now) c.eq.ensures is
