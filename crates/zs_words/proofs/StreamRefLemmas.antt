-- The streams to which words refer, by whether they begin with =.
use Rattle.std.proofs.Common.{◌≡◌, ◌↔◌, ℕ, Bool, List, [], ◌∷◌, Option, None, Some, IsTrue, refl, sym, ap, ◌∙◌, subst}
use Rattle.std.specs.Option.{is_some}
use Rattle.std.proofs.lemmas.Bool.{false≢true}
use Rattle.ev_base.specs.declared.ids.StreamId.{StreamId}
use Rattle.zr_types.specs.declared.command.StreamRef.{StreamRef}
use Rattle.zr_types.specs.declared.command.StreamRef.TheVariants as ref
use Rattle.zs_words.specs.Numbers.{IsStream}
use Rattle.zs_words.specs.Readings.{ReadsIf}
use Rattle.zs_words.specs.StreamRefs.{IsStreamRef}
use Rattle.zs_words.specs.Texts.{IsText}
use Rattle.zs_words.proofs.Meanings.{equals_is_no_id}

-- behind = a word refers to a stream by its name
pub refers_by_name : (word rest : List ℕ) → word ≡ 61 ∷ rest → (stream : StreamRef) × IsStreamRef word stream → (text : List ℕ) × IsText rest text
refers_by_name word rest is refers =
    let P : List ℕ → Type 0 = λ w. IsStreamRef w refers.0 in
    named refers.0 (subst P is refers.1)
  where
    named : (stream : StreamRef) → IsStreamRef (61 ∷ rest) stream → (text : List ℕ) × IsText rest text
    named (ref.Id id) number = absurd (equals_is_no_id rest id.0 number)
    named (ref.Name name) is_name = (name, is_name.1)

pub name_refers : (word rest text : List ℕ) → word ≡ 61 ∷ rest → IsText rest text → IsStreamRef word (ref.Name text)
name_refers word rest text is name =
    let P : List ℕ → Type 0 = λ w. IsStreamRef w (ref.Name text) in
    subst P (sym is) (refl, name)

-- and any other word by its number
by_number : (word : List ℕ) → ((rest : List ℕ) → word ≡ 61 ∷ rest → ⊥) → (stream : StreamRef) → IsStreamRef word stream → (id : StreamId) × IsStream word id
by_number word other (ref.Id id) number = (id, number)
by_number [] other (ref.Name name) named = absurd named
by_number (first ∷ rest) other (ref.Name name) named = absurd (other rest (ap (λ byte. byte ∷ rest) named.0))

pub refers_by_number : (word : List ℕ) → ((rest : List ℕ) → word ≡ 61 ∷ rest → ⊥) → (stream : StreamRef) × IsStreamRef word stream → (id : StreamId) × IsStream word id
refers_by_number word other refers = by_number word other refers.0 refers.1

-- what is tested of a word that doesn't begin with =
pub number_tested : (word : List ℕ) → ((rest : List ℕ) → word ≡ 61 ∷ rest → ⊥) → (answer : Option StreamId) → ReadsIf (IsStream word) answer → (test : Bool) → test ≡ is_some answer → IsTrue test ↔ ((stream : StreamRef) × IsStreamRef word stream)
number_tested word other None none test is = (
  (λ yes. absurd (false≢true (sym is ∙ yes))),
  (λ refers. let id = refers_by_number word other refers in absurd (none id.0 id.1)),
)
number_tested word other (Some id) number test is = ((λ yes. (ref.Id id, number)), (λ refers. is))
