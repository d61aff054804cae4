use Rattle.std.proofs.Common.{◌≡◌, ◌≢◌, List, codes, ap, sym, subst, ◌∙◌, inl, inr}
use Rattle.std.specs.Cmp.Lexicographic.{same_text}
use Rattle.ev_types.specs.declared.section.Section.{Section}
use Rattle.zs_words.specs.Lists.{IsFetch, parts_of, sections_by}
use Rattle.zs_words.specs.Names.{all_sections}
use Rattle.zs_words.proofs.ListLemmas.{different, all_sections_of, sections_of_word, sections_fetched}
use Rattle.zs_words.proofs.lists.fetch_of.Goals.{then-eq, else-eq, then-eq-2+in_ok-asked, else-eq-2+in_ok-asked-2}
use Rattle.zs_words.proofs.lists.fetch_of.Goals as goal

pub returns : goal.returns
returns c = λ meant typed. elim c.if-eq.branch [
  | then-eq w ↦
      let as_types : c.args.word.now ≡ codes "=" = same_text c.args.word.now (codes "=") w.if-eq.ensures in
      let named : c.if-eq.names.now ≡ c.args.types.now = ap (λ n. n.now) w.names-is in
      elim c.if-eq-2.branch [
        | then-eq-2+in_ok-asked v ↦
            let all : c.args.types.now ≡ codes "*" = sym named ∙ same_text c.if-eq.names.now (codes "*") v.if-eq-2.ensures in
            let items : c.from_vec.result ≡ all_sections = c.from_vec.ensures ∙ (ap (λ x. x.items) v.asked-is ∙ v.in_ok-asked.ensures) in
            inl (as_types, items ∙ all_sections_of c.args.types.now all meant typed)
        | else-eq-2+in_ok-asked-2 v ↦
            let other : c.args.types.now ≢ codes "*" = λ same. different c.if-eq.names.now (codes "*") (sym v.if-eq-2.ensures) (named ∙ same) in
            let items : c.from_vec.result ≡ sections_by (parts_of c.if-eq.names.now) = c.from_vec.ensures ∙ (ap (λ x. x.items) v.asked-is ∙ v.in_ok-asked-2.ensures) in
            inl (as_types, items ∙ (ap (λ word. sections_by (parts_of word)) named ∙ sections_of_word c.args.types.now other meant typed))
      ]
  | else-eq w ↦
      let not_types : c.args.word.now ≢ codes "=" = different c.args.word.now (codes "=") (sym w.if-eq.ensures) in
      let named : c.if-eq.names.now ≡ c.args.word.now = ap (λ n. n.now) w.names-is in
      elim c.if-eq-2.branch [
        | then-eq-2+in_ok-asked v ↦
            let all : c.args.word.now ≡ codes "*" = sym named ∙ same_text c.if-eq.names.now (codes "*") v.if-eq-2.ensures in
            let items : c.from_vec.result ≡ all_sections = c.from_vec.ensures ∙ (ap (λ x. x.items) v.asked-is ∙ v.in_ok-asked.ensures) in
            inr (inl (all, items))
        | else-eq-2+in_ok-asked-2 v ↦
            let other : c.args.word.now ≢ codes "*" = λ same. different c.if-eq.names.now (codes "*") (sym v.if-eq-2.ensures) (named ∙ same) in
            let items : c.from_vec.result ≡ sections_by (parts_of c.if-eq.names.now) = c.from_vec.ensures ∙ (ap (λ x. x.items) v.asked-is ∙ v.in_ok-asked-2.ensures) in
            let found : c.from_vec.result ≡ sections_by (parts_of c.args.word.now) = items ∙ ap (λ word. sections_by (parts_of word)) named in
            let P : List Section → Type 0 = λ asked. IsFetch meant c.args.word.now asked in
            subst P (sym found) (sections_fetched c.args.word.now not_types other c.requires meant)
      ]
]
