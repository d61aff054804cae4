use Rattle.std.proofs.Common.{◌≡◌, ◌≢◌, [], codes, inl, inr, refl, sym, ◌∙◌}
use Rattle.std.specs.Cmp.Lexicographic.{same_text}
use Rattle.std.proofs.lemmas.Bool.{false≢true}
use Rattle.zs_words.specs.Lists.{sections_of_types}
use Rattle.zs_words.specs.Names.{all_sections}
use Rattle.zs_words.proofs.ListLemmas.{different, tests_fetch}
use Rattle.zs_words.proofs.lists.is_fetch.Goals.{then-eq, else-eq, then-eq-2, else-eq-2}
use Rattle.zs_words.proofs.lists.is_fetch.Goals as goal

pub returns-then-eq-3 : goal.returns-then-eq-3
returns-then-eq-3 c = λ meant. elim c.if-eq-2.branch [
  | then-eq-2 v ↦ elim c.if-eq.branch [
    | then-eq w ↦
        let as_types : c.args.word.now ≡ codes "=" = same_text c.args.word.now (codes "=") w.if-eq.ensures in
        ((λ yes. (sections_of_types meant, inl (as_types, refl))), (λ written. c.if-eq-3.true))
    | else-eq w ↦
        let all : c.args.word.now ≡ codes "*" = same_text c.args.word.now (codes "*") (sym (sym w.value-is ∙ v.if-eq-2.true) ∙ w.eq-else-eq.ensures) in
        ((λ yes. (all_sections, inr (inl (all, refl)))), (λ written. c.if-eq-3.true))
  ]
  | else-eq-2 v ↦
      let none : c.args.word.now ≡ codes "-" = same_text c.args.word.now (codes "-") (sym (sym v.value-is ∙ c.if-eq-3.true) ∙ v.eq-else-eq-2.ensures) in
      ((λ yes. ([], inr (inr (inl (none, refl))))), (λ written. c.if-eq-3.true))
]

pub returns-else-eq-3 : goal.returns-else-eq-3
returns-else-eq-3 c = λ meant. elim c.if-eq-2.branch [
  | then-eq-2 v ↦ absurd (false≢true (sym c.if-eq-3.false ∙ (v.value-is ∙ v.if-eq-2.true)))
  | else-eq-2 v ↦ elim c.if-eq.branch [
    | then-eq w ↦ absurd (false≢true (sym v.if-eq-2.false ∙ (w.value-is ∙ w.if-eq.true)))
    | else-eq w ↦
        let not_types : c.args.word.now ≢ codes "=" = different c.args.word.now (codes "=") (sym w.if-eq.ensures) in
        let not_all : c.args.word.now ≢ codes "*" = different c.args.word.now (codes "*") (sym (sym (sym w.value-is ∙ v.if-eq-2.false) ∙ w.eq-else-eq.ensures)) in
        let not_none : c.args.word.now ≢ codes "-" = different c.args.word.now (codes "-") (sym (sym (sym v.value-is ∙ c.if-eq-3.false) ∙ v.eq-else-eq-2.ensures)) in
        tests_fetch c.args.word.now c.are_fetch_names.result not_types not_all not_none c.are_fetch_names.ensures meant
  ]
]
