use Rattle.std.proofs.Common.{◌≡◌, ◌≢◌, [], codes, inl, refl, sym, ◌∙◌}
use Rattle.std.specs.Cmp.Lexicographic.{same_text}
use Rattle.std.proofs.lemmas.Bool.{false≢true}
use Rattle.ev_types.specs.declared.kind.Types.TheVariants as types
use Rattle.zs_words.proofs.ListLemmas.{different, tests_types}
use Rattle.zs_words.proofs.lists.is_types.Goals.{then-eq, else-eq}
use Rattle.zs_words.proofs.lists.is_types.Goals as goal

pub returns-then-eq-2 : goal.returns-then-eq-2
returns-then-eq-2 c = elim c.if-eq.branch [
  | then-eq w ↦
      let all : c.args.word.now ≡ codes "*" = same_text c.args.word.now (codes "*") w.if-eq.ensures in
      ((λ yes. (types.All, all)), (λ written. c.if-eq-2.true))
  | else-eq w ↦
      let none : c.args.word.now ≡ codes "-" = same_text c.args.word.now (codes "-") (sym (sym w.value-is ∙ c.if-eq-2.true) ∙ w.eq-else-eq.ensures) in
      ((λ yes. (types.Only [], inl (none, refl))), (λ written. c.if-eq-2.true))
]

pub returns-else-eq-2 : goal.returns-else-eq-2
returns-else-eq-2 c = elim c.if-eq.branch [
  | then-eq w ↦ absurd (false≢true (sym c.if-eq-2.false ∙ (w.value-is ∙ w.if-eq.true)))
  | else-eq w ↦
      let not_all : c.args.word.now ≢ codes "*" = different c.args.word.now (codes "*") (sym w.if-eq.ensures) in
      let not_none : c.args.word.now ≢ codes "-" = different c.args.word.now (codes "-") (sym (sym (sym w.value-is ∙ c.if-eq-2.false) ∙ w.eq-else-eq.ensures)) in
      tests_types c.args.word.now c.are_kinds.result not_all not_none c.are_kinds.ensures
]
