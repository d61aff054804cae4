use Rattle.std.proofs.Common.{◌≡◌, ◌∙◌, ◌++◌, ◌∷◌, [], Ok, Option, ap, sym, rules}
use Rattle.std.proofs.lemmas.Fn.{says_at}
use Rattle.std.proofs.lemmas.List.{take_all}
use Rattle.ev_rows.specs.Rows.{sift}
use Rattle.zr_view.specs.Makers.{Makes}
use Rattle.zr_view.proofs.SiftedLemmas.{rise_passed, rise_pushed, sift_passed, sift_pushed}
use Rattle.zr_view.proofs.sift.sifted.Goals as goal
use Rattle.zr_view.proofs.sift.sifted.Goals.{in-Some+in_ok-clone+in_ok-push, in_default}

pub loop-row-preserved : goal.loop-row-preserved
loop-row-preserved g c =
    let Row : Type 0 = g.row.K.Denot × g.row.V.Denot in
    let row = c.row-item.result in
    let rows = c.args.rows.now in
    let at = c.loop-row.row-index in
    let made = λ (of : Row → Option g.row.W.Denot) (makes : Makes g.F.Fn c.args.make of).
    makes row (Ok c.in_ok-value.field-0) (says_at g.F.Fn c.make.ensures c.in_ok-value.was) in
    elim c.match-branch-2.branch [
      | in-Some+in_ok-clone+in_ok-push w ↦
          let key : w.in_ok-clone.field-0 ≡ row.0 = search (rules, g.met.K.ExactClone.exact) in
          let items : c.match-branch-2.made.items ≡ c.loop-row.made.items ++ (row.0, w.in-Some.value) ∷ [] =
          ap (λ v. v.items) w.made-is ∙ w.in_ok-push.ensures.items ∙ ap (λ k. c.loop-row.made.items ++ (k, w.in-Some.value) ∷ []) key in
          record {
            rise = rw items (rise_pushed g.K.Ord.cmp c.loop-row.made.items rows at row w.in-Some.value c.loop-row-test.true c.row-item.is c.loop-row.invariant.rise);
            made = λ of makes.
                items ∙ ap (λ before. before ++ (row.0, w.in-Some.value) ∷ []) (c.loop-row.invariant.made of makes)
                ∙ sym (sift_pushed of rows at row w.in-Some.value c.loop-row-test.true c.row-item.is (sym (made of makes) ∙ w.in-Some.is));
          }
      | in_default w ↦
          let items : c.match-branch-2.made.items ≡ c.loop-row.made.items = ap (λ v. v.items) w.made-is in
          record {
            rise = rw items (rise_passed g.K.Ord.cmp c.loop-row.made.items rows at row c.loop-row-test.true c.row-item.is c.loop-row.invariant.rise);
            made = λ of makes.
                items ∙ c.loop-row.invariant.made of makes
                ∙ sym (sift_passed of rows at row c.loop-row-test.true c.row-item.is (sym (made of makes) ∙ w.in_default.is));
          }
    ]

pub returns : goal.returns
returns g c = λ of makes.
    c.from_vec.ensures.rows ∙ c.loop-row.invariant.made of makes ∙ ap (sift of) (take_all c.loop-row.row-index c.args.rows.now c.loop-row-test.false)
