use Rattle.std.proofs.Common.{◌∙◌, ◌++◌, ◌∷◌, [], ap, sym, take, append-nil}
use Rattle.std.specs.List.{cons_option, filter_map}
use Rattle.zw_views.specs.RowViews.{subscriber_in}
use Rattle.zr_view.proofs.SiftedLemmas.{made_more}
use Rattle.zr_view.proofs.subscribers.subscribers_by_user.Goals as goal
use Rattle.zr_view.proofs.subscribers.subscribers_by_user.Goals.{in-Some+in_ok-push, in_default}

pub loop-row-preserved : goal.loop-row-preserved
loop-row-preserved c =
    let make = subscriber_in c.args.realm.now.state.tables c.args.user in
    let rows = c.args.rows.now in
    let at = c.loop-row.row-index in
    let more = made_more make rows at c.row-item.result c.loop-row-test.true c.row-item.is in
    elim c.match-subscriber_in.branch [
      | in-Some+in_ok-push w ↦
          let made = sym c.subscriber_in.ensures ∙ w.in-Some.is in
          ap (λ found. found.items) w.found-is ∙ w.in_ok-push.ensures.items
          ∙ ap (λ before. before ++ w.in-Some.subscriber ∷ []) c.loop-row.invariant
          ∙ sym (more ∙ ap (λ last. filter_map make (take at rows) ++ cons_option last []) made)
      | in_default w ↦
          let made = sym c.subscriber_in.ensures ∙ w.in_default.is in
          ap (λ found. found.items) w.found-is ∙ c.loop-row.invariant
          ∙ sym (more ∙ ap (λ last. filter_map make (take at rows) ++ cons_option last []) made ∙ append-nil (filter_map make (take at rows)))
    ]
