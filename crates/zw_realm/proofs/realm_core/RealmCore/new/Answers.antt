-- A realm before any commit.
use Rattle.std.proofs.Common.{◌∙◌, length, ap, sym, subst, arith}
use Rattle.zr_types.specs.Tables.{RealmState}
use Rattle.zw_views.specs.Laws.{IsCounted}
use Rattle.zw_views.proofs.ViewsCompare.{opening_counted}
use Rattle.zw_realm.proofs.realm_core.RealmCore.new.Goals as goal

pub invariant_of-result : goal.invariant_of-result
invariant_of-result c =
    let opening = c.in_ok-new.ensures in
    let none = ap length c.new-2.ensures.items in (
      subst IsCounted (sym opening) opening_counted,
      ap (λ (state : RealmState). state.commits) opening ∙ sym none,
      omega arith,
    )
