use Rattle.std.proofs.Common.{rules, ◌≡◌, ◌<◌, ◌≤◌, ℕ, true, List, length, get_or, subst, sym, ap, ◌∙◌, arith}
use Rattle.std.specs.List.{insert}
use Rattle.ev_base.specs.declared.ids.MessageId.{MessageId}
use Rattle.ev_groups.specs.Groups.{with_id}
use Rattle.ev_groups.specs.Places.{are_below}
use Rattle.ev_groups.proofs.SetIds.{with_id-new, with_id-between, with_id-old}
use Rattle.ev_groups.proofs.groups.put_id.Goals as goal
use Rattle.ev_groups.proofs.groups.put_id.Goals.{then-at-len-via-then-at-len, then-at-len-via-else-at-len+then-id-index}

pub returns-in_ok-insert-clause-ids : goal.returns-in_ok-insert-clause-ids
returns-in_ok-insert-clause-ids c =
    let ids : List MessageId = c.args.ids.now.items in
    let at : ℕ = c.id_place-at.result in
    let put : c.insert.new.self.items ≡ insert ids at c.args.id = search rules in
    let below : are_below at ids c.args.id ≡ true = search rules in
    let is : with_id ids c.args.id ≡ insert ids at c.args.id = elim c.then-at-len.branch [
      | then-at-len-via-then-at-len w ↦ (let end : at ≡ length ids = search rules in with_id-new ids at c.args.id below end)
      | then-at-len-via-else-at-len+then-id-index w ↦
          (let within : at < length ids = search rules in
          let above : c.args.id.0 < (get_or ids at w.index.result.now).0 = search rules in
          with_id-between ids at c.args.id w.index.result.now below within above)
    ] in
    put ∙ sym is

pub returns-else-id-index-clause-ids : goal.returns-else-id-index-clause-ids
returns-else-id-index-clause-ids c =
    let ids : List MessageId = c.args.ids.now.items in
    let at : ℕ = c.id_place-at.result in
    let below : are_below at ids c.args.id ≡ true = search rules in
    let within : at < length ids = search rules in
    let found : MessageId = c.index.result.now in
    let reached : c.args.id.0 ≤ (get_or ids at found).0 =
    subst (λ (xs : List MessageId). at < length xs → c.args.id.0 ≤ (get_or xs at found).0) c.deref.ensures.value (c.id_place-at.ensures.reached found) within in
    let one : (get_or ids at found).0 ≡ found.0 = ap (λ (id : MessageId). id.0) (sym c.index.ensures) in
    let same : c.args.id.0 ≡ (get_or ids at found).0 = omega arith in
    sym (with_id-old ids at c.args.id found below within same)
