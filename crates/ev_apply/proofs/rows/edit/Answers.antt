use Rattle.std.proofs.Common.{◌∙◌, false, refl}
use Rattle.ev_types.specs.Writes.{Rules}
use Rattle.ev_apply.specs.declared.row_write.Change.TheVariants as change
use Rattle.ev_apply.proofs.WalkLemmas.{edited, put_found, put_none, patch_found, patch_none, drop_found}
use Rattle.ev_apply.proofs.rows.edit.Goals as goal

pub returns-in-Some-clause-rows : goal.returns-in-Some-clause-rows
returns-in-Some-clause-rows g c =
    let rules : Rules g.row.K.Denot g.row.V.Denot g.row.F.Denot (Unit {0}) = record { cmp = g.K.Ord.cmp; set = g.F.Field.set; is_under = λ prefix key. false } in
    let total = c.requires.order.total in
    let key = c.args.write.key in
    let left = c.args.walk.now.left in
    let passed = c.args.walk.now.passed in
    edited rules total key left passed c.requires.rise c.requires.end c.requires.below c.args.write.change (change.Put c.in-Put.value) c.in-Put.is _ _ _ c.push.ensures.left (c.push.ensures.passed ∙ c.take.ensures.passed)
    (put_found rules total key left passed c.requires.rise c.requires.end c.requires.below c.take.result c.take.new.self.left c.take.ensures.left c.take.ensures.found (c.in-Some.found, c.in-Some.field-0-1) c.in-Some.is c.in-Put.value)

pub returns-in-Put-clause-rows : goal.returns-in-Put-clause-rows
returns-in-Put-clause-rows g c =
    let rules : Rules g.row.K.Denot g.row.V.Denot g.row.F.Denot (Unit {0}) = record { cmp = g.K.Ord.cmp; set = g.F.Field.set; is_under = λ prefix key. false } in
    let total = c.requires.order.total in
    let key = c.args.write.key in
    let left = c.args.walk.now.left in
    let passed = c.args.walk.now.passed in
    edited rules total key left passed c.requires.rise c.requires.end c.requires.below c.args.write.change (change.Put c.in-Put.value) c.in-Put.is _ _ _ c.push-in-None.ensures.left (c.push-in-None.ensures.passed ∙ c.take.ensures.passed)
    (put_none rules total key left passed c.requires.rise c.requires.end c.requires.below c.take.result c.take.new.self.left c.take.ensures.left c.take.ensures.found c.in-None.is c.in-Put.value)

pub returns-in-Some-take-clause-rows : goal.returns-in-Some-take-clause-rows
returns-in-Some-take-clause-rows g c =
    let rules : Rules g.row.K.Denot g.row.V.Denot g.row.F.Denot (Unit {0}) = record { cmp = g.K.Ord.cmp; set = g.F.Field.set; is_under = λ prefix key. false } in
    let total = c.requires.order.total in
    let key = c.args.write.key in
    let left = c.args.walk.now.left in
    let passed = c.args.walk.now.passed in
    edited rules total key left passed c.requires.rise c.requires.end c.requires.below c.args.write.change (change.Patch c.in-Patch.field) c.in-Patch.is _ _ _ c.push-in-Some-take.ensures.left (c.push-in-Some-take.ensures.passed ∙ c.take-in-Patch.ensures.passed)
    (patch_found rules total key left passed c.requires.rise c.requires.end c.requires.below c.take-in-Patch.result c.take-in-Patch.new.self.left c.take-in-Patch.ensures.left c.take-in-Patch.ensures.found (c.in-Some-take.found, c.in-Some-take.value) c.in-Some-take.is c.in-Patch.field _ c.set.ensures)

pub returns-in-Patch-clause-rows : goal.returns-in-Patch-clause-rows
returns-in-Patch-clause-rows g c =
    let rules : Rules g.row.K.Denot g.row.V.Denot g.row.F.Denot (Unit {0}) = record { cmp = g.K.Ord.cmp; set = g.F.Field.set; is_under = λ prefix key. false } in
    let total = c.requires.order.total in
    let key = c.args.write.key in
    let left = c.args.walk.now.left in
    let passed = c.args.walk.now.passed in
    edited rules total key left passed c.requires.rise c.requires.end c.requires.below c.args.write.change (change.Patch c.in-Patch.field) c.in-Patch.is _ _ _ refl c.take-in-Patch.ensures.passed
    (patch_none rules total key left passed c.requires.rise c.requires.end c.requires.below c.take-in-Patch.result c.take-in-Patch.new.self.left c.take-in-Patch.ensures.left c.take-in-Patch.ensures.found c.in_default.is c.in-Patch.field)

pub returns-clause-rows : goal.returns-clause-rows
returns-clause-rows g c =
    let rules : Rules g.row.K.Denot g.row.V.Denot g.row.F.Denot (Unit {0}) = record { cmp = g.K.Ord.cmp; set = g.F.Field.set; is_under = λ prefix key. false } in
    let total = c.requires.order.total in
    let key = c.args.write.key in
    let left = c.args.walk.now.left in
    let passed = c.args.walk.now.passed in
    edited rules total key left passed c.requires.rise c.requires.end c.requires.below c.args.write.change change.DropRow c.in-DropRow.is _ _ _ refl c.take-in-DropRow.ensures.passed
    (drop_found rules total key left passed c.requires.rise c.requires.end c.requires.below c.take-in-DropRow.result c.take-in-DropRow.new.self.left c.take-in-DropRow.ensures.left c.take-in-DropRow.ensures.found)
