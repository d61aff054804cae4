use Rattle.std.proofs.Common.{◌∙◌, ap, sym, subst, ◌∷◌, ◌++◌, []}
use Rattle.ev_types.specs.Writes.{Rules}
use Rattle.ev_apply.specs.Kinds.{covered}
use Rattle.ev_apply.specs.Lasts.{Lasts}
use Rattle.ev_apply.proofs.Prefixes.{covered_insert}
use Rattle.ev_apply.proofs.LastsLemmas.{lasts_drop, lasts_row}
use Rattle.ev_apply.proofs.lasting.Lasting.take.Goals as goal

pub returns-in_ok-insert-in-DropUnder : goal.returns-in_ok-insert-in-DropUnder
returns-in_ok-insert-in-DropUnder g c = λ order later lasts.
    let rules : Rules g.row.K.Denot g.row.V.Denot g.row.F.Denot g.row.P.Denot = record { cmp = g.K.Ord.cmp; set = g.F.Field.set; is_under = g.P.Prefix.is_under } in
    let prefix = c.in-DropUnder.prefix in
    let old = c.args.self.now.dropped.keys in
    let new = c.insert.new.self.keys in
    let grown = λ (q : g.row.K.Denot). ap (λ keys. covered rules.is_under keys q) c.in_ok-insert-in-DropUnder.ensures.keys
    ∙ covered_insert g.P.Ord.cmp rules.is_under g.met.P.Prefix.alike prefix q old in
    subst (λ write. Lasts rules new c.args.self.now.writes.items (write ∷ later)) c.in-DropUnder.ensures
    (lasts_drop rules old new prefix c.args.self.now.writes.items later grown lasts)

pub returns-in_ok-push-in-Row : goal.returns-in_ok-push-in-Row
returns-in_ok-push-in-Row g c = λ order later lasts.
    let rules : Rules g.row.K.Denot g.row.V.Denot g.row.F.Denot g.row.P.Denot = record { cmp = g.K.Ord.cmp; set = g.F.Field.set; is_under = g.P.Prefix.is_under } in
    let dropped = c.args.self.now.dropped.keys in
    let old = c.args.self.now.writes.items in
    let done = lasts_row rules order dropped c.in-Row.write old later lasts (sym c.cover.ensures ∙ c.if-not-cover.true) in
    subst (λ items. Lasts rules dropped items (c.args.write ∷ later)) (sym c.in_ok-push-in-Row.ensures.items)
    (subst (λ write. Lasts rules dropped (old ++ c.in-Row.write ∷ []) (write ∷ later)) c.in-Row.ensures done)
