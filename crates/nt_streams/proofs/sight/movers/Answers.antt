use Rattle.std.proofs.Common.{◌≡◌, List, IfOk, ◌∷◌, [], if◌then◌else◌, ◌∙◌, ap, sym, subst, rules}
use Rattle.ev_rows.specs.Rows.{SortedByKey}
use Rattle.ev_base.specs.Orders.{user_cmp}
use Rattle.ev_base.specs.declared.ids.UserId.{UserId}
use Rattle.nt_streams.specs.Sights.{IsAsOpen}
use Rattle.nt_streams.proofs.Movers.{movers_are}
use Rattle.zr_types.specs.Tables.{stream_at}
use Rattle.nt_streams.proofs.sight.movers.Goals as goal

pub returns : goal.returns
returns c =
    let tables = c.args.realm.now.state.tables in
    let turn = c.args.turn.now in
    let same : IsAsOpen (stream_at tables turn.stream) turn.row = search rules in
    let rise = subst (λ rows. SortedByKey user_cmp rows) c.requires.users c.requires.rise in
    subst (λ (users : List UserId). IfOk c.only.result (λ only. only.items ≡ users))
    (ap (λ has. if has then turn.user ∷ [] else []) c.has_sight.ensures ∙ sym (movers_are tables turn same c.args.sight c.requires.moves rise))
    c.only.ensures
