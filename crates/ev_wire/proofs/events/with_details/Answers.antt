use Rattle.std.proofs.Common.{◌∙◌, codes, ap, sym}
use Rattle.std.proofs.lemmas.Result.{IfOk-weaker}
use Rattle.serde_json.specs.Data.{Data, put}
use Rattle.ev_wire.specs.Rows.{unread_data}
use Rattle.ev_wire.specs.Values.{list_data, put_in}
use Rattle.ev_wire.proofs.Told.{details_told}
use Rattle.ev_wire.proofs.events.with_details.Goals as goal

pub returns : goal.returns
returns c =
    let members = put_in c.args.members in
    let details_are =
    ap (λ (value : Data). put (codes "message_details") value members) (c.in_ok-details.ensures ∙ ap (list_data unread_data) c.as_slice.ensures) in
    IfOk-weaker c.with.result _ _
    (λ all is. is ∙ details_are ∙ details_told c.args.change.now members (sym c.tells_details.ensures ∙ c.if-not-tells_details.false)) c.with.ensures
