use Rattle.std.proofs.Common.{◌≡◌, ◌∙◌, Some, ap, rules, sym}
use Rattle.std.specs.Map.{set_value}
use Rattle.std.specs.BTreeMap.{is_at}
use Rattle.ev_base.specs.declared.place.Place.TheVariants as place
use Rattle.ev_base.specs.Orders.{message_cmp, message_order}
use Rattle.zr_types.specs.Commands.{target_of}
use Rattle.zr_realm.proofs.RowEdits.{changed_in_place}
use Rattle.zr_realm.proofs.posts.set_place.Goals as goal

pub returns-in-Stream-clause-messages : goal.returns-in-Stream-clause-messages
returns-in-Stream-clause-messages c =
    let to = c.args.to in
    let topic = c.args.topic in
    let old = c.in-Some.row.now in
    let moved : place.Stream c.unwrap_or-stream.result topic ≡ target_of old.place to (Some topic) =
    ap (λ stream. place.Stream stream topic) c.unwrap_or-stream.ensures ∙ sym (ap (λ p. target_of p to (Some topic)) c.in-Stream.is) in
    ap (λ p. set_value (is_at (message_cmp c.args.message)) c.args.posts.now.messages.rows (record old { place = p })) moved
    ∙ changed_in_place message_order c.args.message (λ row. record row { place = target_of row.place to (Some topic) }) old c.args.posts.now.messages.rows
    c.requires.sorted (search rules)

pub returns-in_default-place-clause-messages : goal.returns-in_default-place-clause-messages
returns-in_default-place-clause-messages c =
    let to = c.args.to in
    let topic = c.args.topic in
    let old = c.in-Some.row.now in
    let stays : old.place ≡ target_of old.place to (Some topic) = c.in_default-place.is ∙ sym (ap (λ p. target_of p to (Some topic)) c.in_default-place.is) in
    ap (λ p. set_value (is_at (message_cmp c.args.message)) c.args.posts.now.messages.rows (record old { place = p })) stays
    ∙ changed_in_place message_order c.args.message (λ row. record row { place = target_of row.place to (Some topic) }) old c.args.posts.now.messages.rows
    c.requires.sorted (search rules)
