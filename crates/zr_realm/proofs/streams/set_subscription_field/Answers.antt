use Rattle.std.proofs.Common.{◌≡◌, ◌∙◌, [], ◌∷◌, ap, map, rules, sym}
use Rattle.ev_base.specs.Orders.{user_stream_order}
use Rattle.zr_types.specs.declared.command.SubField.TheVariants as sub
use Rattle.zr_types.specs.Commands.{color_of}
use Rattle.zr_types.specs.Effects.{subscription_with}
use Rattle.zr_realm.proofs.RowEdits.{changed_in_place}
use Rattle.zr_realm.proofs.streams.set_subscription_field.Goals as goal

pub returns-in-Some-clause-subscriptions : goal.returns-in-Some-clause-subscriptions
returns-in-Some-clause-subscriptions c =
    rw c.in-PinToTop.is
    (changed_in_place user_stream_order c.args.key (subscription_with (sub.PinToTop c.in-PinToTop.pin_to_top)) c.in-Some.row.now c.args.streams.now.subscriptions.rows
    c.requires.sorted (search rules))

pub returns-in-IsMuted-clause-subscriptions : goal.returns-in-IsMuted-clause-subscriptions
returns-in-IsMuted-clause-subscriptions c =
    rw c.in-IsMuted.is
    (changed_in_place user_stream_order c.args.key (subscription_with (sub.IsMuted c.in-IsMuted.is_muted)) c.in-Some.row.now c.args.streams.now.subscriptions.rows
    c.requires.sorted (search rules))

pub returns-in-Color-clause-subscriptions : goal.returns-in-Color-clause-subscriptions
returns-in-Color-clause-subscriptions c =
    let texts_are : c.in-Color.field-0 ∷ [] ≡ c.take.result ∷ c.take.new.self =
    ap (λ value. map (λ text. text.1) (color_of value)) (sym c.in-Color.is) ∙ sym c.requires.texts ∙ c.take.ensures in
    let same : c.take.result ≡ c.in-Color.field-0 = cc in
    rw (c.in-Color.is, same)
    (changed_in_place user_stream_order c.args.key (subscription_with (sub.Color c.in-Color.field-0)) c.in-Some.row.now c.args.streams.now.subscriptions.rows
    c.requires.sorted (search rules))
