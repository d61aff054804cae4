-- A command is refused for a reason of its own, or else for one that every command has.
use Rattle.std.proofs.Common.{◌≡◌, ◌⊎◌, inl, inr, ◌∙◌, ℕ, Bool, List, [], ◌∷◌, length, false, refl, ap}
use Rattle.std.specs.List.{list_any, sum_by}
use Rattle.std.specs.Option.{is_some}
use Rattle.ev_base.specs.declared.text.TextKind.{TextKind}
use Rattle.ev_base.specs.Texts.{fault_of}
use Rattle.zr_types.specs.declared.command.Command.TheVariants.{Streams}
use Rattle.zr_types.specs.declared.command.StreamCommand.TheVariants as of_streams
use Rattle.zr_types.specs.declared.command.SubField.{SubField}
use Rattle.zr_types.specs.declared.command.SubField.TheVariants as sub
use Rattle.zr_types.specs.Commands.{color_of}
use Rattle.zr_types.specs.Refusals.{first_reason, own_reasons}
use Rattle.cmd_rules.proofs.RefusalLemmas.{refused_as, refused_known}
use Rattle.cmd_streams.proofs.checks.texts_of_sub_property.Goals as goal

pub returns-in-Color-clause-refused : goal.returns-in-Color-clause-refused
returns-in-Color-clause-refused c =
    let set = λ (value : SubField). Streams (of_streams.SubProperty c.args.stream value) in
    c.accepted_texts.ensures.refused
    ∙ refused_as c.args.realm.now.state c.args.actor (set c.args.value.now) (set (sub.Color c.in-Color.color))
    c.refusal_of_sub_property-own.result (c.new.result ∷ []) false (ap set c.in-Color.is) c.requires
    (c.refusal_of_sub_property-own.ensures
    ∙ ap (λ value. first_reason (own_reasons c.args.realm.now.state c.args.actor (set value))) c.in-Color.is)
    (cc) (cc) refl

no_color : (value : SubField) → ((x : Bool) × (value ≡ sub.IsMuted x)) ⊎ ((x : Bool) × (value ≡ sub.PinToTop x)) → color_of value ≡ []
no_color value (inl muted) = ap color_of muted.1
no_color value (inr pinned) = ap color_of pinned.1

pub returns-in-IsMuted-clause-refused : goal.returns-in-IsMuted-clause-refused
returns-in-IsMuted-clause-refused c =
    let none = no_color c.args.value.now c.in-IsMuted.is in
    c.accepted_texts-in-IsMuted.ensures.refused
    ∙ refused_known c.args.realm.now.state c.args.actor (Streams (of_streams.SubProperty c.args.stream c.args.value.now))
    c.refusal_of_sub_property-own.result [] false c.requires c.refusal_of_sub_property-own.ensures
    (ap (λ (texts : List (TextKind × List ℕ)). list_any (λ text. is_some (fault_of text.0 text.1)) texts) none)
    (ap (λ (texts : List (TextKind × List ℕ)). sum_by (λ text. length text.1) texts) none) refl
