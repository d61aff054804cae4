-- Of messages of which one flag is turned the events of all other flags are none.
use Rattle.std.proofs.Common.{◌≡◌, Bool, true, false, not, ◌&&◌, List, [], ◌++◌, append-nil, ap, refl, ◌∙◌}
use Rattle.std.proofs.Math.Bool.{beq}
use Rattle.ev_base.specs.declared.ids.MessageId.{MessageId}
use Rattle.ev_base.specs.declared.kinds.Flag.{Flag}
use Rattle.ev_base.specs.declared.kinds.Flag.TheVariants as flag
use Rattle.ev_types.specs.Changes.{flag_event, flag_events, flag_in, turned}
use Rattle.ev_types.specs.declared.event.Event.{Event}
use Rattle.ev_types.specs.declared.rows.MessageFlags.{MessageFlags}
use Rattle.ev_types.specs.declared.rows.ShownMessage.{ShownMessage}
use Rattle.nt_marks.proofs.FlagCells.{flags_with, turned_at}
use Rattle.nt_rules.proofs.FieldsStay.{no_flag, unturned}
use Rattle.nt_rules.proofs.WrittenOver.{with_new}

module _ (flag : Flag) (add : Bool) (marked : MessageId → Bool) (rows : List (MessageId × ShownMessage)) where
  abbrev events_of : Flag → Bool → List Event
  events_of kind sign = flag_event (with_new (turned_at flag add marked) rows) kind sign

  abbrev turns : Flag → Bool → MessageFlags → MessageFlags → Bool
  turns kind sign before after = beq (flag_in kind after) sign && not (beq (flag_in kind before) sign)

  other_kind : (kind : Flag) (sign : Bool) → ((flags : MessageFlags) → flag_in kind (flags_with flag add flags) ≡ flag_in kind flags) → events_of kind sign ≡ []
  other_kind kind sign keeps = no_flag (turned_at flag add marked) kind sign (λ row. go row (marked row.0) refl) rows
    where
      go : (row : MessageId × ShownMessage) (b : Bool) → marked row.0 ≡ b → turned kind sign (row.0, (row.1, turned_at flag add marked row)) ≡ false
      go row true is = rw is (ap (λ now. beq now sign && not (beq (flag_in kind row.1.flags) sign)) (keeps row.1.flags) ∙ unturned (flag_in kind row.1.flags) sign)
      go row false is = rw is (unturned (flag_in kind row.1.flags) sign)

  other_sign : (kind : Flag) (sign : Bool) → ((flags : MessageFlags) → beq (flag_in kind (flags_with flag add flags)) sign ≡ false) → events_of kind sign ≡ []
  other_sign kind sign differs = no_flag (turned_at flag add marked) kind sign (λ row. go row (marked row.0) refl) rows
    where
      go : (row : MessageId × ShownMessage) (b : Bool) → marked row.0 ≡ b → turned kind sign (row.0, (row.1, turned_at flag add marked row)) ≡ false
      go row true is = rw is (ap (λ now. now && not (beq (flag_in kind row.1.flags) sign)) (differs row.1.flags))
      go row false is = rw is (unturned (flag_in kind row.1.flags) sign)

-- the events of all flags are those of the one
pub one_flag : (flag : Flag) (add : Bool) (marked : MessageId → Bool) (rows : List (MessageId × ShownMessage))
    → flag_events (with_new (turned_at flag add marked) rows) ≡ flag_event (with_new (turned_at flag add marked) rows) flag add
one_flag flag.Read true marked rows =
    rw (
      other_sign flag.Read true marked rows flag.Read false (λ flags. refl),
      other_kind flag.Read true marked rows flag.Starred true (λ flags. refl),
      other_kind flag.Read true marked rows flag.Starred false (λ flags. refl),
      other_kind flag.Read true marked rows flag.Collapsed true (λ flags. refl),
      other_kind flag.Read true marked rows flag.Collapsed false (λ flags. refl),
    ) (simp append-nil)
one_flag flag.Read false marked rows =
    rw (
      other_sign flag.Read false marked rows flag.Read true (λ flags. refl),
      other_kind flag.Read false marked rows flag.Starred true (λ flags. refl),
      other_kind flag.Read false marked rows flag.Starred false (λ flags. refl),
      other_kind flag.Read false marked rows flag.Collapsed true (λ flags. refl),
      other_kind flag.Read false marked rows flag.Collapsed false (λ flags. refl),
    ) (simp append-nil)
one_flag flag.Starred true marked rows =
    rw (
      other_kind flag.Starred true marked rows flag.Read true (λ flags. refl),
      other_kind flag.Starred true marked rows flag.Read false (λ flags. refl),
      other_sign flag.Starred true marked rows flag.Starred false (λ flags. refl),
      other_kind flag.Starred true marked rows flag.Collapsed true (λ flags. refl),
      other_kind flag.Starred true marked rows flag.Collapsed false (λ flags. refl),
    ) (simp append-nil)
one_flag flag.Starred false marked rows =
    rw (
      other_kind flag.Starred false marked rows flag.Read true (λ flags. refl),
      other_kind flag.Starred false marked rows flag.Read false (λ flags. refl),
      other_sign flag.Starred false marked rows flag.Starred true (λ flags. refl),
      other_kind flag.Starred false marked rows flag.Collapsed true (λ flags. refl),
      other_kind flag.Starred false marked rows flag.Collapsed false (λ flags. refl),
    ) (simp append-nil)
one_flag flag.Collapsed true marked rows =
    rw (
      other_kind flag.Collapsed true marked rows flag.Read true (λ flags. refl),
      other_kind flag.Collapsed true marked rows flag.Read false (λ flags. refl),
      other_kind flag.Collapsed true marked rows flag.Starred true (λ flags. refl),
      other_kind flag.Collapsed true marked rows flag.Starred false (λ flags. refl),
      other_sign flag.Collapsed true marked rows flag.Collapsed false (λ flags. refl),
    ) (simp append-nil)
one_flag flag.Collapsed false marked rows =
    rw (
      other_kind flag.Collapsed false marked rows flag.Read true (λ flags. refl),
      other_kind flag.Collapsed false marked rows flag.Read false (λ flags. refl),
      other_kind flag.Collapsed false marked rows flag.Starred true (λ flags. refl),
      other_kind flag.Collapsed false marked rows flag.Starred false (λ flags. refl),
      other_sign flag.Collapsed false marked rows flag.Collapsed true (λ flags. refl),
    ) refl
