-- Changes of flags that are alike.
use Rattle.std.proofs.Common.{◌≡◌, Bool, true, false, ◌&&◌, sym, refl, ◌∙◌, true≢false}
use Rattle.std.proofs.lemmas.Bool.{and_parts}
use Rattle.ev_base.specs.declared.kinds.Flag.{Flag}
use Rattle.ev_base.specs.declared.kinds.Flag.TheVariants.{Read, Starred, Collapsed}
use Rattle.ev_types.specs.declared.event.FlagChange.{FlagChange}
use Rattle.ev_groups.specs.Groups.{same_flag, same_bool, is_grouped, are_alike}

pub same_flag_itself : (f : Flag) → same_flag f f ≡ true
same_flag_itself Read = refl
same_flag_itself Starred = refl
same_flag_itself Collapsed = refl

pub same_flag_is : (a b : Flag) → same_flag a b ≡ true → a ≡ b
same_flag_is Read Read same = refl
same_flag_is Starred Starred same = refl
same_flag_is Collapsed Collapsed same = refl
same_flag_is a b same = absurd (true≢false (sym same))

same_bool_is : (a b : Bool) → same_bool a b ≡ true → a ≡ b
same_bool_is true b same = sym same
same_bool_is false true same = absurd (true≢false (sym same))
same_bool_is false false same = refl

-- changes that are alike are of one flag, and both add it or remove it
pub record Alike (group change : FlagChange) : Type 0 where
  pub flag : group.flag ≡ change.flag
  pub add : group.add ≡ change.add
  pub grouped : is_grouped change.flag change.add ≡ true

pub alike_parts : (group change : FlagChange) → are_alike group change ≡ true → Alike group change
alike_parts group change alike =
    let parts = and_parts (is_grouped group.flag group.add) (same_flag group.flag change.flag && same_bool group.add change.add) alike in
    let same = and_parts (same_flag group.flag change.flag) (same_bool group.add change.add) parts.1 in
    let flag = same_flag_is group.flag change.flag same.0 in
    let add = same_bool_is group.add change.add same.1 in
    record { flag = flag; add = add; grouped = sym (λ i. is_grouped (flag i) (add i)) ∙ parts.0 }
