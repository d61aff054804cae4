-- What tests of equality tell.
use Rattle.std.proofs.Common.{◌≡◌, ℕ, Bool, true, false, ◌==◌, ◌&&◌, List, bytes_eq, Some, sym, ap, refl, ◌∙◌}
use Rattle.std.proofs.Math.Bool.{beq}
use denote.Enum.Bare.{sameb, same_true, true_same}
use Rattle.ev_base.specs.contracts.kinds.Role.{the_type}
use Rattle.std.specs.Cmp.{booleans_Decides, tied_then}
use Rattle.std.specs.Cmp.Lexicographic.{bytes_decides}
use Rattle.std.specs.Ordering.{nat_cmp, is_eq, ordering_then}
use Rattle.std.specs.declared.cmp.Ordering.{Ordering}
use Rattle.std.proofs.lemmas.Bool.{eqb-true, eq-eqb}
use Rattle.std.proofs.lemmas.Cmp.{nat_cmp_total}
use Rattle.std.proofs.lemmas.Map.Lookups.{exact_unsigned}
use Rattle.std.proofs.lemmas.Option.{same_Some}
use Rattle.ev_rows.specs.KeyOrder.{KeyOrder}
use Rattle.ev_rows.proofs.RowLemmas.{at_same, at_itself}
use Rattle.ev_base.specs.Roles.{role_number, role_of}
use Rattle.ev_base.specs.declared.kinds.Role.{Role}
use Rattle.ev_base.specs.declared.kinds.Role.TheVariants as role

pub texts_same : (a b : List ℕ) → bytes_eq a b ≡ true → b ≡ a
texts_same a b same = sym ((bytes_decides a b).0 same)

pub bools_same : (a b : Bool) → beq a b ≡ true → b ≡ a
bools_same a b same = sym ((booleans_Decides a b).0 same)

read_back : (r : Role) → role_of (role_number r) ≡ Some r
read_back role.Owner = refl
read_back role.Administrator = refl
read_back role.Moderator = refl
read_back role.Member = refl
read_back role.Guest = refl

pub roles_same : (a b : Role) → (role_number a == role_number b) ≡ true → b ≡ a
roles_same a b same = same_Some b a (sym (read_back b) ∙ ap role_of (sym (eqb-true (role_number a) (role_number b) same)) ∙ read_back a)

-- numbers are the same where they compare as equal
number_keys : KeyOrder nat_cmp
number_keys = record { total = nat_cmp_total; exact = exact_unsigned }

pub numbers_at : (a b : ℕ) → (a == b) ≡ is_eq (nat_cmp a b)
numbers_at a b = go (a == b) (is_eq (nat_cmp a b)) refl refl
  where
    go : (x y : Bool) → (a == b) ≡ x → is_eq (nat_cmp a b) ≡ y → x ≡ y
    go true true is at = refl
    go true false is at = sym (sym at ∙ ap (λ (n : ℕ). is_eq (nat_cmp a n)) (sym (eqb-true a b is)) ∙ at_itself number_keys a)
    go false true is at = sym is ∙ eq-eqb a b (at_same number_keys a b at)
    go false false is at = refl

-- a pair is at a key where its parts are
pub then_at : (a b : Ordering) (x y : Bool) → is_eq a ≡ x → is_eq b ≡ y → is_eq (ordering_then a b) ≡ (x && y)
then_at a b x y first second = sym (tied_then a b) ∙ ap (λ (z : Bool). z && is_eq b) first ∙ ap (λ (z : Bool). x && z) second

-- the code's test of equality, as the definition has it
pub roles_alike : (a b : Role) → sameb the_type a b ≡ (role_number a == role_number b)
roles_alike a b = go (sameb the_type a b) (role_number a == role_number b) refl refl
  where
    go : (x y : Bool) → sameb the_type a b ≡ x → (role_number a == role_number b) ≡ y → x ≡ y
    go true true is numbers = refl
    go true false is numbers =
        let same : a ≡ b = same_true the_type tt a b is in
        sym (eq-eqb (role_number a) (role_number b) (ap role_number same)) ∙ numbers
    go false true is numbers = sym is ∙ true_same the_type a b (sym (roles_same a b numbers))
    go false false is numbers = refl
