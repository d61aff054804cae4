-- The numbers of the roles.
use Rattle.std.specs.Prelude.{ℕ, List, [], ◌∷◌, ◌==◌, Option, find}
use Rattle.ev_base.specs.declared.kinds.Role.{Role}
use Rattle.ev_base.specs.declared.kinds.Role.TheVariants.{Owner, Administrator, Moderator, Member, Guest}

-- the number of a role
abbrev pub role_number : Role → ℕ
role_number Owner = 100
role_number Administrator = 200
role_number Moderator = 300
role_number Member = 400
role_number Guest = 600

-- all roles
abbrev pub all_roles : List Role
all_roles = Owner ∷ Administrator ∷ Moderator ∷ Member ∷ Guest ∷ []

-- the role with a number
abbrev pub role_of : ℕ → Option Role
role_of number = find (λ role. role_number role == number) all_roles
