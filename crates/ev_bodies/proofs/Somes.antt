-- Objects of members of which each is there or not.
use Rattle.std.proofs.Common.{◌≡◌, ℕ, List, [], ◌∷◌, Bool, true, false, if◌then◌else◌, bytes_eq, Option, None, Some, refl, ap, ◌∙◌}
use Rattle.std.specs.List.{AllByRecursion}
use Rattle.json.proofs.Printed.Utf8.{are_ascii}
use Rattle.serde_json.specs.Data.{Data, object, Members, no_members}
use Rattle.serde_json.specs.Find.{get}
use Rattle.ev_wire.specs.Values.{put_some}
use Rattle.ev_json.proofs.Puts.{ArePlainWithin, IsPlainWithin, get-put, within-none, within-put}
use Rattle.ev_bodies.specs.Fits.{IfThere}

-- members that are put one after another, the last first
abbrev pub somes : List (List ℕ × Option Data) → Members
somes [] = no_members
somes (one ∷ more) = put_some one.0 one.1 (somes more)

abbrev pub first_of : Option Data → Option Data → Option Data
first_of None rest = rest
first_of (Some value) rest = Some value

pub first_of-none : (o : Option Data) → first_of o None ≡ o
first_of-none None = refl
first_of-none (Some value) = refl

abbrev pub pick : Bool → Option Data → Option Data → Option Data
pick true o rest = first_of o rest
pick false o rest = rest

-- the value of a name among them
abbrev pub look_up : List ℕ → List (List ℕ × Option Data) → Option Data
look_up name [] = None
look_up name (one ∷ more) = pick (bytes_eq name one.0) one.1 (look_up name more)

none_picked : (b : Bool) (rest : Option Data) → rest ≡ pick b None rest
none_picked true rest = refl
none_picked false rest = refl

one_picked : (b : Bool) (value : Data) (rest : Option Data) → (if b then Some value else rest) ≡ pick b (Some value) rest
one_picked true value rest = refl
one_picked false value rest = refl

some_found : (name key : List ℕ) (o : Option Data) (members : Members) → get name (object (put_some key o members)) ≡ pick (bytes_eq name key) o (get name (object members))
some_found name key None members = none_picked (bytes_eq name key) (get name (object members))
some_found name key (Some value) members = get-put name key value members ∙ one_picked (bytes_eq name key) value (get name (object members))

pub somes_found : (name : List ℕ) (all : List (List ℕ × Option Data)) → get name (object (somes all)) ≡ look_up name all
somes_found name [] = refl
somes_found name (one ∷ more) = some_found name one.0 one.1 (somes more) ∙ ap (pick (bytes_eq name one.0) one.1) (somes_found name more)

plain_some : (n : ℕ) (key : List ℕ) (o : Option Data) (members : Members) → are_ascii key ≡ true → IfThere (IsPlainWithin n) o → ArePlainWithin n members
    → ArePlainWithin n (put_some key o members)
plain_some n key None ms ascii new old = old
plain_some n key (Some value) members ascii new old = within-put n key value members ascii new old

pub plain_somes : (n : ℕ) (all : List (List ℕ × Option Data)) → AllByRecursion (λ one. (are_ascii one.0 ≡ true) × IfThere (IsPlainWithin n) one.1) all → ArePlainWithin n (somes all)
plain_somes n [] plain = within-none n
plain_somes n (one ∷ more) plain = plain_some n one.0 one.1 (somes more) plain.0.0 plain.0.1 (plain_somes n more plain.1)
