-- The words that texts are.
use Rattle.std.specs.Prelude.{ℕ, Bool, List, codes, if◌then◌else◌, Option, Some, None, find, bytes_eq}
use Rattle.ev_base.specs.declared.kinds.Flag.{Flag}
use Rattle.ev_base.specs.declared.kinds.Role.{Role}
use Rattle.ev_base.specs.declared.kinds.Role.TheVariants.{Owner, Administrator, Moderator, Member, Guest}
use Rattle.hw_values.specs.declared.words.EmptyList.{EmptyList}
use Rattle.hw_values.specs.declared.words.False.{False}
use Rattle.hw_values.specs.declared.words.MessageType.{MessageType}
use Rattle.hw_values.specs.declared.words.MessageType.TheVariants.{Stream, Direct}
use Rattle.zr_types.specs.declared.command.Mode.{Mode}
use Rattle.zr_types.specs.declared.command.Mode.TheVariants.{One, Later, All}
use Rattle.zs_words.specs.Names.{flags, flag_name, operations, operation_name, sub_properties, sub_name, truth_values, truth_name}
use Rattle.zs_words.specs.declared.names.Operation.{Operation}
use Rattle.zs_words.specs.declared.names.SubProperty.{SubProperty}

-- the one of these values whose name the text is
abbrev pub named : {A : Type 0} → List A → (A → List ℕ) → List ℕ → Option A
named values name_of text = find (λ value. bytes_eq (name_of value) text) values

abbrev pub truth_of : List ℕ → Option Bool
truth_of text = named truth_values truth_name text

abbrev pub flag_of : List ℕ → Option Flag
flag_of text = named flags flag_name text

abbrev pub operation_of : List ℕ → Option Operation
operation_of text = named operations operation_name text

abbrev pub property_of : List ℕ → Option SubProperty
property_of text = named sub_properties sub_name text

-- the role whose number the text is
abbrev pub role_of : List ℕ → Option Role
role_of text =
    if bytes_eq text (codes "100") then Some Owner
    else if bytes_eq text (codes "200") then Some Administrator
    else if bytes_eq text (codes "300") then Some Moderator
    else if bytes_eq text (codes "400") then Some Member
    else if bytes_eq text (codes "600") then Some Guest
    else None

-- which messages move
abbrev pub mode_of : List ℕ → Option Mode
mode_of text =
    if bytes_eq text (codes "change_one") then Some One
    else if bytes_eq text (codes "change_later") then Some Later
    else if bytes_eq text (codes "change_all") then Some All
    else None

-- where a message is sent; both have an old name and a new one
abbrev pub type_of : List ℕ → Option MessageType
type_of text =
    if bytes_eq text (codes "stream") then Some Stream
    else if bytes_eq text (codes "channel") then Some Stream
    else if bytes_eq text (codes "private") then Some Direct
    else if bytes_eq text (codes "direct") then Some Direct
    else None

-- `false` alone
abbrev pub false_of : List ℕ → Option False
false_of text = if bytes_eq text (codes "false") then Some (record {}) else None

-- `[]` alone
abbrev pub empty_of : List ℕ → Option EmptyList
empty_of text = if bytes_eq text (codes "[]") then Some (record {}) else None
