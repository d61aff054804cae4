-- The JSON that texts are.
use Rattle.std.specs.Prelude.{◌≡◌, ℕ, ◌^◌, ◌&&◌, Bool, nat_le, nat_lt, if◌then◌else◌, unwrap_or, List, [], ◌∷◌, ◌++◌, length, ⊤, Option, Some, None, option_map, option_and_then, Result, Ok, Err}
use Rattle.std.specs.List.{list_all}
use Rattle.ev_base.specs.declared.ids.MessageId.{MessageId}
use Rattle.ev_base.specs.declared.ids.UserId.{UserId}
use Rattle.hw_values.specs.Numbers.{id_of}
use Rattle.hw_values.specs.declared.fault.NoValue.{NoValue}
use Rattle.hw_values.specs.declared.fault.NoValue.TheVariants.{NotOne, NoMemory}
use Rattle.hw_values.specs.declared.json.NameList.{NameList}
use Rattle.hw_values.specs.declared.json.NameList.TheVariants.{Null, Names}
use Rattle.serde_json.specs.Data.{Data, null, boolean, number, string, array, object, Items, no_items, item}
use Rattle.serde_json.specs.Find.{as_number, as_str, as_u64}
use Rattle.serde_json.specs.Read.{read}
use Rattle.serde_json.specs.View.{view}
use Rattle.serde_json.specs.declared.value.Value.{Value}
use Rattle.zr_types.specs.declared.command.StreamRef.{StreamRef}
use Rattle.zr_types.specs.declared.command.StreamRef.TheVariants.{Id, Name}
use Rattle.zs_words.specs.Numbers.{is_digit}

abbrev pub list_of : Items → List Data
list_of no_items = []
list_of (item d ds) = d ∷ list_of ds

-- the elements of a list
abbrev pub elements_of : Data → Option (List Data)
elements_of null = None
elements_of (boolean truth) = None
elements_of (number n) = None
elements_of (string text) = None
elements_of (array ds) = Some (list_of ds)
elements_of (object ms) = None

abbrev pub with_one : {A : Type 0} → List A → Option A → (List A → Option (List A)) → Option (List A)
with_one before None onward = None
with_one before (Some value) onward = onward (before ++ (value ∷ []))

-- these values, and behind them those of the elements, where each element has one
abbrev pub values_onto : {A : Type 0} → (Data → Option A) → List A → List Data → Option (List A)
values_onto held before [] = Some before
values_onto held before (d ∷ ds) = with_one before (held d) (λ more. values_onto held more ds)

-- the values of the elements of a list
abbrev pub values_in : {A : Type 0} → (Data → Option A) → Data → Option (List A)
values_in held d = option_and_then (values_onto held []) (elements_of d)

-- the same of the list that a text is
unfoldable pub values_of : {A : Type 0} → (Data → Option A) → List ℕ → Option (List A)
values_of held text = option_and_then (values_in held) (read text)

abbrev pub of_32_bits : ℕ → Option ℕ
of_32_bits n = if nat_lt n (2 ^ 32) then Some n else None

-- an id: a number without sign, of 32 bits
abbrev pub id_in : Data → Option ℕ
id_in d = option_and_then of_32_bits (option_and_then as_u64 (as_number d))

abbrev pub user_in : Data → Option UserId
user_in d = option_map (λ id. record { 0 = id }) (id_in d)

abbrev pub message_in : Data → Option MessageId
message_in d = option_map (λ id. record { 0 = id }) (id_in d)

-- a list of texts, or null
abbrev pub names_in : Data → Option NameList
names_in null = Some Null
names_in (boolean truth) = None
names_in (number n) = None
names_in (string text) = None
names_in (array ds) = option_map Names (values_in as_str (array ds))
names_in (object ms) = None

unfoldable pub names_of : List ℕ → Option NameList
names_of text = option_and_then names_in (read text)

abbrev pub are_digits : List ℕ → Bool
are_digits text = nat_le 1 (length text) && list_all is_digit text

-- what a JSON string says, and else the text as it stands
unfoldable pub name_of : List ℕ → List ℕ
name_of text = unwrap_or (option_and_then as_str (read text)) text

-- a stream: by its id where all is digits, and else by its name
abbrev pub stream_ref_of : List ℕ → Option StreamRef
stream_ref_of text = if are_digits text then option_map (λ id. Id (record { 0 = id })) (id_of text) else Some (Name (name_of text))

-- a value is the JSON that was read, or there is none, unless memory ran out
abbrev pub ReadsJson : Result Value NoValue → Option Data → Type 0
ReadsJson (Ok value) json = json ≡ Some (view value)
ReadsJson (Err NotOne) json = json ≡ None
ReadsJson (Err NoMemory) json = ⊤
