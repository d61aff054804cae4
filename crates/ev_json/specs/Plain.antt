-- JSON values as bodies have them: numbers are integers of 64 bits, texts and keys are UTF-8, and the keys of an object rise by
-- their bytes.
use Rattle.std.specs.Prelude.{IsUtf8, ◌≡◌, ℕ, ◌<◌, ◌^◌, pos, negsuc, List, ⊤}
use Rattle.std.specs.Ordering.{nat_cmp}
use Rattle.std.specs.declared.cmp.Ordering.TheVariants.{Less}
use Rattle.std.specs.Cmp.Lexicographic.{slice_cmp}
use Rattle.serde_json.specs.Data.{Num, unsigned, negative, float, Data, null, boolean, number, string, array, object, Items, no_items, item, Members, no_members, member}

-- an integer of 64 bits. A negative number is below 0
abbrev pub IsPlainNumber : Num → Type 0
IsPlainNumber (unsigned n) = n < 2 ^ 64
IsPlainNumber (negative (pos n)) = ⊥
IsPlainNumber (negative (negsuc n)) = n < 2 ^ 63
IsPlainNumber (float x) = ⊥

-- the key is below those of all the members
abbrev pub IsBelowKeys : List ℕ → Members → Type 0
IsBelowKeys key no_members = ⊤
IsBelowKeys key (member other value members) = (slice_cmp nat_cmp key other ≡ Less) × IsBelowKeys key members

-- the keys of the members rise
abbrev pub KeysRise : Members → Type 0
KeysRise no_members = ⊤
KeysRise (member key value members) = IsBelowKeys key members × KeysRise members

abbrev mutual
  pub IsPlain : Data → Type 0
  IsPlain null = ⊤
  IsPlain (boolean b) = ⊤
  IsPlain (number n) = IsPlainNumber n
  IsPlain (string s) = IsUtf8 s
  IsPlain (array values) = ArePlain values
  IsPlain (object members) = MembersArePlain members × KeysRise members

  pub ArePlain : Items → Type 0
  ArePlain no_items = ⊤
  ArePlain (item value values) = IsPlain value × ArePlain values

  pub MembersArePlain : Members → Type 0
  MembersArePlain no_members = ⊤
  MembersArePlain (member key value members) = (IsUtf8 key × IsPlain value) × MembersArePlain members
