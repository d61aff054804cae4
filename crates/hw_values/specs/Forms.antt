-- The parameters that a query and a body give.
use Rattle.std.specs.Prelude.{ℕ, Bool, List, [], ◌∷◌, ◌++◌, map, Option, Some, None, Result, Ok, Err, if◌then◌else◌}
use Rattle.std.specs.List.{list_any}
use Rattle.std.specs.Option.{is_some}
use Rattle.std.specs.Str.{bytes_eq}
use Rattle.std.specs.Str.Lossy.{utf8_lossy}
use Rattle.form_urlencoded.specs.Form.{decode, raw_pairs}
use Rattle.hw_values.specs.Params.{param_name}
use Rattle.hw_values.specs.declared.fault.ValueFault.{ValueFault}
use Rattle.hw_values.specs.declared.fault.ValueFault.TheVariants.{Missing, BadValue}
use Rattle.hw_values.specs.declared.param.Param.{Param}

-- names with their values
abbrev pub Pairs : Type 0
Pairs = List (List ℕ × List ℕ)

-- a name and a value, with each byte that is no UTF-8 replaced
abbrev pub decoded : List ℕ × List ℕ → List ℕ × List ℕ
decoded pair = (utf8_lossy (decode pair.0), utf8_lossy (decode pair.1))

-- the pairs that a form gives
abbrev pub pairs_of : List ℕ → Pairs
pairs_of form = map decoded (raw_pairs form)

-- those of a query, and behind them those of a body
abbrev pub parameters : List ℕ → List ℕ → Pairs
parameters query body = pairs_of query ++ pairs_of body

-- the value of a pair with this name, and else the one before
abbrev pub newer : List ℕ → Option (List ℕ) → List ℕ × List ℕ → Option (List ℕ)
newer name before pair = if bytes_eq pair.0 name then Some pair.1 else before

-- of the pairs with this name the last one's value, and else the one before
abbrev pub latest : List ℕ → Option (List ℕ) → Pairs → Option (List ℕ)
latest name before [] = before
latest name before (pair ∷ pairs) = latest name (newer name before pair) pairs

-- the text of a parameter; of equal names the last counts
unfoldable pub text_given : Param → Pairs → Option (List ℕ)
text_given param pairs = latest (param_name param) None pairs

abbrev pub is_given : Pairs → Param → Bool
is_given pairs param = is_some (text_given param pairs)

abbrev pub or_bad : {A : Type 0} → Param → Option A → Result A ValueFault
or_bad param None = Err (BadValue param)
or_bad param (Some value) = Ok value

abbrev pub or_missing : {A : Type 0} → Param → (List ℕ → Option A) → Option (List ℕ) → Result A ValueFault
or_missing param reads None = Err (Missing param)
or_missing param reads (Some text) = or_bad param (reads text)

abbrev pub some_ok : {A : Type 0} → Result A ValueFault → Result (Option A) ValueFault
some_ok (Ok value) = Ok (Some value)
some_ok (Err fault) = Err fault

abbrev pub or_none : {A : Type 0} → Param → (List ℕ → Option A) → Option (List ℕ) → Result (Option A) ValueFault
or_none param reads None = Ok None
or_none param reads (Some text) = some_ok (or_bad param (reads text))

-- the value of a parameter that has to be given
abbrev pub needed : {A : Type 0} → (List ℕ → Option A) → Param → Pairs → Result A ValueFault
needed reads param pairs = or_missing param reads (text_given param pairs)

-- the value of a parameter that may be given
abbrev pub optional : {A : Type 0} → (List ℕ → Option A) → Param → Pairs → Result (Option A) ValueFault
optional reads param pairs = or_none param reads (text_given param pairs)

-- one of the parameters is given
abbrev pub any_given : List Param → Pairs → Bool
any_given params pairs = list_any (is_given pairs) params
