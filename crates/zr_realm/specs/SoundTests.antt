-- What holds of a realm's tables, as tests of their rows.
use Rattle.std.specs.Prelude.{ℕ, ◌+◌, Bool, true, false, if◌then◌else◌, not, ◌&&◌, ◌||◌, ◌==◌, bytes_eq, List, [], ◌∷◌}
use Rattle.std.specs.List.{list_all}
use Rattle.zr_types.specs.Tables.{Tables}
use Rattle.zr_types.specs.Sound.{always, is_sent, is_unarchived, is_valid_message, is_valid_reaction, is_valid_receipt, stream_number, is_valid_subscription, user_number}

-- the rows are numbered one by one, from a first number on
abbrev pub count_from : {K V : Type 0} → (K → ℕ) → ℕ → List (K × V) → Bool
count_from number first [] = true
count_from number first (row ∷ rows) = number row.0 == first && count_from number (first + 1) rows

-- what is taken once this text is
abbrev pub with_text : List ℕ → (List ℕ → Bool) → List ℕ → Bool
with_text text taken other = bytes_eq text other || taken other

-- the texts of the rows that count are not taken, and differ
module _ {K V : Type 0} (counts : V → Bool) (text : V → List ℕ) where
  abbrev pub texts_fresh : (List ℕ → Bool) → List (K × V) → Bool
  texts_fresh taken [] = true
  texts_fresh taken (row ∷ rows) =
      if counts row.1
      then not (taken (text row.1)) && texts_fresh (with_text (text row.1) taken) rows
      else texts_fresh taken rows

  abbrev pub texts_differ : List (K × V) → Bool
  texts_differ = texts_fresh (λ other. false)

abbrev pub rows_are_valid : Tables → ℕ → Bool
rows_are_valid tables sent =
    count_from user_number 1 tables.users
    && (count_from stream_number 1 tables.streams
    && (list_all (λ row. is_sent sent row.0 && is_valid_message tables row.1) tables.messages
    && (list_all (λ row. is_valid_subscription tables row.0) tables.subscriptions
    && (list_all (λ row. is_valid_receipt tables row.0) tables.receipts
    && list_all (λ row. is_valid_reaction tables row.0) tables.reactions))))

abbrev pub is_sound : Tables → ℕ → Bool
is_sound tables sent =
    rows_are_valid tables sent
    && (texts_differ is_unarchived (λ row. row.name) tables.streams
    && texts_differ always (λ row. row.email) tables.users)
