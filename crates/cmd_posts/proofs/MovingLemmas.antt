-- The messages that move with one: that one alone, or a filter of all.
use Rattle.std.proofs.Common.{◌≡◌, ℕ, Bool, true, false, ◌==◌, List, [], ◌∷◌, map, filter, Some, Equal, Ordering, refl, ap, sym, ◌∙◌, arith}
use Rattle.std.specs.Option.{option_map_or}
use Rattle.std.specs.Ordering.{is_eq, nat_cmp}
use Rattle.std.specs.Map.{keys_of}
use Rattle.std.proofs.lemmas.Bool.Decides.{nat_tests}
use Rattle.ev_rows.specs.Rows.{SortedByKey, one_row, only_if, row_at}
use Rattle.ev_rows.proofs.RiseLemmas.{rise-filter}
use Rattle.ev_rows.proofs.RowLemmas.{only_at, row_at-filter_keys}
use Rattle.ev_base.specs.Orders.{message_cmp, message_order}
use Rattle.ev_base.specs.declared.ids.MessageId.{MessageId}
use Rattle.zr_types.specs.declared.command.Mode.{Mode}
use Rattle.zr_types.specs.declared.command.Mode.TheVariants.{One}
use Rattle.zr_types.specs.declared.posts.Message.{Message}
use Rattle.zr_types.specs.Commands.{moves_with, moving}
use Rattle.zr_types.specs.Tables.{Tables, message_at}
use Rattle.cmd_posts.proofs.FoundRows.{map-keys_of}

same_number : (m : ℕ) → (m == m) ≡ true
same_number m = go (m == m) refl
  where
    go : (b : Bool) → (m == m) ≡ b → b ≡ true
    go true is = refl
    go false is = absurd (grind (arith, nat_tests))

other_number : (q m : ℕ) → is_eq (nat_cmp q m) ≡ false → (q == m) ≡ false
other_number q m off = go (q == m) refl (nat_cmp q m) refl off
  where
    go : (b : Bool) → (q == m) ≡ b → (o : Ordering) → nat_cmp q m ≡ o → is_eq o ≡ false → b ≡ false
    go true is Equal same off = cc
    go true is o other off = absurd (grind (arith, nat_tests))
    go false is o order off = refl

module _ (message : MessageId) (row : Message) where
  one_row_of : (rows : List (MessageId × Message)) → SortedByKey message_cmp rows → row_at message_cmp rows message ≡ Some row
      → filter (λ other. other.0.0 == message.0) rows ≡ (message, row) ∷ []
  one_row_of rows rise found =
      let test = λ (key : MessageId). key.0 == message.0 in
      only_at message_order (filter (λ other. test other.0) rows) message (rise-filter message_cmp (λ other. test other.0) rows rise)
      (λ q off. row_at-filter_keys message_order test rows q rise ∙ ap (λ b. only_if b (row_at message_cmp rows q)) (other_number q.0 message.0 off))
      ∙ ap (one_row message) (row_at-filter_keys message_order test rows message rise ∙ ap (λ b. only_if b (row_at message_cmp rows message)) (same_number message.0) ∙ found)

  pub moving_one : (tables : Tables) → SortedByKey message_cmp tables.messages → message_at tables message ≡ Some row
      → moving tables message One ≡ message ∷ []
  moving_one tables rise found =
      ap (λ at. option_map_or (λ (row : Message). keys_of (filter (moves_with One message row.place) tables.messages)) at []) found
      ∙ ap keys_of (one_row_of tables.messages rise found)

  pub moving_all : (tables : Tables) (mode : Mode) → message_at tables message ≡ Some row
      → map (λ row. row.0.0) (filter (moves_with mode message row.place) tables.messages) ≡ map (λ id. id.0) (moving tables message mode)
  moving_all tables mode found =
      sym (map-keys_of (λ (id : MessageId). id.0) (filter (moves_with mode message row.place) tables.messages))
      ∙ ap (λ at. map (λ (id : MessageId). id.0) (option_map_or (λ (row : Message). keys_of (filter (moves_with mode message row.place) tables.messages)) at [])) (sym found)
