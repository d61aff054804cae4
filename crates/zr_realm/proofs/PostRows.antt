-- The rows of a new message, and of messages that change.
use Rattle.std.proofs.Common.{◌≡◌, ℕ, List, [], ◌∷◌, fold, Less, ap, refl, ◌∙◌}
use Rattle.std.specs.Ordering.{nat_cmp, ordering_then}
use Rattle.std.specs.BTreeMap.{insert_entry}
use Rattle.std.proofs.lemmas.Cmp.{tied_itself}
use Rattle.std.specs.List.{AllByRecursion}
use Rattle.std.specs.List.Sorted.{IsStrictlySortedBy}
use Rattle.ev_rows.specs.Rows.{SortedByKey, keys_of, with_rows}
use Rattle.ev_base.specs.declared.ids.UserId.{UserId}
use Rattle.ev_base.specs.declared.ids.MessageId.{MessageId}
use Rattle.ev_base.specs.Orders.{message_order, message_user_cmp}
use Rattle.zr_types.specs.declared.posts.Message.{Message}
use Rattle.zr_types.specs.declared.posts.Receipt.{Receipt}
use Rattle.zr_types.specs.Tables.{Tables}
use Rattle.zr_types.specs.Effects.{new_receipt}
use Rattle.zr_realm.specs.Parts.{receipt_rows, users_of}

module _ (message : MessageId) (sender : UserId) where
  -- a merge of the receipts is a put of each
  pub merged_in_turn : (rows : List ((MessageId × UserId) × Receipt)) (receivers : List UserId)
      → with_rows message_user_cmp rows (receipt_rows message sender receivers)
      ≡ fold (λ rows user. insert_entry message_user_cmp rows (message, user) (new_receipt sender user)) rows receivers
  merged_in_turn rows [] = refl
  merged_in_turn rows (user ∷ receivers) = merged_in_turn (insert_entry message_user_cmp rows (message, user) (new_receipt sender user)) receivers

  below : (number : ℕ) (numbers : List ℕ) → AllByRecursion (λ other. nat_cmp number other ≡ Less) numbers
      → AllByRecursion (λ key. message_user_cmp (message, record { 0 = number }) key ≡ Less) (keys_of (receipt_rows message sender (users_of numbers)))
  below number [] all = tt
  below number (other ∷ numbers) all =
      (ap (λ o. ordering_then o (nat_cmp number other)) (tied_itself message_order.total message) ∙ all.0, below number numbers all.1)

  -- receivers that are sorted get receipts that are
  pub receipts_sorted : (numbers : List ℕ) → IsStrictlySortedBy nat_cmp numbers → SortedByKey message_user_cmp (receipt_rows message sender (users_of numbers))
  unfolding IsStrictlySortedBy
  receipts_sorted [] sorted = tt
  receipts_sorted (number ∷ numbers) sorted = (below number numbers sorted.0, receipts_sorted numbers sorted.1)

pub with_posts : (tables : Tables) (messages messages' : List (MessageId × Message)) (receipts receipts' : List ((MessageId × UserId) × Receipt))
    → messages ≡ messages' → receipts ≡ receipts' → record tables { messages = messages; receipts = receipts } ≡ record tables { messages = messages'; receipts = receipts' }
with_posts tables messages messages' receipts receipts' same_messages same_receipts =
    λ i. record tables { messages = same_messages i; receipts = same_receipts i }
