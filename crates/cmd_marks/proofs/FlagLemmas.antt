-- The messages of a command that sets or clears a flag, and their numbers.
use Rattle.std.proofs.Common.{◌≡◌, ◌∙◌, ℕ, ◌+◌, ◌<◌, ◌≤◌, Bool, true, false, cond, not, ◌&&◌, ◌||◌, List, [], ◌∷◌, ◌++◌, length, map, filter, fold, take, drop, get_or, insert, Less, Equal, Greater, Ordering, Err, None, Some, is_some, refl, sym, ap, subst, arith}
use Rattle.std.specs.Prelude.{⊤, ◌==◌, nat_lt}
use Rattle.std.specs.List.{list_all, list_any}
use Rattle.std.specs.List.Sorted.{IsBinarySearchResult}
use Rattle.std.specs.Ordering.{match_ordering, nat_cmp}
use Rattle.std.proofs.lemmas.Bool.{le-ltb, lt-ltb, ne_eqb}
use Rattle.std.proofs.lemmas.List.Edits.{length-insert}
use Rattle.std.proofs.lemmas.List.{length-map, map-append, take-append-drop, take_more}
use Rattle.ev_rows.specs.KeyOrder.{KeyOrder}
use Rattle.ev_rows.specs.Rows.{keys_of}
use Rattle.ev_base.specs.Orders.{message_cmp, message_order, number_order}
use Rattle.ev_base.specs.declared.ids.UserId.{UserId}
use Rattle.ev_base.specs.declared.ids.MessageId.{MessageId}
use Rattle.ev_base.specs.declared.kinds.Flag.{Flag}
use Rattle.zr_types.specs.declared.command.Command.TheVariants.{Marks}
use Rattle.zr_types.specs.declared.command.MarkCommand.TheVariants as of_marks
use Rattle.zr_types.specs.declared.command.Refusal.TheVariants.{AlreadySo, NoSuchMessage}
use Rattle.zr_types.specs.Tables.{RealmState, receipt_of}
use Rattle.zr_types.specs.Visibility.{sees_message}
use Rattle.zr_types.specs.Commands.{differs, distinct, distinct_messages}
use Rattle.zr_types.specs.Refusals.{first_reason, own_reasons}
use Rattle.cmd_rules.proofs.DistinctLemmas.{list_any-distinct, with_key}
use Rattle.cmd_marks.proofs.CountLemmas.{distinct-found, distinct-gap, distinct_are_few, distinct_grow}

pub numbers_in_order : KeyOrder nat_cmp
numbers_in_order = number_order (λ (n : ℕ). n) (λ a b same. same)

abbrev pub message_of : ℕ → MessageId
message_of n = record { 0 = n }

abbrev pub numbers_of : List MessageId → List ℕ
numbers_of messages = map (λ message. message.0) messages

-- rows of messages, as rows of their numbers
abbrev numbered : List (MessageId × ⊤) → List (ℕ × ⊤)
numbered rows = map (λ row. (row.0.0, tt {0})) rows

numbered-with_key : (rows : List (MessageId × ⊤)) (message : MessageId) → numbered (with_key message_cmp rows message) ≡ with_key nat_cmp (numbered rows) message.0
numbered-with_key [] message = refl
numbered-with_key (row ∷ rows) message = go (nat_cmp message.0 row.0.0) (numbered-with_key rows message)
  where
    go : (o : Ordering) → numbered (with_key message_cmp rows message) ≡ with_key nat_cmp (numbered rows) message.0
        → numbered (match_ordering o ((message, tt {0}) ∷ row ∷ rows) ((row.0, tt {0}) ∷ rows) (row ∷ with_key message_cmp rows message))
        ≡ match_ordering o ((message.0, tt {0}) ∷ numbered (row ∷ rows)) ((row.0.0, tt {0}) ∷ numbered rows) ((row.0.0, tt {0}) ∷ with_key nat_cmp (numbered rows) message.0)
    go Less further = refl
    go Equal further = refl
    go Greater further = ap (λ others. (row.0.0, tt {0}) ∷ others) further

numbered-with_keys : (messages : List MessageId) (rows : List (MessageId × ⊤))
    → numbered (fold (with_key message_cmp) rows messages) ≡ fold (with_key nat_cmp) (numbered rows) (numbers_of messages)
numbered-with_keys [] rows = refl
numbered-with_keys (message ∷ messages) rows =
    numbered-with_keys messages (with_key message_cmp rows message)
    ∙ ap (λ start. fold (with_key nat_cmp) start (numbers_of messages)) (numbered-with_key rows message)

keys_of-numbered : (rows : List (MessageId × ⊤)) → keys_of (numbered rows) ≡ numbers_of (keys_of rows)
keys_of-numbered [] = refl
keys_of-numbered (row ∷ rows) = ap (λ others. row.0.0 ∷ others) (keys_of-numbered rows)

-- the numbers of the distinct messages are the distinct numbers
pub numbers_of-distinct : (messages : List MessageId) → numbers_of (distinct message_cmp messages) ≡ distinct nat_cmp (numbers_of messages)
numbers_of-distinct messages =
    sym (keys_of-numbered (fold (with_key message_cmp) [] messages)) ∙ ap keys_of (numbered-with_keys messages [])

numbers_of-filter : (test : MessageId → Bool) (messages : List MessageId) → numbers_of (filter test messages) ≡ filter (λ n. test (message_of n)) (numbers_of messages)
numbers_of-filter test [] = refl
numbers_of-filter test (message ∷ messages) = go (test message) (numbers_of-filter test messages)
  where
    go : (b : Bool) → numbers_of (filter test messages) ≡ filter (λ n. test (message_of n)) (numbers_of messages)
        → numbers_of (cond b (message ∷ filter test messages) (filter test messages))
        ≡ cond b (message.0 ∷ filter (λ n. test (message_of n)) (numbers_of messages)) (filter (λ n. test (message_of n)) (numbers_of messages))
    go true further = ap (λ others. message.0 ∷ others) further
    go false further = further

-- the distinct numbers that pass are those of the distinct messages that do
pub passing_numbers : (test : MessageId → Bool) (messages : List MessageId)
    → filter (λ n. test (message_of n)) (distinct nat_cmp (numbers_of messages)) ≡ numbers_of (filter test (distinct message_cmp messages))
passing_numbers test messages =
    ap (filter (λ n. test (message_of n))) (sym (numbers_of-distinct messages)) ∙ sym (numbers_of-filter test (distinct message_cmp messages))

none_pass : {X : Type 0} (test : X → Bool) (xs : List X) → (length (filter test xs) == 0) ≡ not (list_any test xs)
none_pass test [] = refl
none_pass test (x ∷ xs) = go (test x) (none_pass test xs)
  where
    go : (b : Bool) → (length (filter test xs) == 0) ≡ not (list_any test xs)
        → (length (cond b (x ∷ filter test xs) (filter test xs)) == 0) ≡ not (b || list_any test xs)
    go true further = ne_eqb (length (x ∷ filter test xs)) 0 (λ same. omega (arith, same))
    go false further = further

-- none of the distinct messages passes where none of the messages does
pub none_of_distinct : (test : MessageId → Bool) (messages : List MessageId) → (length (filter test (distinct_messages messages)) == 0) ≡ not (list_any test messages)
none_of_distinct test messages =
    none_pass test (distinct_messages messages) ∙ ap not (list_any-distinct message_order test messages)

pub length-distinct : (messages : List MessageId) → length (distinct_messages messages) ≡ length (distinct nat_cmp (numbers_of messages))
length-distinct messages =
    sym (length-map (distinct_messages messages) (λ message. message.0)) ∙ ap length (numbers_of-distinct messages)

-- a message more
pub numbers_of-more : (messages : List MessageId) (at : ℕ) (d : MessageId) → at < length messages
    → numbers_of (take (at + 1) messages) ≡ numbers_of (take at messages) ++ (get_or messages at d).0 ∷ []
numbers_of-more messages at d within =
    ap numbers_of (take_more messages at d within) ∙ map-append (λ (m : MessageId). m.0) (take at messages) (get_or messages at d ∷ [])

-- no more distinct messages than so many messages
pub few_in_all : (most : ℕ) (messages : List MessageId) → length messages ≤ most → nat_lt most (length (distinct_messages messages)) ≡ false
few_in_all most messages few =
    let fewer = distinct_are_few message_order messages in
    le-ltb most (length (distinct_messages messages)) (omega arith)

-- the numbers of all, each once, are as many as the distinct messages
pub counted : (most : ℕ) (messages : List MessageId) (numbers : List ℕ) → numbers ≡ distinct nat_cmp (numbers_of messages) → length numbers ≤ most
    → nat_lt most (length (distinct_messages messages)) ≡ false
counted most messages numbers is few =
    let same = ap length is in
    le-ltb most (length (distinct_messages messages)) (omega (arith, length-distinct messages))

-- why a command that sets or clears a flag is refused, by the messages as they are given
pub flags_reason : (state : RealmState) (actor : UserId) (add : Bool) (flag : Flag) (messages : List MessageId) (all some : Bool)
    → list_all (λ message. sees_message state.tables actor message && is_some (receipt_of state.tables actor message)) messages ≡ all
    → list_any (differs state.tables actor flag add) messages ≡ some
    → first_reason (own_reasons state actor (Marks (of_marks.Flags add flag messages)))
    ≡ cond (not all) (Some NoSuchMessage) (cond (not some) (Some AlreadySo) None)
flags_reason state actor add flag messages all some all_is some_is =
    let none = none_of_distinct (differs state.tables actor flag add) messages ∙ ap not some_is in
    rw (all_is, none) refl

-- more than so many among the first messages are more than so many in all
pub too_many : (most n : ℕ) (messages : List MessageId) → most < length (distinct nat_cmp (numbers_of (take n messages)))
    → nat_lt most (length (distinct_messages messages)) ≡ true
too_many most n messages many =
    let grow = distinct_grow message_order (take n messages) (drop n messages) in
    let whole = ap (λ ms. length (distinct_messages ms)) (take-append-drop n messages) in
    lt-ltb most (length (distinct_messages messages)) (omega (arith, length-distinct (take n messages)))

-- the distinct numbers, in which a number was searched
module _ (numbers slice seen : List ℕ) (number at : ℕ) (slice_is : slice ≡ seen) (seen_are : seen ≡ distinct nat_cmp numbers) where
  pub with_found : at < length slice → ((d : ℕ) → nat_cmp (get_or slice at d) number ≡ Equal) → seen ≡ distinct nat_cmp (numbers ++ number ∷ [])
  with_found within equal =
      let same = slice_is ∙ seen_are in
      seen_are
      ∙ sym (distinct-found numbers_in_order numbers number at (subst (λ (keys : List ℕ). at < length keys) same within)
      (subst (λ (keys : List ℕ). nat_cmp (get_or keys at number) number ≡ Equal) same (equal number)))

  pub with_gap : at ≤ length slice → IsBinarySearchResult (λ k. nat_cmp k number) slice (Err at) → insert seen at number ≡ distinct nat_cmp (numbers ++ number ∷ [])
  with_gap within parted =
      let same = slice_is ∙ seen_are in
      ap (λ keys. insert keys at number) seen_are
      ∙ sym (distinct-gap numbers_in_order numbers number at (subst (λ (keys : List ℕ). at ≤ length keys) same within)
      (subst (λ (keys : List ℕ). IsBinarySearchResult (λ k. nat_cmp k number) keys (Err at)) same parted))

  pub one_more : at ≤ length slice → IsBinarySearchResult (λ k. nat_cmp k number) slice (Err at) → length (distinct nat_cmp (numbers ++ number ∷ [])) ≡ length seen + 1
  one_more within parted =
      let grown = ap length (with_gap within parted) in
      let added = length-insert seen at number (subst (λ (keys : List ℕ). at ≤ length keys) slice_is within) in
      omega arith
