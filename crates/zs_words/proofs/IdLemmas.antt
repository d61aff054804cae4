-- The ids that the parts of a word write, from what is read of each part.
use Rattle.std.proofs.Common.{◌≡◌, ◌↔◌, ℕ, ◌≤◌, ◌<◌, ◌^◌, Bool, true, false, ◌&&◌, cond, nat_le, nat_lt, List, [], ◌∷◌, length, map, codes, Option, None, Some, option_map, IsTrue, refl, sym, ap, ◌∙◌, subst, inl, inr, arith}
use Rattle.std.specs.List.{AllZip, list_all, filter_map, cons_option}
use Rattle.std.specs.Option.{is_some}
use Rattle.std.proofs.lemmas.Bool.{and_parts, and_from, cond-true, cond-false, false≢true}
use Rattle.std.proofs.lemmas.Bool.Decides.{nat_tests}
use Rattle.ev_base.specs.declared.ids.MessageId.{MessageId}
use Rattle.ev_base.specs.declared.ids.UserId.{UserId}
use Rattle.zs_words.specs.Lists.{parts_of, IsIds, IsMessages, IsUsers}
use Rattle.zs_words.specs.Numbers.{is_digit, value_of_digits, IsId, IsUser, IsMessage}
use Rattle.zs_words.specs.Readings.{ReadsIf}

-- whether the word writes an id, and which one
abbrev pub is_id : List ℕ → Bool
is_id word = nat_le 1 (length word) && (list_all is_digit word && nat_lt (value_of_digits word) (2 ^ 32))

unfoldable pub id_of : List ℕ → Option ℕ
id_of word = cond (is_id word) (Some (value_of_digits word)) None

id_some : (word : List ℕ) → is_id word ≡ true → id_of word ≡ Some (value_of_digits word)
unfolding id_of
id_some word is = cond-true (is_id word) (Some (value_of_digits word)) None is

id_none : (word : List ℕ) → is_id word ≡ false → id_of word ≡ None
unfolding id_of
id_none word is = cond-false (is_id word) (Some (value_of_digits word)) None is

at_least : (a b : ℕ) → nat_le a b ≡ true → a ≤ b
at_least a b is = grind (arith, nat_tests)

below : (a b : ℕ) → nat_lt a b ≡ true → a < b
below a b is = grind (arith, nat_tests)

tests_at_least : (a b : ℕ) → a ≤ b → nat_le a b ≡ true
tests_at_least a b is = grind (arith, nat_tests)

tests_below : (a b : ℕ) → a < b → nat_lt a b ≡ true
tests_below a b is = grind (arith, nat_tests)

-- a word that passes the test writes the value of its digits
id_there : (word : List ℕ) → is_id word ≡ true → IsId word (value_of_digits word)
id_there word is =
    let parts = and_parts (nat_le 1 (length word)) (list_all is_digit word && nat_lt (value_of_digits word) (2 ^ 32)) is in
    let others = and_parts (list_all is_digit word) (nat_lt (value_of_digits word) (2 ^ 32)) parts.1 in
    ((at_least 1 (length word) parts.0, others.0, refl), below (value_of_digits word) (2 ^ 32) others.1)

-- and a word that writes an id passes it
id_passes : (word : List ℕ) (id : ℕ) → IsId word id → is_id word ≡ true
id_passes word id is =
    let P : ℕ → Type 0 = λ value. value < 2 ^ 32 in
    let small : value_of_digits word < 2 ^ 32 = subst P (sym is.0.2) is.1 in
    and_from (nat_le 1 (length word)) (list_all is_digit word && nat_lt (value_of_digits word) (2 ^ 32))
    (tests_at_least 1 (length word) is.0.0)
    (and_from (list_all is_digit word) (nat_lt (value_of_digits word) (2 ^ 32)) is.0.1 (tests_below (value_of_digits word) (2 ^ 32) small))

-- what is read of a word, where the things that are read have a number each
reads_made : {A : Type 0} (number : A → ℕ) (make : ℕ → A) → ((n : ℕ) → number (make n) ≡ n) → ((x : A) → make (number x) ≡ x) → (word : List ℕ) (answer : Option A) → ReadsIf (λ x. IsId word (number x)) answer → answer ≡ option_map make (id_of word)
reads_made {A} number make numbered made word (Some x) there =
    let same : number x ≡ value_of_digits word = sym there.0.2 in
    let found : id_of word ≡ Some (value_of_digits word) = id_some word (id_passes word (number x) there) in
    ap Some (sym (made x) ∙ ap make same) ∙ sym (ap (option_map make) found)
reads_made {A} number make numbered made word None none = go (is_id word) refl
  where
    go : (test : Bool) → is_id word ≡ test → None ≡ option_map make (id_of word)
    go true is =
        let P : ℕ → Type 0 = λ n. IsId word n in
        absurd (none (make (value_of_digits word)) (subst P (sym (numbered (value_of_digits word))) (id_there word is)))
    go false is = sym (ap (option_map make) (id_none word is))

abbrev pub user_numbered : ℕ → UserId
user_numbered id = record { 0 = id }

abbrev pub message_numbered : ℕ → MessageId
message_numbered id = record { 0 = id }

abbrev pub user_of : List ℕ → Option UserId
user_of word = option_map user_numbered (id_of word)

abbrev pub message_of : List ℕ → Option MessageId
message_of word = option_map message_numbered (id_of word)

pub reads_user : (word : List ℕ) (answer : Option UserId) → ReadsIf (IsUser word) answer → answer ≡ user_of word
reads_user = reads_made (λ user. user.0) user_numbered (λ n. refl) (λ user. refl)

pub reads_message : (word : List ℕ) (answer : Option MessageId) → ReadsIf (IsMessage word) answer → answer ≡ message_of word
reads_message = reads_made (λ message. message.0) message_numbered (λ n. refl) (λ message. refl)

pub reads_id : (word : List ℕ) (answer : Option ℕ) → ReadsIf (IsId word) answer → is_some answer ≡ is_some (id_of word)
reads_id word (Some id) is = sym (ap is_some (id_some word (id_passes word id is)))
reads_id word None none = go (is_id word) refl
  where
    go : (test : Bool) → is_id word ≡ test → false ≡ is_some (id_of word)
    go true is = absurd (none (value_of_digits word) (id_there word is))
    go false is = sym (ap is_some (id_none word is))

-- words that write ids, and the ids that are found
each_passes : (words : List (List ℕ)) (ids : List ℕ) → AllZip IsId words ids → list_all (λ word. is_some (id_of word)) words ≡ true
each_passes [] [] is = refl
each_passes [] (id ∷ ids) is = absurd is
each_passes (word ∷ words) [] is = absurd is
each_passes (word ∷ words) (id ∷ ids) is = rw (id_some word (id_passes word id is.0)) (each_passes words ids is.1)

each_there : (words : List (List ℕ)) → list_all (λ word. is_some (id_of word)) words ≡ true → AllZip IsId words (filter_map id_of words)
each_there [] each = tt
each_there (word ∷ words) each =
    let parts = and_parts (is_some (id_of word)) (list_all (λ other. is_some (id_of other)) words) each in
    go (is_id word) refl parts.0 (each_there words parts.1)
  where
    go : (test : Bool) → is_id word ≡ test → is_some (id_of word) ≡ true → AllZip IsId words (filter_map id_of words) → AllZip IsId (word ∷ words) (cons_option (id_of word) (filter_map id_of words))
    go true is some rest = rw (id_some word is) ((id_there word is, rest))
    go false is some rest =
        let none : is_some (id_of word) ≡ false = ap is_some (id_none word is) in
        absurd (false≢true (sym none ∙ some))

-- what is tested of the words
pub tests_ids : (words : List (List ℕ)) (answer : Bool) → answer ≡ list_all (λ word. is_some (id_of word)) words → IsTrue answer ↔ ((ids : List ℕ) × AllZip IsId words ids)
tests_ids words answer is = (
  (λ yes. (filter_map id_of words, each_there words (sym is ∙ yes))),
  (λ ids. is ∙ each_passes words ids.0 ids.1),
)

-- the numbers of what is made of the ids are the ids
made_ids : {A : Type 0} (number : A → ℕ) (make : ℕ → A) → ((n : ℕ) → number (make n) ≡ n) → (words : List (List ℕ)) → map number (filter_map (λ word. option_map make (id_of word)) words) ≡ filter_map id_of words
made_ids number make numbered [] = refl
made_ids {A} number make numbered (word ∷ words) = go (id_of word) (made_ids number make numbered words)
  where
    go : (found : Option ℕ) → map number (filter_map (λ other. option_map make (id_of other)) words) ≡ filter_map id_of words → map number (cons_option (option_map make found) (filter_map (λ other. option_map make (id_of other)) words)) ≡ cons_option found (filter_map id_of words)
    go None rest = rest
    go (Some id) rest = λ i. numbered id i ∷ rest i

none_of_none : filter_map id_of (parts_of (codes "-")) ≡ []
unfolding id_of
none_of_none = refl

-- what is found in a word that writes ids
pub ids_found : {A : Type 0} (number : A → ℕ) (make : ℕ → A) → ((n : ℕ) → number (make n) ≡ n) → (word : List ℕ) (found : List A) → found ≡ filter_map (λ part. option_map make (id_of part)) (parts_of word) → (ids : List ℕ) × IsIds word ids → IsIds word (map number found)
ids_found number make numbered word found is (ids, inl none) =
    let numbers : map number found ≡ filter_map id_of (parts_of word) = ap (map number) is ∙ made_ids number make numbered (parts_of word) in
    inl (none.0, numbers ∙ (ap (λ w. filter_map id_of (parts_of w)) none.0 ∙ none_of_none))
ids_found number make numbered word found is (ids, inr each) =
    let numbers : map number found ≡ filter_map id_of (parts_of word) = ap (map number) is ∙ made_ids number make numbered (parts_of word) in
    let P : List ℕ → Type 0 = λ ids. AllZip IsId (parts_of word) ids in
    inr (subst P (sym numbers) (each_there (parts_of word) (each_passes (parts_of word) ids each)))

-- whatever has ids for numbers can be made of a word that writes ids
made_of_ids : {A : Type 0} (number : A → ℕ) (make : ℕ → A) → ((n : ℕ) → number (make n) ≡ n) → (word : List ℕ) (ids : List ℕ) → IsIds word ids → (made : List A) × IsIds word (map number made)
made_of_ids {A} number make numbered word ids is =
    let P : List ℕ → Type 0 = λ numbers. IsIds word numbers in
    (map make ids, subst P (sym (same ids)) is)
  where
    same : (ids : List ℕ) → map number (map make ids) ≡ ids
    same [] = refl
    same (id ∷ ids) = λ i. numbered id i ∷ same ids i

pub users_of_ids : (word : List ℕ) (ids : List ℕ) → IsIds word ids → (users : List UserId) × IsUsers word users
users_of_ids = made_of_ids (λ user. user.0) user_numbered (λ n. refl)

pub messages_of_ids : (word : List ℕ) (ids : List ℕ) → IsIds word ids → (messages : List MessageId) × IsMessages word messages
messages_of_ids = made_of_ids (λ message. message.0) message_numbered (λ n. refl)
