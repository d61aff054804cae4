-- A word spells one value at most.
use Rattle.std.proofs.Common.{◌≡◌, ℕ, ◌≤◌, true, false, List, [], ◌∷◌, ◌++◌, map, find, length, codes, bytes_eq, None, Some, pos, neg_ℤ, refl, sym, ap, ◌∙◌, subst, inl, inr, arith}
use Rattle.std.specs.List.{AllZip, list_all}
use Rattle.std.proofs.lemmas.Bool.{and_parts, false≢true}
use Rattle.ev_base.specs.declared.kinds.Role.{Role}
use Rattle.ev_base.specs.declared.kinds.Role.TheVariants.{Owner, Administrator, Moderator, Member, Guest}
use Rattle.ev_base.specs.Roles.{role_number, role_of}
use Rattle.ev_types.specs.declared.kind.EventKind.{EventKind}
use Rattle.ev_types.specs.declared.kind.EventKind.TheVariants as kind
use Rattle.ev_types.specs.declared.kind.Types.{Types}
use Rattle.ev_types.specs.declared.kind.Types.TheVariants as types
use Rattle.ev_types.specs.Feeders.{kind_name}
use Rattle.zr_types.specs.declared.command.StreamRef.TheVariants as ref
use Rattle.zs_words.specs.Lists.{parts_of, IsIds, IsMessages, IsUsers, IsTypes, IsFetch, is_fetch_name}
use Rattle.zs_words.specs.Names.{kinds, IsSubProperty, IsNameField, IsPrivacy, IsMode, IsOperation, IsFlag, IsSection, IsTruth}
use Rattle.zs_words.specs.Numbers.{is_digit, IsNumber, IsInteger, IsId, IsUser, IsStream, IsMessage, IsShard, IsShardCount, IsNoticeNumber, IsMoment, IsRole, IsQueue, IsEventNumber}
use Rattle.zs_words.specs.StreamRefs.{IsStreamRef}
use Rattle.zs_words.specs.Texts.{IsText, decoded}
use Rattle.zs_words.proofs.TextLemmas.{decoded_none}

-- a word of this kind spells one value at most
abbrev pub SpellsOne : {A : Type 0} → (List ℕ → A → Type 0) → Type 0
SpellsOne {A} kind = (word : List ℕ) (x y : A) → kind word x → kind word y → x ≡ y

-- lists with one image by what tells all values apart are one list
same_mapped : {A B : Type 0} (f : A → B) → ((x y : A) → f x ≡ f y → x ≡ y) → (a b : List A) → map f a ≡ map f b → a ≡ b
same_mapped f apart [] [] same = refl
same_mapped f apart [] (y ∷ b) same = absurd (cc)
same_mapped f apart (x ∷ a) [] same = absurd (cc)
same_mapped f apart (x ∷ a) (y ∷ b) same =
    let first : f x ≡ f y = cc in
    let others : map f a ≡ map f b = cc in
    let head = apart x y first in
    let rest = same_mapped f apart a b others in
    λ i. head i ∷ rest i

pub one_number : SpellsOne IsNumber
one_number word a b is_a is_b = sym is_a.2 ∙ is_b.2

pub one_id : SpellsOne IsId
one_id word a b is_a is_b = one_number word a b is_a.0 is_b.0

pub one_user : SpellsOne IsUser
one_user word a b is_a is_b =
    let number = one_id word a.0 b.0 is_a is_b in
    λ i. record { 0 = number i }

pub one_stream : SpellsOne IsStream
one_stream word a b is_a is_b =
    let number = one_id word a.0 b.0 is_a is_b in
    λ i. record { 0 = number i }

pub one_message : SpellsOne IsMessage
one_message word a b is_a is_b =
    let number = one_id word a.0 b.0 is_a is_b in
    λ i. record { 0 = number i }

pub one_shard : (shards : ℕ) → SpellsOne (IsShard shards)
one_shard shards word a b is_a is_b = one_id word a b is_a.0 is_b.0

pub one_shard_count : SpellsOne IsShardCount
one_shard_count word a b is_a is_b = one_number word a b is_a.0 is_b.0

pub one_notice_number : SpellsOne IsNoticeNumber
one_notice_number word a b is_a is_b = one_number word a b is_a.0 is_b.0

pub one_moment : SpellsOne IsMoment
one_moment word a b is_a is_b = one_number word a b is_a.0 is_b.0

role_back : (role : Role) → role_of (role_number role) ≡ Some role
role_back Owner = refl
role_back Administrator = refl
role_back Moderator = refl
role_back Member = refl
role_back Guest = refl

pub one_role : SpellsOne IsRole
one_role word a b is_a is_b =
    let number = one_number word (role_number a) (role_number b) is_a is_b in
    let same : Some a ≡ Some b = sym (role_back a) ∙ (ap role_of number ∙ role_back b) in
    cc

-- a full stop ends the digits before it
same_parts : (a b x y : List ℕ) → list_all is_digit a ≡ true → list_all is_digit b ≡ true → a ++ (46 ∷ x) ≡ b ++ (46 ∷ y) → (a ≡ b) × (x ≡ y)
same_parts [] [] x y is_a is_b same = (refl, cc)
same_parts [] (d ∷ b) x y is_a is_b same =
    let dot : d ≡ 46 = cc in
    absurd (false≢true (ap is_digit (sym dot) ∙ (and_parts (is_digit d) (list_all is_digit b) is_b).0))
same_parts (d ∷ a) [] x y is_a is_b same =
    let dot : d ≡ 46 = cc in
    absurd (false≢true (ap is_digit (sym dot) ∙ (and_parts (is_digit d) (list_all is_digit a) is_a).0))
same_parts (d ∷ a) (e ∷ b) x y is_a is_b same =
    let head : d ≡ e = cc in
    let rest : a ++ (46 ∷ x) ≡ b ++ (46 ∷ y) = cc in
    let parts = same_parts a b x y (and_parts (is_digit d) (list_all is_digit a) is_a).1 (and_parts (is_digit e) (list_all is_digit b) is_b).1 rest in
    let front : a ≡ b = parts.0 in
    (cc, parts.1)

pub one_queue : SpellsOne IsQueue
one_queue word p q is_p is_q =
    let parts = same_parts is_p.0 is_q.0 is_p.1 is_q.1 is_p.3.0.1 is_q.3.0.1 (sym is_p.2 ∙ is_q.2) in
    let P : List ℕ → Type 0 = λ w. IsUser w q.user in
    let Q : List ℕ → Type 0 = λ w. IsId w q.number in
    let owner : p.user ≡ q.user = one_user is_p.0 p.user q.user is_p.3 (subst P (sym parts.0) is_q.3) in
    let count : p.number ≡ q.number = one_id is_p.1 p.number q.number is_p.4 (subst Q (sym parts.1) is_q.4) in
    let salt : p.salt ≡ q.salt = is_p.5 ∙ sym is_q.5 in
    λ i. record { user = owner i; number = count i; salt = salt i }

no_minus : (first : ℕ) (rest : List ℕ) → first ≡ 45 → list_all is_digit (first ∷ rest) ≡ true → ⊥
no_minus first rest minus each =
    false≢true (ap is_digit (sym minus) ∙ (and_parts (is_digit first) (list_all is_digit rest) each).0)

one_integer : SpellsOne IsInteger
one_integer [] a b is_a is_b = absurd is_a
one_integer (first ∷ rest) a b (inl is_a) (inl is_b) =
    is_a.2 ∙ (ap pos (one_number (first ∷ rest) is_a.0 is_b.0 is_a.1 is_b.1) ∙ sym is_b.2)
one_integer (first ∷ rest) a b (inl is_a) (inr is_b) = absurd (no_minus first rest is_b.1 is_a.1.1)
one_integer (first ∷ rest) a b (inr is_a) (inl is_b) = absurd (no_minus first rest is_a.1 is_b.1.1)
one_integer (first ∷ rest) a b (inr is_a) (inr is_b) =
    is_a.3 ∙ (ap (λ k. neg_ℤ (pos k)) (one_number rest is_a.0 is_b.0 is_a.2 is_b.2) ∙ sym is_b.3)

pub one_event_number : SpellsOne IsEventNumber
one_event_number word a b is_a is_b = one_integer word a b is_a.0 is_b.0

pub one_sub_name : SpellsOne IsSubProperty
one_sub_name word a b is_a is_b = let same : Some a ≡ Some b = sym is_a ∙ is_b in cc

pub one_field : SpellsOne IsNameField
one_field word a b is_a is_b = let same : Some a ≡ Some b = sym is_a ∙ is_b in cc

pub one_privacy : SpellsOne IsPrivacy
one_privacy word a b is_a is_b = let same : Some a ≡ Some b = sym is_a ∙ is_b in cc

pub one_mode : SpellsOne IsMode
one_mode word a b is_a is_b = let same : Some a ≡ Some b = sym is_a ∙ is_b in cc

pub one_operation : SpellsOne IsOperation
one_operation word a b is_a is_b = let same : Some a ≡ Some b = sym is_a ∙ is_b in cc

pub one_flag : SpellsOne IsFlag
one_flag word a b is_a is_b = let same : Some a ≡ Some b = sym is_a ∙ is_b in cc

pub one_section : SpellsOne IsSection
one_section word a b is_a is_b = let same : Some a ≡ Some b = sym is_a ∙ is_b in cc

pub one_truth : SpellsOne IsTruth
one_truth word a b is_a is_b = let same : Some a ≡ Some b = sym is_a ∙ is_b in cc

pub one_text : SpellsOne IsText
one_text word a b (inl is_a) (inl is_b) = is_a.1 ∙ sym is_b.1
one_text word a b (inl is_a) (inr is_b) =
    let none : None ≡ Some b = sym decoded_none ∙ (ap decoded (sym is_a.0) ∙ is_b.1) in absurd (cc)
one_text word a b (inr is_a) (inl is_b) =
    let none : None ≡ Some a = sym decoded_none ∙ (ap decoded (sym is_b.0) ∙ is_a.1) in absurd (cc)
one_text word a b (inr is_a) (inr is_b) =
    let same : Some a ≡ Some b = sym is_a.1 ∙ is_b.1 in cc

pub kind_back : (k : EventKind) → find (λ other. bytes_eq (kind_name other) (kind_name k)) kinds ≡ Some k
kind_back kind.Realm = refl
kind_back kind.RealmUser = refl
kind_back kind.Stream = refl
kind_back kind.Subscription = refl
kind_back kind.Message = refl
kind_back kind.MessagesRestored = refl
kind_back kind.UpdateMessage = refl
kind_back kind.UpdateMessageFlags = refl
kind_back kind.DeleteMessage = refl
kind_back kind.Reaction = refl
kind_back kind.Heartbeat = refl

same_kind : (a b : EventKind) → kind_name a ≡ kind_name b → a ≡ b
same_kind a b named =
    let same : Some a ≡ Some b = sym (kind_back a) ∙ (ap (λ name. find (λ other. bytes_eq (kind_name other) name) kinds) named ∙ kind_back b) in
    cc

kind_is_long : (k : EventKind) → 2 ≤ length (kind_name k)
kind_is_long kind.Realm = omega arith
kind_is_long kind.RealmUser = omega arith
kind_is_long kind.Stream = omega arith
kind_is_long kind.Subscription = omega arith
kind_is_long kind.Message = omega arith
kind_is_long kind.MessagesRestored = omega arith
kind_is_long kind.UpdateMessage = omega arith
kind_is_long kind.UpdateMessageFlags = omega arith
kind_is_long kind.DeleteMessage = omega arith
kind_is_long kind.Reaction = omega arith
kind_is_long kind.Heartbeat = omega arith

-- one byte alone is no list of names
pub no_kinds : (byte : ℕ) (names : List EventKind) → (byte ∷ []) ∷ [] ≡ map kind_name names → ⊥
no_kinds byte [] same = absurd (cc)
no_kinds byte (k ∷ rest) same =
    let name : byte ∷ [] ≡ kind_name k = cc in
    omega (arith, ap length name, kind_is_long k)

abbrev first_byte : List ℕ → ℕ
first_byte [] = 0
first_byte (byte ∷ bytes) = byte

pub one_types : SpellsOne IsTypes
one_types word types.All types.All is_a is_b = refl
one_types word types.All (types.Only b) is_a (inl is_b) = absurd (omega (arith, ap first_byte (sym is_a ∙ is_b.0)))
one_types word types.All (types.Only b) is_a (inr is_b) = absurd (no_kinds 42 b (ap parts_of (sym is_a) ∙ is_b))
one_types word (types.Only a) types.All (inl is_a) is_b = absurd (omega (arith, ap first_byte (sym is_b ∙ is_a.0)))
one_types word (types.Only a) types.All (inr is_a) is_b = absurd (no_kinds 42 a (ap parts_of (sym is_b) ∙ is_a))
one_types word (types.Only a) (types.Only b) (inl is_a) (inl is_b) = ap types.Only (is_a.1 ∙ sym is_b.1)
one_types word (types.Only a) (types.Only b) (inl is_a) (inr is_b) = absurd (no_kinds 45 b (ap parts_of (sym is_a.0) ∙ is_b))
one_types word (types.Only a) (types.Only b) (inr is_a) (inl is_b) = absurd (no_kinds 45 a (ap parts_of (sym is_b.0) ∙ is_a))
one_types word (types.Only a) (types.Only b) (inr is_a) (inr is_b) = ap types.Only (same_mapped kind_name same_kind a b (sym is_a ∙ is_b))

-- a word that is one of these bytes is no list of names
no_names : (special word : List ℕ) → list_all is_fetch_name (parts_of special) ≡ false → word ≡ special → list_all is_fetch_name (parts_of word) ≡ true → ⊥
no_names special word none is each =
    false≢true (sym none ∙ (ap (λ w. list_all is_fetch_name (parts_of w)) (sym is) ∙ each))

pub one_fetch : (meant : Types) → SpellsOne (IsFetch meant)
one_fetch meant word a b (inl x) (inl y) = x.1 ∙ sym y.1
one_fetch meant word a b (inl x) (inr (inl y)) = absurd (omega (arith, ap first_byte (sym x.0 ∙ y.0)))
one_fetch meant word a b (inl x) (inr (inr (inl y))) = absurd (omega (arith, ap first_byte (sym x.0 ∙ y.0)))
one_fetch meant word a b (inl x) (inr (inr (inr y))) = absurd (no_names (codes "=") word refl x.0 y.0)
one_fetch meant word a b (inr (inl x)) (inl y) = absurd (omega (arith, ap first_byte (sym x.0 ∙ y.0)))
one_fetch meant word a b (inr (inl x)) (inr (inl y)) = x.1 ∙ sym y.1
one_fetch meant word a b (inr (inl x)) (inr (inr (inl y))) = absurd (omega (arith, ap first_byte (sym x.0 ∙ y.0)))
one_fetch meant word a b (inr (inl x)) (inr (inr (inr y))) = absurd (no_names (codes "*") word refl x.0 y.0)
one_fetch meant word a b (inr (inr (inl x))) (inl y) = absurd (omega (arith, ap first_byte (sym x.0 ∙ y.0)))
one_fetch meant word a b (inr (inr (inl x))) (inr (inl y)) = absurd (omega (arith, ap first_byte (sym x.0 ∙ y.0)))
one_fetch meant word a b (inr (inr (inl x))) (inr (inr (inl y))) = x.1 ∙ sym y.1
one_fetch meant word a b (inr (inr (inl x))) (inr (inr (inr y))) = absurd (no_names (codes "-") word refl x.0 y.0)
one_fetch meant word a b (inr (inr (inr x))) (inl y) = absurd (no_names (codes "=") word refl y.0 x.0)
one_fetch meant word a b (inr (inr (inr x))) (inr (inl y)) = absurd (no_names (codes "*") word refl y.0 x.0)
one_fetch meant word a b (inr (inr (inr x))) (inr (inr (inl y))) = absurd (no_names (codes "-") word refl y.0 x.0)
one_fetch meant word a b (inr (inr (inr x))) (inr (inr (inr y))) = x.1 ∙ sym y.1

-- words that write these ids write no others
one_each : (words : List (List ℕ)) (a b : List ℕ) → AllZip IsId words a → AllZip IsId words b → a ≡ b
one_each [] [] [] is_a is_b = refl
one_each [] [] (y ∷ b) is_a is_b = absurd is_b
one_each [] (x ∷ a) b is_a is_b = absurd is_a
one_each (word ∷ words) [] b is_a is_b = absurd is_a
one_each (word ∷ words) (x ∷ a) [] is_a is_b = absurd is_b
one_each (word ∷ words) (x ∷ a) (y ∷ b) is_a is_b =
    let first = one_id word x y is_a.0 is_b.0 in
    let rest = one_each words a b is_a.1 is_b.1 in
    λ i. first i ∷ rest i

-- the word for none writes no ids
pub none_writes_none : (ids : List ℕ) → AllZip IsId (parts_of (codes "-")) ids → ⊥
none_writes_none [] is = is
none_writes_none (id ∷ ids) is = false≢true is.0.0.1

one_ids : SpellsOne IsIds
one_ids word a b (inl is_a) (inl is_b) = is_a.1 ∙ sym is_b.1
one_ids word a b (inl is_a) (inr is_b) =
    let P : List ℕ → Type 0 = λ w. AllZip IsId (parts_of w) b in
    absurd (none_writes_none b (subst P is_a.0 is_b))
one_ids word a b (inr is_a) (inl is_b) =
    let P : List ℕ → Type 0 = λ w. AllZip IsId (parts_of w) a in
    absurd (none_writes_none a (subst P is_b.0 is_a))
one_ids word a b (inr is_a) (inr is_b) = one_each (parts_of word) a b is_a is_b

pub one_users : SpellsOne IsUsers
one_users word a b is_a is_b =
    same_mapped (λ user. user.0) (λ x y number. λ i. record { 0 = number i }) a b (one_ids word _ _ is_a is_b)

pub one_messages : SpellsOne IsMessages
one_messages word a b is_a is_b =
    same_mapped (λ message. message.0) (λ x y number. λ i. record { 0 = number i }) a b (one_ids word _ _ is_a is_b)

-- a word that begins with = writes no number
pub equals_is_no_id : (rest : List ℕ) (id : ℕ) → IsId (61 ∷ rest) id → ⊥
equals_is_no_id rest id is = false≢true (and_parts (is_digit 61) (list_all is_digit rest) is.0.1).0

no_name_and_number : (first : ℕ) (rest : List ℕ) (id : ℕ) → first ≡ 61 → IsId (first ∷ rest) id → ⊥
no_name_and_number first rest id equals is =
    let P : ℕ → Type 0 = λ byte. IsId (byte ∷ rest) id in
    equals_is_no_id rest id (subst P equals is)

pub one_stream_ref : SpellsOne IsStreamRef
one_stream_ref word (ref.Id a) (ref.Id b) is_a is_b = ap ref.Id (one_stream word a b is_a is_b)
one_stream_ref [] (ref.Id a) (ref.Name b) is_a is_b = absurd is_b
one_stream_ref (first ∷ rest) (ref.Id a) (ref.Name b) is_a is_b = absurd (no_name_and_number first rest a.0 is_b.0 is_a)
one_stream_ref [] (ref.Name a) b is_a is_b = absurd is_a
one_stream_ref (first ∷ rest) (ref.Name a) (ref.Id b) is_a is_b = absurd (no_name_and_number first rest b.0 is_a.0 is_b)
one_stream_ref (first ∷ rest) (ref.Name a) (ref.Name b) is_a is_b = ap ref.Name (one_text rest a b is_a.1 is_b.1)
