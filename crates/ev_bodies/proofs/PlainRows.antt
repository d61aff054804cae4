-- Rows are plain JSON values.
use Rattle.std.proofs.Common.{◌≡◌, ◌<◌, ◌^◌, ℕ, suc, ℤ, pos, negsuc, List, [], ◌∷◌, ◌++◌, Bool, true, false, cond, codes, IsUtf8, refl, arith}
use Rattle.std.specs.List.{AllByRecursion}
use Rattle.json.proofs.Printed.Utf8.{are_ascii, IsUtf8-are_ascii}
use Rattle.serde_json.specs.Data.{Data, boolean, number, object, string, Members, no_members, put}
use Rattle.serde_json.specs.Find.{of_integer}
use Rattle.ev_base.specs.Roles.{role_number}
use Rattle.ev_base.specs.declared.kinds.Role.{Role}
use Rattle.ev_base.specs.declared.kinds.Role.TheVariants.{Owner, Administrator, Moderator, Member, Guest}
use Rattle.ev_base.specs.declared.ids.UserId.{UserId}
use Rattle.ev_base.specs.declared.ids.StreamId.{StreamId}
use Rattle.ev_base.specs.declared.ids.MessageId.{MessageId}
use Rattle.ev_base.specs.declared.place.Place.{Place}
use Rattle.ev_base.specs.declared.place.Place.TheVariants as place
use Rattle.ev_types.specs.declared.rows.ShownRealm.{ShownRealm}
use Rattle.ev_types.specs.declared.rows.ShownUser.{ShownUser}
use Rattle.ev_types.specs.declared.rows.ShownStream.{ShownStream}
use Rattle.ev_types.specs.declared.rows.ShownSubscription.{ShownSubscription}
use Rattle.ev_types.specs.declared.rows.MessageFlags.{MessageFlags}
use Rattle.ev_types.specs.declared.rows.ShownMessage.{ShownMessage}
use Rattle.ev_types.specs.declared.event.FullMessage.{FullMessage}
use Rattle.ev_types.specs.Sections.{ReactionKey}
use Rattle.ev_wire.specs.Values.{list_data, message_id_data, number_data, stream_id_data, user_id_data}
use Rattle.ev_wire.specs.Rows.{flag_names, full_message_data, message_data, message_members, own_reaction_data, placeless_members, reaction_data, realm_data, starred_data, stream_data, subscriber_data, subscription_data, unread_data, user_data, with_place}
use Rattle.ev_json.proofs.Puts.{IsPlainWithin, ArePlainWithin, within-none, within-put, within-object, within-list}
use Rattle.ev_bodies.specs.Fits.{FitsFull, FitsI64, FitsMessage, FitsMessageRow, FitsOwnReaction, FitsPlace, FitsReaction, FitsRealm, FitsStarred, FitsStream, FitsStreamRow, FitsSubscriber, FitsSubscription, FitsUnread, FitsUser, FitsUserRow}
use Rattle.ev_bodies.proofs.Found.{all_again}

-- members that are put one after another, the last first
abbrev pub puts : List (List ℕ × Data) → Members → Members
puts [] others = others
puts (one ∷ more) others = put one.0 one.1 (puts more others)

abbrev pub ArePlainPuts : ℕ → List (List ℕ × Data) → Type 0
ArePlainPuts n ones = AllByRecursion (λ one. (are_ascii one.0 ≡ true) × IsPlainWithin n one.1) ones

pub within-puts : (n : ℕ) (ones : List (List ℕ × Data)) (others : Members) → ArePlainPuts n ones → ArePlainWithin n others → ArePlainWithin n (puts ones others)
within-puts n [] others plain old = old
within-puts n (one ∷ more) others plain old = within-put n one.0 one.1 (puts more others) plain.0.0 plain.0.1 (within-puts n more others plain.1 old)

pub plain_object : (n : ℕ) (ones : List (List ℕ × Data)) → ArePlainPuts n ones → IsPlainWithin (suc n) (object (puts ones no_members))
plain_object n ones plain = within-object n (puts ones no_members) (within-puts n ones no_members plain (within-none n))

-- ---- values

pub plain_text : (n : ℕ) (text : List ℕ) → IsUtf8 text → IsPlainWithin n (string text)
plain_text n text utf8 = (utf8, omega arith)

pub plain_word : (n : ℕ) (text : List ℕ) → are_ascii text ≡ true → IsPlainWithin n (string text)
plain_word n text ascii = (IsUtf8-are_ascii text ascii, omega arith)

pub plain_truth : (n : ℕ) (b : Bool) → IsPlainWithin n (boolean b)
plain_truth n b = (tt, omega arith)

pub plain_number : (n k : ℕ) → k < 2 ^ 64 → IsPlainWithin n (number_data k)
plain_number n k fits = (fits, omega arith)

pub plain_id : (n k : ℕ) → k < 2 ^ 32 → IsPlainWithin n (number_data k)
plain_id n k fits = (omega (arith, fits), omega arith)

role_small : (role : Role) → role_number role < 2 ^ 64
role_small Owner = omega arith
role_small Administrator = omega arith
role_small Moderator = omega arith
role_small Member = omega arith
role_small Guest = omega arith

pub plain_role : (n : ℕ) (role : Role) → IsPlainWithin n (number_data (role_number role))
plain_role n role = plain_number n (role_number role) (role_small role)

pub plain_signed : (n : ℕ) (id : ℤ) → FitsI64 id → IsPlainWithin n (number (of_integer id))
plain_signed n (pos k) fits = (omega (arith, fits), omega arith)
plain_signed n (negsuc k) fits = (fits, omega arith)

pub plain_list : {T : Type 0} {Fits : T → Type 0} (n : ℕ) (write : T → Data) → ((x : T) → Fits x → IsPlainWithin n (write x)) → (xs : List T) → AllByRecursion Fits xs
    → IsPlainWithin (suc n) (list_data write xs)
plain_list n write each xs fits = within-list n write xs (all_again each xs fits)

pub plain_users : (n : ℕ) (users : List UserId) → AllByRecursion FitsUser users → IsPlainWithin (suc n) (list_data user_id_data users)
plain_users n users fits = plain_list n user_id_data (λ user small. plain_id n user.0 small) users fits

pub plain_streams : (n : ℕ) (streams : List StreamId) → AllByRecursion FitsStream streams → IsPlainWithin (suc n) (list_data stream_id_data streams)
plain_streams n streams fits = plain_list n stream_id_data (λ stream small. plain_id n stream.0 small) streams fits

pub plain_messages : (n : ℕ) (messages : List MessageId) → AllByRecursion FitsMessage messages → IsPlainWithin (suc n) (list_data message_id_data messages)
plain_messages n messages fits = plain_list n message_id_data (λ message small. plain_id n message.0 small) messages fits

-- ---- rows

pub plain_realm : (n : ℕ) (row : ShownRealm) → FitsRealm row → IsPlainWithin (suc n) (realm_data row)
plain_realm n row fits =
    plain_object n ((codes "name", string row.name) ∷ (codes "description", string row.description) ∷ [])
    ((refl, plain_text n row.name fits.0.1), ((refl, plain_text n row.description fits.1.1), tt))

pub plain_user : (n : ℕ) (row : UserId × ShownUser) → FitsUserRow row → IsPlainWithin (suc n) (user_data row)
plain_user n row fits =
    plain_object n
    ((codes "user_id", user_id_data row.0) ∷ (codes "role", number_data (role_number row.1.role)) ∷ (codes "is_active", boolean row.1.is_active)
    ∷ (codes "full_name", string row.1.full_name) ∷ (codes "email", string row.1.email) ∷ []) (
      (refl, plain_id n row.0.0 fits.0),
      (
        (refl, plain_role n row.1.role),
        (
          (refl, plain_truth n row.1.is_active),
          ((refl, plain_text n row.1.full_name fits.2.1), ((refl, plain_text n row.1.email fits.1.1), tt)),
        ),
      ),
    )

pub plain_stream : (n : ℕ) (row : StreamId × ShownStream) → FitsStreamRow row → IsPlainWithin (suc n) (stream_data row)
plain_stream n row fits =
    plain_object n
    ((codes "stream_id", stream_id_data row.0) ∷ (codes "name", string row.1.name) ∷ (codes "invite_only", boolean row.1.invite_only)
    ∷ (codes "history_public_to_subscribers", boolean row.1.history_public_to_subscribers) ∷ (codes "description", string row.1.description) ∷ []) (
      (refl, plain_id n row.0.0 fits.0),
      (
        (refl, plain_text n row.1.name fits.1.1),
        (
          (refl, plain_truth n row.1.invite_only),
          ((refl, plain_truth n row.1.history_public_to_subscribers), ((refl, plain_text n row.1.description fits.2.1), tt)),
        ),
      ),
    )

pub plain_subscription : (n : ℕ) (row : StreamId × ShownSubscription) → FitsSubscription row → IsPlainWithin (suc n) (subscription_data row)
plain_subscription n row fits =
    plain_object n
    ((codes "stream_id", stream_id_data row.0) ∷ (codes "pin_to_top", boolean row.1.pin_to_top) ∷ (codes "is_muted", boolean row.1.is_muted) ∷ (codes "color", string row.1.color) ∷ [])
    ((refl, plain_id n row.0.0 fits.0), ((refl, plain_truth n row.1.pin_to_top), ((refl, plain_truth n row.1.is_muted), ((refl, plain_text n row.1.color fits.1.1), tt))))

pub plain_subscriber : (n : ℕ) (row : (StreamId × UserId) × Unit {0}) → FitsSubscriber row → IsPlainWithin (suc n) (subscriber_data row)
plain_subscriber n row fits =
    plain_object n ((codes "user_id", user_id_data row.0.1) ∷ (codes "stream_id", stream_id_data row.0.0) ∷ [])
    ((refl, plain_id n row.0.1.0 fits.1), ((refl, plain_id n row.0.0.0 fits.0), tt))

pub plain_reaction : (n : ℕ) (row : ReactionKey × Unit {0}) → FitsReaction row → IsPlainWithin (suc n) (reaction_data row)
plain_reaction n row fits =
    plain_object n ((codes "user_id", user_id_data row.0.1) ∷ (codes "message_id", message_id_data row.0.0) ∷ (codes "emoji_name", string row.0.2) ∷ [])
    ((refl, plain_id n row.0.1.0 fits.1), ((refl, plain_id n row.0.0.0 fits.0), ((refl, plain_text n row.0.2 fits.2.1), tt)))

pub plain_own_reaction : (n : ℕ) (reaction : UserId × List ℕ) → FitsOwnReaction reaction → IsPlainWithin (suc n) (own_reaction_data reaction)
plain_own_reaction n reaction fits =
    plain_object n ((codes "user_id", user_id_data reaction.0) ∷ (codes "emoji_name", string reaction.1) ∷ [])
    ((refl, plain_id n reaction.0.0 fits.0), ((refl, plain_text n reaction.1 fits.1.1), tt))

pub plain_starred : (n : ℕ) (row : MessageId × Unit {0}) → FitsStarred row → IsPlainWithin n (starred_data row)
plain_starred n row fits = plain_id n row.0.0 fits

-- ---- messages

pub plain_place : (n : ℕ) (at : Place) (others : Members) → FitsPlace at → ArePlainWithin (suc n) others → ArePlainWithin (suc n) (with_place at others)
plain_place n (place.Stream stream topic) others fits old =
    within-puts (suc n) ((codes "type", string (codes "stream")) ∷ (codes "topic", string topic) ∷ (codes "stream_id", stream_id_data stream) ∷ []) others
    ((refl, plain_word (suc n) (codes "stream") refl), ((refl, plain_text (suc n) topic fits.1.1), ((refl, plain_id (suc n) stream.0 fits.0), tt))) old
plain_place n (place.Direct recipients) others fits old =
    within-puts (suc n) ((codes "type", string (codes "private")) ∷ (codes "recipients", list_data user_id_data recipients) ∷ []) others
    ((refl, plain_word (suc n) (codes "private") refl), ((refl, plain_users n recipients fits.0), tt)) old

plain_flags : (n : ℕ) (flags : MessageFlags) → IsPlainWithin (suc n) (list_data (λ (name : Data). name) (flag_names flags))
plain_flags n flags = within-list n (λ (name : Data). name) (flag_names flags) (go flags.collapsed flags.read flags.starred)
  where
    go : (a b c : Bool) → AllByRecursion (IsPlainWithin n)
        (cond a (string (codes "collapsed") ∷ []) [] ++ (cond b (string (codes "read") ∷ []) [] ++ cond c (string (codes "starred") ∷ []) []))
    go true true true = (plain_word n (codes "collapsed") refl, (plain_word n (codes "read") refl, (plain_word n (codes "starred") refl, tt)))
    go true true false = (plain_word n (codes "collapsed") refl, (plain_word n (codes "read") refl, tt))
    go true false true = (plain_word n (codes "collapsed") refl, (plain_word n (codes "starred") refl, tt))
    go true false false = (plain_word n (codes "collapsed") refl, tt)
    go false true true = (plain_word n (codes "read") refl, (plain_word n (codes "starred") refl, tt))
    go false true false = (plain_word n (codes "read") refl, tt)
    go false false true = (plain_word n (codes "starred") refl, tt)
    go false false false = tt

plain_message_members : (n : ℕ) (message : MessageId) (row : ShownMessage) → FitsMessageRow (message, row) → ArePlainWithin (suc n) (message_members message row)
plain_message_members n message row fits =
    plain_place n row.place (placeless_members message row) fits.2
    (within-puts (suc n)
    ((codes "timestamp", number_data row.timestamp) ∷ (codes "sender_id", user_id_data row.sender) ∷ (codes "id", message_id_data message)
    ∷ (codes "flags", list_data (λ (name : Data). name) (flag_names row.flags)) ∷ (codes "content", string row.content) ∷ [])
    no_members (
      (refl, plain_number (suc n) row.timestamp fits.4),
      (
        (refl, plain_id (suc n) row.sender.0 fits.1),
        (
          (refl, plain_id (suc n) message.0 fits.0),
          ((refl, plain_flags n row.flags), ((refl, plain_text (suc n) row.content fits.3.1), tt)),
        ),
      ),
    )
    (within-none (suc n)))

pub plain_message : (n : ℕ) (row : MessageId × ShownMessage) → FitsMessageRow row → IsPlainWithin (suc (suc n)) (message_data row)
plain_message n row fits = within-object (suc n) (message_members row.0 row.1) (plain_message_members n row.0 row.1 fits)

pub plain_full : (n : ℕ) (full : FullMessage) → FitsFull full → IsPlainWithin (suc (suc (suc n))) (full_message_data full)
plain_full n full fits =
    let m = suc (suc n) in
    within-object m (put (codes "reactions") (list_data own_reaction_data full.reactions) (message_members full.message full.row))
    (within-put m (codes "reactions") (list_data own_reaction_data full.reactions) (message_members full.message full.row) refl
    (plain_list (suc n) own_reaction_data (plain_own_reaction n) full.reactions fits.1.0)
    (plain_message_members (suc n) full.message full.row fits.0))

pub plain_unread : (n : ℕ) (row : MessageId × Place) → FitsUnread row → IsPlainWithin (suc (suc n)) (unread_data row)
plain_unread n row fits =
    let id = put (codes "id") (message_id_data row.0) no_members in
    within-object (suc n) (with_place row.1 id)
    (plain_place n row.1 id fits.1 (within-puts (suc n) ((codes "id", message_id_data row.0) ∷ []) no_members ((refl, plain_id (suc n) row.0.0 fits.0), tt) (within-none (suc n))))
