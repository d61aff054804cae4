-- Members that were written are found again.
use Rattle.std.proofs.Common.{◌≡◌, ◌⊎◌, inl, inr, ℕ, ◌<◌, ◌^◌, ℤ, pos, negsuc, List, [], map, Bool, true, false, ◌||◌, Option, Some, None, is_none, refl, ap, ◌∷◌, lt-ltb}
use Rattle.std.specs.List.{AllByRecursion}
use Rattle.serde_json.specs.Data.{Data, boolean, number, string}
use Rattle.serde_json.specs.Find.{as_i64, get, of_integer}
use Rattle.ev_base.specs.Texts.{fault_of}
use Rattle.ev_base.specs.declared.text.TextKind.TheVariants.{Content, RealmDescription}
use Rattle.ev_base.specs.Roles.{role_of, role_number}
use Rattle.ev_base.specs.declared.kinds.Role.{Role}
use Rattle.ev_base.specs.declared.kinds.Role.TheVariants.{Owner, Administrator, Moderator, Member, Guest}
use Rattle.ev_base.proofs.TextLemmas.{description_or_content}
use Rattle.ev_json.specs.Fields.{field, i64_of}
use Rattle.ev_json.proofs.Lists.{list_of-items_of}
use Rattle.ev_wire.specs.Values.{list_data, number_data, user_id_data, stream_id_data, message_id_data}
use Rattle.ev_base.specs.declared.ids.UserId.{UserId}
use Rattle.ev_base.specs.declared.ids.StreamId.{StreamId}
use Rattle.ev_base.specs.declared.ids.MessageId.{MessageId}
use Rattle.ev_read.specs.Reading.{kept}
use Rattle.ev_read.specs.Values.{bool_field, id_field, id_from, id_of, message_from, number_field, role_field, stream_from, taken, text_field, user_from}
use Rattle.ev_read.specs.Lists.{list_field}
use Rattle.ev_bodies.specs.Fits.{FitsI64, FitsMessage, FitsStream, FitsText, FitsUser, Rises}
use Rattle.ev_bodies.proofs.Rising.{rows_again}

either : (a b : Bool) → (a ≡ true) ⊎ (b ≡ true) → (a || b) ≡ true
either true b e = refl
either false b (inl e) = cc
either false b (inr e) = e

none_is : {A : Type 0} (o : Option A) → o ≡ None → is_none o ≡ true
none_is o e = ap (λ x. is_none x) e

one_kind : (text : List ℕ) → (fault_of RealmDescription text ≡ None) ⊎ (fault_of Content text ≡ None)
    → (is_none (fault_of RealmDescription text) || is_none (fault_of Content text)) ≡ true
one_kind text (inl e) = either _ _ (inl (none_is _ e))
one_kind text (inr e) = either _ _ (inr (none_is _ e))

taken_again : (text : List ℕ) → FitsText text → taken text ≡ Some text
unfolding taken
taken_again text fits = rw (one_kind text (description_or_content text fits.0)) refl

id_again : (n : ℕ) → n < 2 ^ 32 → id_of n ≡ Some n
unfolding id_of
id_again n fits = rw (lt-ltb _ _ fits) refl

role_again : (role : Role) → role_of (role_number role) ≡ Some role
role_again Owner = refl
role_again Administrator = refl
role_again Moderator = refl
role_again Member = refl
role_again Guest = refl

pub signed_again : (id : ℤ) → FitsI64 id → as_i64 (of_integer id) ≡ Some id
signed_again (pos n) fits = rw (lt-ltb _ _ fits) refl
signed_again (negsuc n) fits = refl

module _ (name : List ℕ) (d : Data) where
  pub text_found : (text : List ℕ) → get name d ≡ Some (string text) → FitsText text → text_field name d ≡ Some text
  unfolding text_field
  text_found text is fits = rw (is, taken_again text fits) refl

  pub id_found : (n : ℕ) → get name d ≡ Some (number_data n) → n < 2 ^ 32 → id_field name d ≡ Some n
  unfolding id_field
  id_found n is fits = rw (is, id_again n fits) refl

  pub number_found : (n : ℕ) → get name d ≡ Some (number_data n) → number_field name d ≡ Some n
  unfolding number_field
  number_found n is = rw is refl

  pub bool_found : (b : Bool) → get name d ≡ Some (boolean b) → bool_field name d ≡ Some b
  unfolding bool_field
  bool_found b is = rw is refl

  pub role_found : (role : Role) → get name d ≡ Some (number_data (role_number role)) → role_field name d ≡ Some role
  unfolding role_field
  role_found role is = rw (is, role_again role) refl

  pub signed_found : (id : ℤ) → get name d ≡ Some (number (of_integer id)) → FitsI64 id → kept (field i64_of name d) ≡ Some id
  signed_found id is fits = rw (is, signed_again id fits) refl

  pub list_found : {T : Type 0} (reads : Data → Option T) (is_below : T → T → Bool) (write : T → Data) (rows : List T)
      → get name d ≡ Some (list_data write rows) → Rises is_below rows → AllByRecursion (λ row. reads (write row) ≡ Some row) rows
      → list_field reads is_below name d ≡ Some rows
  unfolding list_field
  list_found reads is_below write rows is rise again =
      rw (is, list_of-items_of (map write rows), rows_again reads is_below write rows rise again) refl

-- ids in lists
pub user_again : (user : UserId) → FitsUser user → user_from (user_id_data user) ≡ Some user
unfolding user_from id_from
user_again user fits = rw (id_again user.0 fits) refl

pub stream_again : (stream : StreamId) → FitsStream stream → stream_from (stream_id_data stream) ≡ Some stream
unfolding stream_from id_from
stream_again stream fits = rw (id_again stream.0 fits) refl

pub message_again : (message : MessageId) → FitsMessage message → message_from (message_id_data message) ≡ Some message
unfolding message_from id_from
message_again message fits = rw (id_again message.0 fits) refl

-- what holds of all of a list, from what holds of each
pub all_again : {T : Type 0} {Fits Again : T → Type 0} → ((x : T) → Fits x → Again x) → (xs : List T) → AllByRecursion Fits xs → AllByRecursion Again xs
all_again each [] fits = tt
all_again each (x ∷ xs) fits = (each x fits.0, all_again each xs fits.1)
