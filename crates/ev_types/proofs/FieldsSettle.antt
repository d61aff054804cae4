-- Setting a field of a row settles: where it is set again, what it was before doesn't matter.
use Rattle.std.proofs.Common.{◌≡◌, Bool, ap, refl}
use Rattle.ev_base.specs.declared.kinds.Flag.{Flag}
use Rattle.ev_base.specs.declared.kinds.Flag.TheVariants.{Read, Starred, Collapsed}
use Rattle.ev_types.specs.declared.rows.ShownRealm.{ShownRealm}
use Rattle.ev_types.specs.declared.rows.ShownUser.{ShownUser}
use Rattle.ev_types.specs.declared.rows.ShownStream.{ShownStream}
use Rattle.ev_types.specs.declared.rows.ShownSubscription.{ShownSubscription}
use Rattle.ev_types.specs.declared.rows.MessageFlags.{MessageFlags}
use Rattle.ev_types.specs.declared.rows.ShownMessage.{ShownMessage}
use Rattle.ev_types.specs.declared.event.RealmField.{RealmField}
use Rattle.ev_types.specs.declared.event.RealmField.TheVariants as realm_field
use Rattle.ev_types.specs.declared.event.UserField.{UserField}
use Rattle.ev_types.specs.declared.event.UserField.TheVariants as user_field
use Rattle.ev_types.specs.declared.event.StreamField.{StreamField}
use Rattle.ev_types.specs.declared.event.StreamField.TheVariants as stream_field
use Rattle.ev_types.specs.declared.event.SubscriptionField.{SubscriptionField}
use Rattle.ev_types.specs.declared.event.SubscriptionField.TheVariants as subscription_field
use Rattle.ev_types.specs.declared.event.Event.{Event}
use Rattle.ev_types.specs.declared.event.Event.TheVariants.{RealmUpdate}
use Rattle.ev_types.specs.Settling.{Settles}
use Rattle.ev_types.specs.EventWrites.{realm_with, realm_after, user_with, user_rules, stream_with, stream_rules, subscription_with, subscription_rules, MessageField, to_place, to_content, to_flag, flags_with, message_with, message_rules, unread_rules}

-- the realm
realm_again : (row : ShownRealm) (field : RealmField) → realm_with field (realm_with field row) ≡ realm_with field row
realm_again row (realm_field.Name value) = refl
realm_again row (realm_field.Description value) = refl

realm_past : (row : ShownRealm) (field between : RealmField) → realm_with field (realm_with between (realm_with field row)) ≡ realm_with field (realm_with between row)
realm_past row (realm_field.Name value) (realm_field.Name other) = refl
realm_past row (realm_field.Name value) (realm_field.Description other) = refl
realm_past row (realm_field.Description value) (realm_field.Name other) = refl
realm_past row (realm_field.Description value) (realm_field.Description other) = refl

pub realm_settles : Settles realm_after
realm_settles = record { again = again; past = past }
  where
    again : (realm : ShownRealm) (event : Event) → realm_after (realm_after realm event) event ≡ realm_after realm event
    again realm (RealmUpdate field) = realm_again realm field
    again realm event = refl

    past : (realm : ShownRealm) (event between : Event) → realm_after (realm_after (realm_after realm event) between) event ≡ realm_after (realm_after realm between) event
    past realm (RealmUpdate field) (RealmUpdate other) = realm_past realm field other
    past realm (RealmUpdate field) between = realm_again realm field
    past realm event between = refl

-- users
user_again : (row : ShownUser) (field : UserField) → user_with field (user_with field row) ≡ user_with field row
user_again row (user_field.FullName value) = refl
user_again row (user_field.Role value) = refl
user_again row (user_field.IsActive value) = refl

user_past : (row : ShownUser) (field between : UserField) → user_with field (user_with between (user_with field row)) ≡ user_with field (user_with between row)
user_past row (user_field.FullName value) (user_field.FullName other) = refl
user_past row (user_field.FullName value) (user_field.Role other) = refl
user_past row (user_field.FullName value) (user_field.IsActive other) = refl
user_past row (user_field.Role value) (user_field.FullName other) = refl
user_past row (user_field.Role value) (user_field.Role other) = refl
user_past row (user_field.Role value) (user_field.IsActive other) = refl
user_past row (user_field.IsActive value) (user_field.FullName other) = refl
user_past row (user_field.IsActive value) (user_field.Role other) = refl
user_past row (user_field.IsActive value) (user_field.IsActive other) = refl

pub users_settle : Settles (λ row field. user_rules.set field row)
users_settle = record { again = user_again; past = user_past }

-- streams
stream_again : (row : ShownStream) (field : StreamField) → stream_with field (stream_with field row) ≡ stream_with field row
stream_again row (stream_field.Name value) = refl
stream_again row (stream_field.Description value) = refl
stream_again row (stream_field.InviteOnly value) = refl
stream_again row (stream_field.HistoryPublicToSubscribers value) = refl

stream_past : (row : ShownStream) (field between : StreamField) → stream_with field (stream_with between (stream_with field row)) ≡ stream_with field (stream_with between row)
stream_past row (stream_field.Name value) (stream_field.Name other) = refl
stream_past row (stream_field.Name value) (stream_field.Description other) = refl
stream_past row (stream_field.Name value) (stream_field.InviteOnly other) = refl
stream_past row (stream_field.Name value) (stream_field.HistoryPublicToSubscribers other) = refl
stream_past row (stream_field.Description value) (stream_field.Name other) = refl
stream_past row (stream_field.Description value) (stream_field.Description other) = refl
stream_past row (stream_field.Description value) (stream_field.InviteOnly other) = refl
stream_past row (stream_field.Description value) (stream_field.HistoryPublicToSubscribers other) = refl
stream_past row (stream_field.InviteOnly value) (stream_field.Name other) = refl
stream_past row (stream_field.InviteOnly value) (stream_field.Description other) = refl
stream_past row (stream_field.InviteOnly value) (stream_field.InviteOnly other) = refl
stream_past row (stream_field.InviteOnly value) (stream_field.HistoryPublicToSubscribers other) = refl
stream_past row (stream_field.HistoryPublicToSubscribers value) (stream_field.Name other) = refl
stream_past row (stream_field.HistoryPublicToSubscribers value) (stream_field.Description other) = refl
stream_past row (stream_field.HistoryPublicToSubscribers value) (stream_field.InviteOnly other) = refl
stream_past row (stream_field.HistoryPublicToSubscribers value) (stream_field.HistoryPublicToSubscribers other) = refl

pub streams_settle : Settles (λ row field. stream_rules.set field row)
streams_settle = record { again = stream_again; past = stream_past }

-- subscriptions
subscription_again : (row : ShownSubscription) (field : SubscriptionField) → subscription_with field (subscription_with field row) ≡ subscription_with field row
subscription_again row (subscription_field.Color value) = refl
subscription_again row (subscription_field.IsMuted value) = refl
subscription_again row (subscription_field.PinToTop value) = refl

subscription_past : (row : ShownSubscription) (field between : SubscriptionField) → subscription_with field (subscription_with between (subscription_with field row)) ≡ subscription_with field (subscription_with between row)
subscription_past row (subscription_field.Color value) (subscription_field.Color other) = refl
subscription_past row (subscription_field.Color value) (subscription_field.IsMuted other) = refl
subscription_past row (subscription_field.Color value) (subscription_field.PinToTop other) = refl
subscription_past row (subscription_field.IsMuted value) (subscription_field.Color other) = refl
subscription_past row (subscription_field.IsMuted value) (subscription_field.IsMuted other) = refl
subscription_past row (subscription_field.IsMuted value) (subscription_field.PinToTop other) = refl
subscription_past row (subscription_field.PinToTop value) (subscription_field.Color other) = refl
subscription_past row (subscription_field.PinToTop value) (subscription_field.IsMuted other) = refl
subscription_past row (subscription_field.PinToTop value) (subscription_field.PinToTop other) = refl

pub subscriptions_settle : Settles (λ row field. subscription_rules.set field row)
subscriptions_settle = record { again = subscription_again; past = subscription_past }

-- messages
flags_again : (flag : Flag) (value : Bool) (flags : MessageFlags) → flags_with flag value (flags_with flag value flags) ≡ flags_with flag value flags
flags_again Read value flags = refl
flags_again Starred value flags = refl
flags_again Collapsed value flags = refl

flags_past : (flag other : Flag) (value between : Bool) (flags : MessageFlags)
    → flags_with flag value (flags_with other between (flags_with flag value flags)) ≡ flags_with flag value (flags_with other between flags)
flags_past Read Read value between flags = refl
flags_past Read Starred value between flags = refl
flags_past Read Collapsed value between flags = refl
flags_past Starred Read value between flags = refl
flags_past Starred Starred value between flags = refl
flags_past Starred Collapsed value between flags = refl
flags_past Collapsed Read value between flags = refl
flags_past Collapsed Starred value between flags = refl
flags_past Collapsed Collapsed value between flags = refl

message_again : (row : ShownMessage) (field : MessageField) → message_with field (message_with field row) ≡ message_with field row
message_again row (to_place place) = refl
message_again row (to_content content) = refl
message_again row (to_flag flag value) = ap (λ flags. record row { flags = flags }) (flags_again flag value row.flags)

message_past : (row : ShownMessage) (field between : MessageField) → message_with field (message_with between (message_with field row)) ≡ message_with field (message_with between row)
message_past row (to_place place) (to_place other) = refl
message_past row (to_place place) (to_content other) = refl
message_past row (to_place place) (to_flag flag value) = refl
message_past row (to_content content) (to_place other) = refl
message_past row (to_content content) (to_content other) = refl
message_past row (to_content content) (to_flag flag value) = refl
message_past row (to_flag flag value) (to_place other) = ap (λ flags. record row { place = other; flags = flags }) (flags_again flag value row.flags)
message_past row (to_flag flag value) (to_content other) = ap (λ flags. record row { content = other; flags = flags }) (flags_again flag value row.flags)
message_past row (to_flag flag value) (to_flag other between) = ap (λ flags. record row { flags = flags }) (flags_past flag other value between row.flags)

pub messages_settle : Settles (λ row field. message_rules.set field row)
messages_settle = record { again = message_again; past = message_past }

-- unread messages, whose rows are places
pub unread_settle : Settles (λ row field. unread_rules.set field row)
unread_settle = record { again = λ row place. refl; past = λ row place between. refl }

-- rows that have no fields
pub no_fields_settle : {V F : Type 0} → Settles (λ (row : V) (field : F). row)
no_fields_settle = record { again = λ row field. refl; past = λ row field between. refl }
