-- Where a user's role stays, nothing comes or goes.
use Rattle.std.proofs.Common.{◌≡◌, Bool, true, false, not, ◌&&◌, List, [], ◌∷◌, Option, None, Some, option_map, ap, refl, ◌∙◌}
use Rattle.std.specs.List.{cons_option}
use Rattle.ev_rows.specs.Rows.{only_if, sift}
use Rattle.ev_rows.proofs.RowLemmas.{only_if-None}
use Rattle.ev_base.specs.declared.ids.UserId.{UserId}
use Rattle.ev_base.specs.declared.ids.MessageId.{MessageId}
use Rattle.ev_base.specs.declared.kinds.Role.{Role}
use Rattle.ev_base.specs.declared.place.Place.{Place}
use Rattle.ev_base.specs.declared.place.Place.TheVariants as place
use Rattle.zr_types.specs.Tables.{Tables, receipt_of, stream_at}
use Rattle.zr_types.specs.Visibility.{is_subscribed, sees_by}
use Rattle.zw_views.specs.Views.{shown_message, shown_stream}
use Rattle.nt_people.specs.PeopleParts.{arrived, message_sight, opened, opens, opens_place, stream_sight}

module _ {K V W : Type 0} (f : K × V → Option W) where
  -- nothing is made of rows of which each gives nothing
  pub sift_none : ((row : K × V) → f row ≡ None) → (rows : List (K × V)) → sift f rows ≡ []
  sift_none none [] = refl
  sift_none none (row ∷ rows) = ap (λ o. cons_option (option_map (λ w. (row.0, w)) o) (sift f rows)) (none row) ∙ sift_none none rows

module _ (tables : Tables) (user : UserId) (role : Option Role) where
  never : (b : Bool) → (b && not b) ≡ false
  never true = refl
  never false = refl

  pub nothing_opens : opened tables user role role ≡ []
  nothing_opens = sift_none (λ row. only_if (opens tables user role role row.0) (Some (shown_stream row.1)))
      (λ row. ap (λ b. only_if b (Some (shown_stream row.1))) (never (sees_by role (stream_at tables row.0) (is_subscribed tables user row.0)))) tables.streams

  no_place : (at : Place) → opens_place tables user role role at ≡ false
  no_place (place.Stream stream topic) = never (sees_by role (stream_at tables stream) (is_subscribed tables user stream))
  no_place (place.Direct recipients) = refl

  nothing_arrives : arrived tables user role role ≡ []
  nothing_arrives = sift_none (λ row. only_if (opens_place tables user role role row.1.place) (option_map (shown_message row.1) (receipt_of tables user row.0)))
      (λ row. ap (λ b. only_if b (option_map (shown_message row.1) (receipt_of tables user row.0))) (no_place row.1.place)) tables.messages

  pub same_streams : stream_sight tables user role role ≡ []
  same_streams = rw nothing_opens refl

  pub same_messages : message_sight tables user role role ≡ []
  same_messages = rw nothing_arrives refl

-- nor do messages for a user who has no receipts
pub no_receipts : (tables : Tables) (user : UserId) (old new : Option Role) → ((message : MessageId) → receipt_of tables user message ≡ None) → message_sight tables user old new ≡ []
no_receipts tables user old new none = rw (nothing old new, nothing new old) refl
  where
    nothing : (old new : Option Role) → arrived tables user old new ≡ []
    nothing old new = sift_none (λ row. only_if (opens_place tables user old new row.1.place) (option_map (shown_message row.1) (receipt_of tables user row.0)))
        (λ row. ap (λ o. only_if (opens_place tables user old new row.1.place) (option_map (shown_message row.1) o)) (none row.0) ∙ only_if-None (opens_place tables user old new row.1.place)) tables.messages
