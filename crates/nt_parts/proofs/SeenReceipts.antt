-- Of the receipts for a message, the users who see it.
use Rattle.std.proofs.Common.{◌≡◌, Bool, true, false, ◌&&◌, cond, List, [], ◌∷◌, filter, map, Some, ap, refl}
use Rattle.std.specs.BTreeMap.{is_at}
use Rattle.std.specs.List.{cons_option, filter_map}
use Rattle.ev_rows.specs.Rows.{keys_of, only_if}
use Rattle.ev_base.specs.Orders.{message_cmp}
use Rattle.ev_base.specs.declared.ids.UserId.{UserId}
use Rattle.ev_base.specs.declared.ids.MessageId.{MessageId}
use Rattle.zr_types.specs.declared.posts.Receipt.{Receipt}

abbrev Receipts : Type 0
Receipts = List ((MessageId × UserId) × Receipt)

pub readers_among : (seen : UserId → Bool) (message : MessageId) (rows : Receipts)
    → filter seen (map (λ row. row.0.1) (filter (λ row. is_at (message_cmp message) row.0.0) rows))
    ≡ keys_of (filter_map (λ row. only_if (is_at (message_cmp message) row.0.0 && seen row.0.1) (Some (row.0.1, tt {0}))) rows)
readers_among seen message [] = refl
readers_among seen message (row ∷ rows) = go (is_at (message_cmp message) row.0.0) (seen row.0.1) refl (readers_among seen message rows)
  where
    found : Receipts → List UserId
    found rows = filter seen (map (λ row. row.0.1) (filter (λ row. is_at (message_cmp message) row.0.0) rows))

    told : Receipts → List (UserId × Unit {0})
    told rows = filter_map (λ row. only_if (is_at (message_cmp message) row.0.0 && seen row.0.1) (Some (row.0.1, tt {0}))) rows

    go : (at sees : Bool) → seen row.0.1 ≡ sees → found rows ≡ keys_of (told rows)
        → filter seen (map (λ row. row.0.1) (cond at (row ∷ filter (λ row. is_at (message_cmp message) row.0.0) rows) (filter (λ row. is_at (message_cmp message) row.0.0) rows)))
        ≡ keys_of (cons_option (only_if (at && sees) (Some (row.0.1, tt {0}))) (told rows))
    go true true is further = rw is (ap (λ l. row.0.1 ∷ l) further)
    go true false is further = rw is further
    go false sees is further = further
