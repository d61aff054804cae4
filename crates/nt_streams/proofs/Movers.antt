-- Where a stream's row stays as open as it was, the turn's user alone may find or lose the stream.
use Rattle.std.proofs.Common.{◌≡◌, ℕ, Bool, true, false, not, ◌&&◌, ◌==◌, cond, if◌then◌else◌, List, [], ◌∷◌, ◌++◌, flat_map, length, Option, None, Some, Equal, Ordering, option_map, refl, ap, sym, ◌∙◌, arith}
use Rattle.std.specs.Prelude.{⊤, ◌≢◌}
use Rattle.std.specs.BTreeMap.{is_at}
use Rattle.std.specs.List.{cons_option}
use Rattle.std.specs.Option.{option_and_then}
use Rattle.std.specs.Ordering.{is_eq, nat_cmp}
use Rattle.std.proofs.lemmas.Bool.Decides.{nat_tests}
use Rattle.ev_rows.specs.Rows.{SortedByKey, keys_of, one_of, one_row, only_if, row_at, sift}
use Rattle.ev_rows.proofs.RiseLemmas.{rise-sift}
use Rattle.ev_rows.proofs.RowLemmas.{only_at, row_at-sift}
use Rattle.ev_base.specs.Orders.{user_cmp, user_order}
use Rattle.ev_base.specs.declared.ids.UserId.{UserId}
use Rattle.ev_base.specs.declared.kinds.Role.{Role}
use Rattle.ev_types.specs.declared.notice.Part.{Part}
use Rattle.nt_streams.specs.Sights.{IsAsOpen, has_sight, own_events, own_part}
use Rattle.ev_types.specs.declared.event.Event.TheVariants as event
use Rattle.nt_streams.specs.StreamParts.{each, finder_parts, found, loser_parts, those, told}
use Rattle.nt_streams.specs.Turned.{finds, loses, peers_after, saw, sees}
use Rattle.nt_streams.specs.declared.own.Own.{Own}
use Rattle.nt_streams.specs.declared.own.Own.TheVariants as own
use Rattle.nt_streams.specs.declared.sight.Sight.{Sight}
use Rattle.nt_streams.specs.declared.sight.Sight.TheVariants.{Found, Kept, Left, Lost}
use Rattle.nt_streams.specs.declared.turn.Turn.{Turn}
use Rattle.zr_types.specs.declared.people.User.{User}
use Rattle.zr_types.specs.declared.streams.Stream.{Stream}
use Rattle.zr_types.specs.Tables.{Tables, stream_at, user_at}
use Rattle.zr_types.specs.Visibility.{is_subscribed, role_of, same_user, sees_by}

as_open : (role : Option Role) (old new : Option Stream) (subscribed : Bool) → IsAsOpen old new → sees_by role new subscribed ≡ sees_by role old subscribed
as_open None old new subscribed same = refl
as_open (Some role) None None subscribed same = refl
as_open (Some role) None (Some new) subscribed same = absurd same
as_open (Some role) (Some old) None subscribed same = absurd same
as_open (Some role) (Some old) (Some new) subscribed same = rw (same.0, same.1) refl

pub no_items : {X : Type 0} (xs : List X) → length xs ≡ 0 → [] ≡ xs
no_items [] none = refl
no_items (x ∷ xs) none = absurd (omega (arith, none))

not_both : (b : Bool) → (b && not b) ≡ false
not_both true = refl
not_both false = refl

not_all_three : (b c : Bool) → ((b && not b) && c) ≡ false
not_all_three true c = refl
not_all_three false c = refl

other_user : (q u : ℕ) → is_eq (nat_cmp q u) ≡ false → (u == q) ≡ false
other_user q u off = go (u == q) refl (nat_cmp q u) refl off
  where
    go : (b : Bool) → (u == q) ≡ b → (o : Ordering) → nat_cmp q u ≡ o → is_eq o ≡ false → b ≡ false
    go true is Equal same off = cc
    go true is o other off = absurd (grind (arith, nat_tests))
    go false is o order off = refl

module _ (tables : Tables) (turn : Turn) where
  -- a number without a user has no sight
  nobody : (sight : Sight) (user : UserId) → user_at tables user ≡ None → has_sight tables turn sight user ≡ false
  nobody Found user none = rw none refl
  nobody Kept user none = rw none refl
  nobody Lost user none = rw none refl
  nobody Left user none = rw none refl

  module _ (same : IsAsOpen (stream_at tables turn.stream) turn.row) where
    sees_as_before : (user : UserId) → same_user turn.user user ≡ false → sees tables turn user ≡ saw tables turn user
    sees_as_before user off = rw off (as_open (role_of tables user) (stream_at tables turn.stream) turn.row (is_subscribed tables user turn.stream) same)

    stays_put : (sight : Sight) → sight ≢ Kept → (user : UserId) → same_user turn.user user ≡ false → has_sight tables turn sight user ≡ false
    stays_put Found moves user off = rw (sees_as_before user off) (not_both (saw tables turn user))
    stays_put Kept moves user off = absurd (moves refl)
    stays_put Lost moves user off = rw (sees_as_before user off) (not_both (saw tables turn user))
    stays_put Left moves user off = rw (sees_as_before user off) (not_all_three (saw tables turn user) (is_subscribed tables user turn.stream))

    pub movers_are : (sight : Sight) → sight ≢ Kept → SortedByKey user_cmp tables.users
        → those tables (has_sight tables turn sight) ≡ cond (has_sight tables turn sight turn.user) (turn.user ∷ []) []
    movers_are sight moves rise =
        ap keys_of (only_at user_order moved turn.user (rise-sift user_cmp mover tables.users rise) (λ q off. row_at-sift user_order mover tables.users q rise ∙ quiet q off (row_at user_cmp tables.users q)))
        ∙ ap (λ row. keys_of (one_row turn.user row)) (row_at-sift user_order mover tables.users turn.user rise)
        ∙ go (row_at user_cmp tables.users turn.user) refl (has_sight tables turn sight turn.user) refl
      where
        mover : UserId × User → Option ⊤
        mover row = only_if (has_sight tables turn sight row.0) (Some (tt {0}))

        moved : List (UserId × ⊤)
        moved = sift mover tables.users

        quiet : (q : UserId) → is_at (user_cmp q) turn.user ≡ false → (row : Option User) → option_and_then (λ v. mover (q, v)) row ≡ None
        quiet q off None = refl
        quiet q off (Some row) = ap (λ b. only_if b (Some (tt {0}))) (stays_put sight moves q (other_user q.0 turn.user.0 off))

        shown : (b : Bool) → keys_of (one_row turn.user (only_if b (Some (tt {0})))) ≡ cond b (turn.user ∷ []) []
        shown true = refl
        shown false = refl

        go : (row : Option User) → row_at user_cmp tables.users turn.user ≡ row → (b : Bool) → has_sight tables turn sight turn.user ≡ b
            → keys_of (one_row turn.user (option_and_then (λ v. mover (turn.user, v)) row)) ≡ cond b (turn.user ∷ []) []
        go None none true has = let clash = sym has ∙ nobody sight turn.user none in cc
        go None none false has = refl
        go (Some row) there b has = ap (λ b. keys_of (one_row turn.user (only_if b (Some (tt {0}))))) has ∙ shown b

  -- what each of the users who pass a test is told, by their list
  pub each_of_those : (test : UserId → Bool) (of : Own) → flat_map (own_part tables turn of) (those tables test) ≡ each tables test (own_events tables turn of)
  each_of_those test of = all tables.users
    where
      all : (rows : List (UserId × User)) → flat_map (own_part tables turn of) (keys_of (sift (λ row. only_if (test row.0) (Some (tt {0}))) rows))
          ≡ flat_map (λ (row : UserId × User). if test row.0 then own_part tables turn of row.0 else []) rows
      all [] = refl
      all (row ∷ rows) = go (test row.0) (all rows)
        where
          go : (b : Bool) → flat_map (own_part tables turn of) (keys_of (sift (λ row. only_if (test row.0) (Some (tt {0}))) rows))
              ≡ flat_map (λ (row : UserId × User). if test row.0 then own_part tables turn of row.0 else []) rows
              → flat_map (own_part tables turn of) (keys_of (cons_option (option_map (λ w. (row.0, w)) (only_if b (Some (tt {0})))) (sift (λ row. only_if (test row.0) (Some (tt {0}))) rows)))
              ≡ (if b then own_part tables turn of row.0 else []) ++ flat_map (λ (row : UserId × User). if test row.0 then own_part tables turn of row.0 else []) rows
          go true further = ap (λ l. own_part tables turn of row.0 ++ l) further
          go false further = further

  -- the parts for those who find the stream, by their list
  abbrev pub finders_told : List UserId → List Part
  finders_told users =
      told users (found turn)
      ++ flat_map (own_part tables turn own.Subscription) users
      ++ told users (one_of (event.PeerAdd turn.stream) (keys_of (peers_after tables turn)))
      ++ flat_map (own_part tables turn own.Messages) users

  pub finders_by_list : (users : List UserId) → users ≡ those tables (finds tables turn) → finders_told users ≡ finder_parts tables turn
  finders_by_list users are =
      ap finders_told are
      ∙ rw (each_of_those (finds tables turn) own.Subscription, each_of_those (finds tables turn) own.Messages) refl

  -- the parts for those who lose it, by their list and that of the subscribers among them
  abbrev pub losers_told : List UserId → List UserId → List Part
  losers_told losers subscribers =
      told losers (event.StreamDelete (turn.stream ∷ []) ∷ [])
      ++ told subscribers (event.SubRemove (turn.stream ∷ []) ∷ [])
      ++ flat_map (own_part tables turn own.Gone) losers

  pub losers_by_list : (losers subscribers : List UserId) → losers ≡ those tables (has_sight tables turn Lost) → subscribers ≡ those tables (has_sight tables turn Left)
      → losers_told losers subscribers ≡ loser_parts tables turn
  losers_by_list losers subscribers are subscribe =
      ap (λ users. losers_told users subscribers) are
      ∙ ap (losers_told (those tables (has_sight tables turn Lost))) subscribe
      ∙ rw (each_of_those (loses tables turn) own.Gone) refl
