-- What a user hears of parts for those who pass a test, and pieces for what comes and goes.
use Rattle.std.proofs.Common.{◌≡◌, Bool, true, false, not, ◌&&◌, ◌||◌, cond, List, [], ◌∷◌, ◌++◌, Option, None, Some, is_some, option_map, option_and_then, sym, ap, refl, ◌∙◌}
use Rattle.std.specs.BTreeMap.{is_at}
use Rattle.std.specs.List.{cons_option}
use Rattle.ev_rows.specs.Rows.{SortedByKey, fresh, gained, made_of, only_if, sift}
use Rattle.ev_rows.proofs.RowLemmas.{at_itself, at_turned, flat_map_at, row_at-sift}
use Rattle.ev_rows.proofs.ChangeLemmas.{fresh-same}
use Rattle.ev_base.specs.Orders.{user_cmp, user_order}
use Rattle.ev_base.specs.declared.ids.UserId.{UserId}
use Rattle.ev_base.specs.declared.ids.StreamId.{StreamId}
use Rattle.ev_base.specs.declared.ids.MessageId.{MessageId}
use Rattle.ev_base.specs.declared.place.Place.TheVariants as place
use Rattle.ev_types.specs.Audiences.{has_user}
use Rattle.ev_types.specs.declared.event.Event.{Event}
use Rattle.ev_types.specs.declared.notice.Audience.TheVariants.{Only}
use Rattle.ev_types.specs.declared.notice.Part.{Part}
use Rattle.nt_rules.specs.Parts.{heard_of, to}
use Rattle.nt_rules.proofs.Alike.{either_way}
use Rattle.nt_rules.proofs.Heard.{has_keys, has_one, heard_both, heard_each, heard_to}
use Rattle.nt_rules.proofs.PeerChanges.{flat_map_same}
use Rattle.nt_streams.specs.StreamParts.{each, those, told}
use Rattle.zr_types.specs.declared.people.User.{User}
use Rattle.zr_types.specs.Tables.{Tables, receipt_of, user_at}
use Rattle.zr_types.specs.Visibility.{has_protected_history, sees_at, sees_stream}

-- a cell that was hidden or shown by one test, and is by another
pub turned : {W : Type 0} (saw sees : Bool) (cell : Option W) → fresh (only_if saw cell) (only_if sees cell) ≡ only_if (sees && not saw) cell
turned true true cell = fresh-same cell
turned true false None = refl
turned true false (Some w) = refl
turned false true None = refl
turned false true (Some w) = refl
turned false false cell = refl

-- a list gains all over none
pub gained_of_none : (rows : List (UserId × Unit {0})) → gained user_cmp {V = Unit {0}} [] rows ≡ rows
gained_of_none [] = refl
gained_of_none (row ∷ rows) = ap (λ l. row ∷ l) (gained_of_none rows)

module _ {K V W : Type 0} (f : K × V → Option W) where
  -- nothing is made of rows of which each gives nothing
  pub sift_none : ((row : K × V) → f row ≡ None) → (rows : List (K × V)) → sift f rows ≡ []
  sift_none none [] = refl
  sift_none none (row ∷ rows) = ap (λ o. cons_option (option_map (λ w. (row.0, w)) o) (sift f rows)) (none row) ∙ sift_none none rows

pub or_true : (b : Bool) → (b || true) ≡ true
or_true true = refl
or_true false = refl

pub and_true : (b : Bool) → (b && true) ≡ b
and_true true = refl
and_true false = refl

pub and_false : (b : Bool) → (b && false) ≡ false
and_false true = refl
and_false false = refl

pub never : (b : Bool) → (b && not b) ≡ false
never true = refl
never false = refl

-- of a message with a receipt, the stream alone tells whether it is seen
pub seen_there : (tables : Tables) (user : UserId) (message : MessageId) (sender : UserId) (stream : StreamId) (topic : List _) → is_some (receipt_of tables user message) ≡ true
    → sees_at tables user message sender (place.Stream stream topic) ≡ sees_stream tables user stream
seen_there tables user message sender stream topic has =
    ap (λ b. sees_stream tables user stream && (not (has_protected_history tables user stream) || b)) has
    ∙ ap (λ b. sees_stream tables user stream && b) (or_true (not (has_protected_history tables user stream)))
    ∙ and_true (sees_stream tables user stream)

module _ (hearer : UserId) where
  -- of parts for some users
  pub heard_told : (users : List UserId) (events : List Event) → heard_of hearer (told users events) ≡ cond (has_user hearer (Only users)) events []
  heard_told [] events = refl
  heard_told (user ∷ users) events = heard_to hearer (Only (user ∷ users)) events

  pub heard_three : (a b c : List Part) → heard_of hearer (a ++ b ++ c) ≡ heard_of hearer a ++ heard_of hearer b ++ heard_of hearer c
  heard_three a b c = heard_both hearer (a ++ b) c ∙ ap (λ l. l ++ heard_of hearer c) (heard_both hearer a b)

  pub heard_four : (a b c d : List Part) → heard_of hearer (a ++ b ++ c ++ d) ≡ heard_of hearer a ++ heard_of hearer b ++ heard_of hearer c ++ heard_of hearer d
  heard_four a b c d = heard_both hearer (a ++ b ++ c) d ∙ ap (λ l. l ++ heard_of hearer d) (heard_three a b c)

  -- of a test that nobody passes who isn't there
  module _ (tables : Tables) (rise : SortedByKey user_cmp tables.users) (test : UserId → Bool) (nobody : user_at tables hearer ≡ None → test hearer ≡ false) where
    has_those : has_user hearer (Only (those tables test)) ≡ test hearer
    has_those =
        has_keys hearer (sift (λ row. only_if (test row.0) (Some (tt {0}))) tables.users)
        ∙ ap is_some (row_at-sift user_order (λ row. only_if (test row.0) (Some (tt {0}))) tables.users hearer rise)
        ∙ go (user_at tables hearer) refl
      where
        given : (b : Bool) → is_some (only_if b (Some (tt {0}))) ≡ b
        given true = refl
        given false = refl

        go : (o : Option User) → user_at tables hearer ≡ o → is_some (option_and_then (λ (row : User). only_if (test hearer) (Some (tt {0}))) o) ≡ test hearer
        go None is = sym (nobody is)
        go (Some row) is = given (test hearer)

    pub heard_those : (events : List Event) → heard_of hearer (told (those tables test) events) ≡ cond (test hearer) events []
    heard_those events = heard_told (those tables test) events ∙ ap (λ b. cond b events []) has_those

    module _ (tell : UserId → List Event) where
      abbrev own : UserId → List Event
      own user = cond (test user) (tell user) []

      abbrev heard_own : UserId × User → List Event
      heard_own row = cond (is_at (user_cmp hearer) row.0) (own row.0) []

      one : (row : UserId × User) → heard_of hearer (cond (test row.0) (to (Only (row.0 ∷ [])) (tell row.0)) []) ≡ heard_own row
      one row = go (test row.0)
        where
          go : (b : Bool) → heard_of hearer (cond b (to (Only (row.0 ∷ [])) (tell row.0)) []) ≡ cond (is_at (user_cmp hearer) row.0) (cond b (tell row.0) []) []
          go true = heard_to hearer (Only (row.0 ∷ [])) (tell row.0) ∙ ap (λ b. cond b (tell row.0) []) (has_one hearer row.0)
          go false = either_way (is_at (user_cmp hearer) row.0) []

      -- each hears what is its own
      pub heard_own_parts : heard_of hearer (each tables test tell) ≡ own hearer
      heard_own_parts =
          heard_each hearer (λ (row : UserId × User). cond (test row.0) (to (Only (row.0 ∷ [])) (tell row.0)) []) tables.users
          ∙ flat_map_same (λ (row : UserId × User). heard_of hearer (cond (test row.0) (to (Only (row.0 ∷ [])) (tell row.0)) [])) heard_own one tables.users
          ∙ flat_map_at user_order heard_own tables.users hearer rise (λ q v off is. ap (λ b. cond b (own q) []) (at_turned user_order hearer q ∙ off))
          ∙ ap (λ b. made_of (λ (v : User). cond b (own hearer) []) (user_at tables hearer)) (at_itself user_order hearer)
          ∙ go (user_at tables hearer) refl
        where
          go : (o : Option User) → user_at tables hearer ≡ o → made_of (λ (v : User). own hearer) o ≡ own hearer
          go None is = sym (ap (λ b. cond b (tell hearer) []) (nobody is))
          go (Some row) is = refl
