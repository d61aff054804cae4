-- What users hear, part by part, and what a tick leaves them.
use Rattle.std.proofs.Common.{◌≡◌, ℕ, zero, suc, slice_get, ◌+◌, ◌<◌, Bool, true, false, cond, ◌||◌, get_or, length, drop, drop-cons, List, [], ◌∷◌, ◌++◌, Option, None, Some, MatchOption, option_map, add-one, refl, ap, sym, ◌∙◌, inl, inr, ◌⊎◌, flat_map}
use Rattle.std.proofs.lemmas.List.Concat.{flat_map-cons}
use Rattle.std.proofs.lemmas.List.Elements.{filter_map-append}
use Rattle.std.proofs.lemmas.Option.{none-some}
use Rattle.std.proofs.lemmas.Iterator.Adapters.{option_map_id}
use Rattle.std.specs.Option.{option_map_or}
use Rattle.std.specs.Map.{keys_of}
use Rattle.ev_rows.specs.Rows.{only_if}
use Rattle.ev_base.specs.declared.ids.UserId.{UserId}
use Rattle.ev_base.specs.declared.ids.QueueId.{QueueId}
use Rattle.ev_types.specs.declared.event.Event.{Event}
use Rattle.ev_types.specs.declared.notice.Audience.TheVariants.{Only}
use Rattle.ev_types.specs.declared.notice.Part.{Part}
use Rattle.ev_types.specs.declared.notice.Notice.{Notice}
use Rattle.ev_types.specs.Audiences.{events_for, has_user}
use Rattle.zw_traces.specs.Account.{same_user}
use Rattle.zw_traces.proofs.Steps.{same_user_is, same_user_itself}
use Rattle.q_shard.specs.Hearing.{HeardParts, has_queue, heard_events, with_part, with_part_for}

-- nothing was heard yet
abbrev pub nothing : HeardParts
nothing = record { events = []; last = None }

-- what one user heard more, where the others are left
pub told_one : (user other : UserId) (place : ℕ) (event : Event) (old : UserId → Option HeardParts) (new : Option HeardParts) (heard : HeardParts)
    → old user ≡ Some heard → new ≡ cond (same_user user other) (Some (with_part place event heard)) (old other)
    → new ≡ option_map (with_part_for other (Only (user ∷ [])) place event) (old other)
told_one user other place event old new heard found is = is ∙ go (same_user user other) refl
  where
    go : (b : Bool) → same_user user other ≡ b
        → cond b (Some (with_part place event heard)) (old other) ≡ option_map (λ heard. cond (b || false) (with_part place event heard) heard) (old other)
    go true same = ap (option_map (with_part place event)) (sym found ∙ ap old (same_user_is user other same))
    go false same = sym (option_map_id (old other))

-- one queue more whose user listens
pub listened : (user : UserId) (queues : List QueueId) (at : ℕ) (d : QueueId) (new : HeardParts) (found found' : Option HeardParts) → at < length queues → new ≡ nothing
    → found' ≡ cond (same_user (get_or queues at d).user user) (Some new) found
    → (found ≡ Some nothing) ⊎ (has_queue (drop at queues) user ≡ true) → (found' ≡ Some nothing) ⊎ (has_queue (drop (at + 1) queues) user ≡ true)
listened user queues at d new found found' within starts is before =
    go (same_user queue.user user) refl before
  where
    queue : QueueId
    queue = get_or queues at d

    rest : has_queue (drop at queues) user ≡ (same_user queue.user user || has_queue (drop (at + 1) queues) user)
    rest = ap (λ list. has_queue list user) (drop-cons queues at d within) ∙ ap (λ n. same_user queue.user user || has_queue (drop n queues) user) (sym (add-one at))

    go : (b : Bool) → same_user queue.user user ≡ b → (found ≡ Some nothing) ⊎ (has_queue (drop at queues) user ≡ true)
        → (found' ≡ Some nothing) ⊎ (has_queue (drop (at + 1) queues) user ≡ true)
    go true same before = inl (is ∙ ap (λ (b : Bool). cond b (Some new) found) same ∙ ap Some starts)
    go false same (inl heard) = inl (is ∙ ap (λ (b : Bool). cond b (Some new) found) same ∙ heard)
    go false same (inr later) = inr (sym (rest ∙ ap (λ (b : Bool). b || has_queue (drop (at + 1) queues) user) same) ∙ later)

-- the place stands before this one
abbrev pub IsBefore : Option ℕ → ℕ → Type 0
IsBefore last place = MatchOption last (Unit {0}) (λ earlier. earlier < place)

-- what was found of a user is what he heard of the parts before a place, of which these are left
abbrev pub HearsOn : UserId → ℕ → List Part → Option HeardParts → List Event → Type 0
HearsOn user place rest found all = (heard : HeardParts) × (found ≡ Some heard) × IsBefore heard.last place × (heard.events ++ heard_events user rest ≡ all)

-- the parts of the notices in one row
pub heard_row : (user : UserId) (notices : List Notice) → heard_events user (flat_map (λ (notice : Notice). notice.parts) notices) ≡ flat_map (events_for user) notices
heard_row user [] = refl
heard_row user (notice ∷ notices) =
    ap (heard_events user) (flat_map-cons (λ (notice : Notice). notice.parts) notice notices)
    ∙ filter_map-append (λ part. only_if (has_user user part.audience) (Some part.event)) notice.parts (flat_map (λ (notice : Notice). notice.parts) notices)
    ∙ ap (λ rest. events_for user notice ++ rest) (heard_row user notices)
    ∙ sym (flat_map-cons (events_for user) notice notices)

-- the user of an entry has a queue
pub stands : {X : Type 0} (entries : List (QueueId × X)) (at : ℕ) (k : QueueId) (x : X) → slice_get entries at ≡ Some (k, x) → has_queue (keys_of entries) k.user ≡ true
stands [] at k x found = absurd (none-some (k, x) found)
stands (entry ∷ entries) zero k x found =
    let here : entry.0.user ≡ k.user = ap (λ (o : Option (QueueId × _)). option_map_or (λ e. e.0.user) o k.user) found in
    ap (λ (u : UserId). same_user u k.user || has_queue (keys_of entries) k.user) here
    ∙ ap (λ (b : Bool). b || has_queue (keys_of entries) k.user) (same_user_itself k.user)
stands (entry ∷ entries) (suc at) k x found = go (same_user entry.0.user k.user) (stands entries at k x found)
  where
    go : (b : Bool) → has_queue (keys_of entries) k.user ≡ true → (b || has_queue (keys_of entries) k.user) ≡ true
    go true rest = refl
    go false rest = rest
