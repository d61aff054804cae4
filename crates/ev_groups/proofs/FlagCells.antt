-- What changes of flags do to the row of one key, in the three sections where they write: they pass events that don't close
-- their group, and join those alike.
use Rattle.std.proofs.Common.{◌≡◌, ℕ, Bool, true, false, not, cond, ◌&&◌, ◌||◌, List, [], ◌∷◌, map, fold, Option, None, Some, option_map, sym, ap, refl, ◌∙◌, true≢false, arith}
use Rattle.std.specs.Prelude.{nat_lt, nat_le, ◌==◌}
use Rattle.std.specs.List.{list_any}
use Rattle.std.specs.BTreeMap.{is_at}
use Rattle.std.proofs.Math.Bool.{or-false}
use Rattle.std.proofs.lemmas.Bool.{and_parts, or_parts}
use Rattle.std.proofs.lemmas.Bool.Decides.{nat_tests}
use Rattle.ev_rows.proofs.RowLemmas.{at_same}
use Rattle.ev_base.specs.Orders.{message_cmp, message_order}
use Rattle.ev_base.specs.declared.ids.MessageId.{MessageId}
use Rattle.ev_base.specs.declared.kinds.Flag.{Flag}
use Rattle.ev_base.specs.declared.kinds.Flag.TheVariants.{Read, Starred, Collapsed}
use Rattle.ev_base.specs.declared.place.Place.{Place}
use Rattle.ev_base.specs.declared.place.Place.TheVariants as place
use Rattle.ev_types.specs.declared.rows.MessageFlags.{MessageFlags}
use Rattle.ev_types.specs.declared.rows.ShownMessage.{ShownMessage}
use Rattle.ev_types.specs.declared.event.FullMessage.{FullMessage}
use Rattle.ev_types.specs.declared.event.Event.{Event}
use Rattle.ev_types.specs.declared.event.Event.TheVariants.{MessageNew, MessagesRestored, MessageMoved, MessageEdited, Flags, MessageGone}
use Rattle.ev_types.specs.declared.event.FlagChange.{FlagChange}
use Rattle.ev_types.specs.Writes.{Write, put, patch, drop_row, Rules, cell_after_write, cell_after}
use Rattle.ev_types.specs.EventWrites.{MessageField, to_place, to_content, to_flag, flags_with, message_with, message_rules, message_writes, starred_rules, starred_writes, starred_by_flag, unread_rules, unread_writes, unread_by_flag}
use Rattle.ev_types.proofs.FieldsSettle.{messages_settle}
use Rattle.ev_groups.specs.Groups.{same_flag, is_grouped, are_alike, closes, with_id, with_member}
use Rattle.ev_groups.proofs.Alike.{alike_parts, same_flag_is, same_flag_itself}
use Rattle.ev_groups.proofs.GroupFolds.{GroupsPass, alike_is_grouped}

-- 1. ids

-- the key is among these ids
abbrev has : MessageId → List MessageId → Bool
has q ids = list_any (is_at (message_cmp q)) ids

module _ (q : MessageId) where
  has-with_id : (ids : List MessageId) (new : MessageId) → has q (with_id ids new) ≡ (is_at (message_cmp q) new || has q ids)
  has-with_id [] new = refl
  has-with_id (id ∷ ids) new = go (nat_lt new.0 id.0) (new.0 == id.0) refl (has-with_id ids new)
    where
      once : (a b : Bool) → (a || b) ≡ (a || (a || b))
      once true b = refl
      once false b = refl

      turned : (a b c : Bool) → (a || (b || c)) ≡ (b || (a || c))
      turned true true c = refl
      turned true false c = refl
      turned false true c = refl
      turned false false c = refl

      one_id : new.0 ≡ id.0 → new ≡ id
      one_id same = ap (λ (n : ℕ). record { 0 = n }) same

      go : (less equal : Bool) → (new.0 == id.0) ≡ equal → has q (with_id ids new) ≡ (is_at (message_cmp q) new || has q ids)
          → has q (cond less (new ∷ id ∷ ids) (cond equal (id ∷ ids) (id ∷ with_id ids new))) ≡ (is_at (message_cmp q) new || (is_at (message_cmp q) id || has q ids))
      go true equal is further = refl
      go false true is further =
          let same : new.0 ≡ id.0 = grind (arith, nat_tests) in
          once (is_at (message_cmp q) id) (has q ids) ∙ ap (λ (k : MessageId). (is_at (message_cmp q) k || (is_at (message_cmp q) id || has q ids))) (sym (one_id same))
      go false false is further = ap (λ (b : Bool). (is_at (message_cmp q) id || b)) further ∙ turned (is_at (message_cmp q) id) (is_at (message_cmp q) new) (has q ids)

  -- a group has the ids of both
  has-with_ids : (new ids : List MessageId) → has q (fold with_id ids new) ≡ (has q ids || has q new)
  has-with_ids [] ids = sym (or-false (has q ids))
  has-with_ids (id ∷ new) ids = has-with_ids new (with_id ids id) ∙ ap (λ (b : Bool). (b || has q new)) (has-with_id ids id) ∙ go (is_at (message_cmp q) id) (has q ids) (has q new)
    where
      go : (a b c : Bool) → ((a || b) || c) ≡ (b || (a || c))
      go true true c = refl
      go true false c = refl
      go false true c = refl
      go false false c = refl

-- an id above all others is none of them
above_none : (new : MessageId) (ids : List MessageId) → list_any (λ (id : MessageId). nat_le new.0 id.0) ids ≡ false → has new ids ≡ false
above_none new [] above = refl
above_none new (id ∷ ids) above =
    let parts = or_parts (nat_le new.0 id.0) (list_any (λ (other : MessageId). nat_le new.0 other.0) ids) above in
    go (is_at (message_cmp new) id) refl parts.0 (above_none new ids parts.1)
  where
    go : (at : Bool) → is_at (message_cmp new) id ≡ at → nat_le new.0 id.0 ≡ false → has new ids ≡ false → (at || has new ids) ≡ false
    go true is above_it further =
        let same : new.0 ≡ id.0 = ap (λ (k : MessageId). k.0) (at_same message_order new id is) in
        absurd (grind (arith, nat_tests))
    go false is above_it further = further

-- 2. effects: a change that is made where a test holds

-- two that agree where both are made may be swapped
swapped : {S : Type 0} (f g : S → S) (a b : Bool) (s t : S → S) → ((c : S) → f c ≡ cond a (s c) c) → ((c : S) → g c ≡ cond b (t c) c)
    → (a ≡ true → b ≡ true → (c : S) → t (s c) ≡ s (t c)) → (c : S) → g (f c) ≡ f (g c)
swapped f g true true s t f_is g_is agree c = g_is (f c) ∙ ap t (f_is c) ∙ agree refl refl c ∙ ap s (sym (g_is c)) ∙ sym (f_is (g c))
swapped f g true false s t f_is g_is agree c = g_is (f c) ∙ ap f (sym (g_is c))
swapped f g false b s t f_is g_is agree c = ap g (f_is c) ∙ sym (f_is (g c))

-- one that is made twice is made once
twice : {S : Type 0} (s : S → S) → ((c : S) → s (s c) ≡ s c) → (a b : Bool) (c : S) → cond b (s (cond a (s c) c)) (cond a (s c) c) ≡ cond (a || b) (s c) c
twice s again true true c = again c
twice s again true false c = refl
twice s again false b c = refl

-- and so it is with a further test
twice_where : {S : Type 0} (s : S → S) → ((c : S) → s (s c) ≡ s c) → (here a b : Bool) (c : S)
    → cond (here && b) (s (cond (here && a) (s c) c)) (cond (here && a) (s c) c) ≡ cond (here && (a || b)) (s c) c
twice_where s again true a b c = twice s again a b c
twice_where s again false a b c = refl

module _ {V F P : Type 0} (rules : Rules MessageId V F P) (q : MessageId) where
  -- a write to each of some ids is made once, where the key is among them
  of_ids : (make : MessageId → Write MessageId V F P) (s : Option V → Option V) → ((c : Option V) → s (s c) ≡ s c)
      → ((id : MessageId) (c : Option V) → cell_after_write rules q c (make id) ≡ cond (is_at (message_cmp q) id) (s c) c)
      → (ids : List MessageId) (c : Option V) → cell_after rules q c (map make ids) ≡ cond (has q ids) (s c) c
  of_ids make s again made [] c = refl
  of_ids make s again made (id ∷ ids) c =
      ap (λ d. cell_after rules q d (map make ids)) (made id c)
      ∙ of_ids make s again made ids (cond (is_at (message_cmp q) id) (s c) c)
      ∙ twice s again (is_at (message_cmp q) id) (has q ids) c

-- where flags are changed in a section, and what that makes of the row of a key
record FlagEffect {V : Type 0} (q : MessageId) (act : Option V → Event → Option V) : Type 0 where
  here : Flag → Bool
  made : Flag → Bool → Option V → Option V
  again : (f : Flag) (add : Bool) (c : Option V) → made f add (made f add c) ≡ made f add c
  acts : (change : FlagChange) (c : Option V) → is_grouped change.flag change.add ≡ true → act c (Flags change) ≡ cond (here change.flag && has q change.messages) (made change.flag change.add c) c

module _ {V : Type 0} (q : MessageId) (act : Option V → Event → Option V) (effect : FlagEffect q act) where
  joined : (group change : FlagChange) (c : Option V) → are_alike group change ≡ true → act (act c (Flags group)) (Flags change) ≡ act c (Flags (with_member group change))
  joined group change c alike =
      let parts = alike_parts group change alike in
      let here = effect.here change.flag in
      let s : Option V → Option V = effect.made change.flag change.add in
      let first : act c (Flags group) ≡ cond (here && has q group.messages) (s c) c
      = effect.acts group c (alike_is_grouped group change alike) ∙ (λ i. cond (effect.here (parts.flag i) && has q group.messages) (effect.made (parts.flag i) (parts.add i) c) c) in
      ap (λ d. act d (Flags change)) first
      ∙ effect.acts change (cond (here && has q group.messages) (s c) c) parts.grouped
      ∙ twice_where s (effect.again change.flag change.add) here (has q group.messages) (has q change.messages) c
      ∙ ap (λ (b : Bool). cond (here && b) (s c) c) (sym (has-with_ids q change.messages group.messages))
      ∙ sym (effect.acts (with_member group change) c parts.grouped)

  -- a group passes an event that is made where a test holds, and agrees with it where both are made
  past : (group : FlagChange) (event : Event) (c : Option V) (b : Bool) (t : Option V → Option V) → is_grouped group.flag group.add ≡ true
      → ((d : Option V) → act d event ≡ cond b (t d) d)
      → (effect.here group.flag ≡ true → has q group.messages ≡ true → b ≡ true → (d : Option V) → t (effect.made group.flag group.add d) ≡ effect.made group.flag group.add (t d))
      → act (act c (Flags group)) event ≡ act (act c event) (Flags group)
  past group event c b t is made agree =
      swapped (λ d. act d (Flags group)) (λ d. act d event) (effect.here group.flag && has q group.messages) b (effect.made group.flag group.add) t
      (λ d. effect.acts group d is) made
      (λ a_is b_is d. let parts = and_parts (effect.here group.flag) (has q group.messages) a_is in agree parts.0 parts.1 b_is d) c

  -- a new message that is above those of a group is none of them
  not_new : {X : Type 0} (group : FlagChange) (full : FullMessage) → closes group (MessageNew full) ≡ false → has q group.messages ≡ true → is_at (message_cmp q) full.message ≡ true → X
  not_new group full never among at =
      let same = at_same message_order q full.message at in
      absurd (true≢false (sym among ∙ ap (λ (k : MessageId). has k group.messages) same ∙ above_none full.message group.messages never))

-- 3. the messages
module _ (q : MessageId) where
  abbrev message_step : Option ShownMessage → Event → Option ShownMessage
  message_step c event = cell_after message_rules q c (message_writes event)

  field_again : (field : MessageField) (c : Option ShownMessage) → option_map (message_with field) (option_map (message_with field) c) ≡ option_map (message_with field) c
  field_again field None = refl
  field_again field (Some row) = ap Some (messages_settle.again row field)

  patched : (field : MessageField) (ids : List MessageId) (c : Option ShownMessage) → cell_after message_rules q c (map (λ id. patch id field) ids) ≡ cond (has q ids) (option_map (message_with field) c) c
  patched field ids c = of_ids message_rules q (λ id. patch id field) (option_map (message_with field)) (field_again field) (λ id d. refl) ids c

  fields_swap : (a b : MessageField) → ((row : ShownMessage) → message_with b (message_with a row) ≡ message_with a (message_with b row))
      → (c : Option ShownMessage) → option_map (message_with b) (option_map (message_with a) c) ≡ option_map (message_with a) (option_map (message_with b) c)
  fields_swap a b swap None = refl
  fields_swap a b swap (Some row) = ap Some (swap row)

  flags_swap : (f g : Flag) (add value : Bool) (flags : MessageFlags) → same_flag f g ≡ false → flags_with g value (flags_with f add flags) ≡ flags_with f add (flags_with g value flags)
  flags_swap Read Read add value flags other = absurd (true≢false other)
  flags_swap Read Starred add value flags other = refl
  flags_swap Read Collapsed add value flags other = refl
  flags_swap Starred Read add value flags other = refl
  flags_swap Starred Starred add value flags other = absurd (true≢false other)
  flags_swap Starred Collapsed add value flags other = refl
  flags_swap Collapsed Read add value flags other = refl
  flags_swap Collapsed Starred add value flags other = refl
  flags_swap Collapsed Collapsed add value flags other = absurd (true≢false other)

  message_effect : FlagEffect q message_step
  message_effect = record {
    here = λ f. true;
    made = λ f add. option_map (message_with (to_flag f add));
    again = λ f add. field_again (to_flag f add);
    acts = λ change c is. patched (to_flag change.flag change.add) change.messages c;
  }

  message_passes : (group : FlagChange) (event : Event) (c : Option ShownMessage) → is_grouped group.flag group.add ≡ true → closes group event ≡ false
      → message_step (message_step c (Flags group)) event ≡ message_step (message_step c event) (Flags group)
  unfolding message_effect
  message_passes group (MessageNew full) c is never =
      past q message_step message_effect group (MessageNew full) c (is_at (message_cmp q) full.message) (λ d. Some full.row) is (λ d. refl)
      (λ here among at d. not_new q message_step message_effect group full never among at)
  message_passes group (MessagesRestored messages) c is never = absurd (true≢false never)
  message_passes group (MessageMoved ids stream topic) c is never =
      let field = to_place (place.Stream stream topic) in
      past q message_step message_effect group (MessageMoved ids stream topic) c (has q ids) (option_map (message_with field)) is (patched field ids)
      (λ here among moved d. fields_swap (to_flag group.flag group.add) field (λ row. refl) d)
  message_passes group (MessageEdited message content) c is never =
      past q message_step message_effect group (MessageEdited message content) c (is_at (message_cmp q) message) (option_map (message_with (to_content content))) is (λ d. refl)
      (λ here among at d. fields_swap (to_flag group.flag group.add) (to_content content) (λ row. refl) d)
  message_passes group (Flags other) c is never =
      let field = to_flag other.flag other.add in
      past q message_step message_effect group (Flags other) c (has q other.messages) (option_map (message_with field)) is (patched field other.messages)
      (λ here among at d. fields_swap (to_flag group.flag group.add) field
      (λ row. ap (λ (flags : MessageFlags). record row { flags = flags }) (flags_swap group.flag other.flag group.add other.add row.flags never)) d)
  message_passes group (MessageGone messages) c is never = absurd (true≢false never)
  message_passes group event c is never = refl

  pub message_groups : GroupsPass message_step
  message_groups = record { passes = λ group event c is never. message_passes group event c is never; joins = λ group change c alike. joined q message_step message_effect group change c alike }

-- 4. the starred and the unread messages, where one flag alone writes

one_flag : {X : Type 0} (f g h : Flag) → same_flag f g ≡ true → same_flag f h ≡ true → same_flag g h ≡ false → X
one_flag f g h first second other =
    absurd (true≢false (sym (same_flag_itself f) ∙ (λ i. same_flag (same_flag_is f g first i) (same_flag_is f h second i)) ∙ other))

module _ (q : MessageId) where
  abbrev star_step : Option (Unit {0}) → Event → Option (Unit {0})
  star_step c event = cell_after starred_rules q c (starred_writes event)

  star_acts : (f : Flag) (add : Bool) (ids : List MessageId) (c : Option (Unit {0})) → cell_after starred_rules q c (starred_by_flag f add ids) ≡ cond (same_flag Starred f && has q ids) (cond add (Some tt) None) c
  star_acts Read add ids c = refl
  star_acts Starred add ids c = of_ids starred_rules q (λ id. cond add (put id tt) (drop_row id)) (λ d. cond add (Some tt) None) (λ d. refl) (go add) ids c
    where
      go : (b : Bool) (id : MessageId) (d : Option (Unit {0})) → cell_after_write starred_rules q d (cond b (put id tt) (drop_row id)) ≡ cond (is_at (message_cmp q) id) (cond b (Some tt) None) d
      go true id d = refl
      go false id d = refl
  star_acts Collapsed add ids c = refl

  star_where : (f : Flag) (add : Bool) (ids : List MessageId) (c : Option (Unit {0})) → cell_after starred_rules q c (starred_by_flag f add ids) ≡ cond (same_flag Starred f) (cell_after starred_rules q c (starred_by_flag f add ids)) c
  star_where Read add ids c = refl
  star_where Starred add ids c = refl
  star_where Collapsed add ids c = refl

  star_new : (b : Bool) (id : MessageId) (c : Option (Unit {0})) → cell_after starred_rules q c (cond b (put id tt ∷ []) []) ≡ cond (b && is_at (message_cmp q) id) (Some tt) c
  star_new true id c = refl
  star_new false id c = refl

  star_effect : FlagEffect q star_step
  star_effect = record {
    here = same_flag Starred;
    made = λ f add c. cond add (Some tt) None;
    again = λ f add c. refl;
    acts = λ change c is. star_acts change.flag change.add change.messages c;
  }

  star_passes : (group : FlagChange) (event : Event) (c : Option (Unit {0})) → is_grouped group.flag group.add ≡ true → closes group event ≡ false
      → star_step (star_step c (Flags group)) event ≡ star_step (star_step c event) (Flags group)
  unfolding star_effect
  star_passes group (MessageNew full) c is never =
      let starred = full.row.flags.starred in
      past q star_step star_effect group (MessageNew full) c (starred && is_at (message_cmp q) full.message) (λ d. Some tt) is (star_new starred full.message)
      (λ here among at d. not_new q star_step star_effect group full never among (and_parts starred (is_at (message_cmp q) full.message) at).1)
  star_passes group (MessagesRestored messages) c is never = absurd (true≢false never)
  star_passes group (Flags other) c is never =
      past q star_step star_effect group (Flags other) c (same_flag Starred other.flag) (λ d. star_step d (Flags other)) is (star_where other.flag other.add other.messages)
      (λ here among at d. one_flag Starred group.flag other.flag here at never)
  star_passes group (MessageGone messages) c is never = absurd (true≢false never)
  star_passes group event c is never = refl

  pub star_groups : GroupsPass star_step
  star_groups = record { passes = λ group event c is never. star_passes group event c is never; joins = λ group change c alike. joined q star_step star_effect group change c alike }

module _ (q : MessageId) where
  abbrev unread_step : Option Place → Event → Option Place
  unread_step c event = cell_after unread_rules q c (unread_writes event)

  unread_acts : (f : Flag) (add : Bool) (ids : List MessageId) (details : List (MessageId × Place)) (c : Option Place) → is_grouped f add ≡ true
      → cell_after unread_rules q c (unread_by_flag f add ids details) ≡ cond (same_flag Read f && has q ids) None c
  unread_acts Read true ids details c is = of_ids unread_rules q drop_row (λ d. None) (λ d. refl) (λ id d. refl) ids c
  unread_acts Read false ids details c is = absurd (true≢false (sym is))
  unread_acts Starred add ids details c is = refl
  unread_acts Collapsed add ids details c is = refl

  unread_where : (f : Flag) (add : Bool) (ids : List MessageId) (details : List (MessageId × Place)) (c : Option Place)
      → cell_after unread_rules q c (unread_by_flag f add ids details) ≡ cond (same_flag Read f) (cell_after unread_rules q c (unread_by_flag f add ids details)) c
  unread_where Read add ids details c = refl
  unread_where Starred add ids details c = refl
  unread_where Collapsed add ids details c = refl

  unread_new : (b : Bool) (id : MessageId) (p : Place) (c : Option Place) → cell_after unread_rules q c (cond b [] (put id p ∷ [])) ≡ cond (not b && is_at (message_cmp q) id) (Some p) c
  unread_new true id p c = refl
  unread_new false id p c = refl

  unread_moved : (p : Place) (ids : List MessageId) (c : Option Place) → cell_after unread_rules q c (map (λ id. patch id p) ids) ≡ cond (has q ids) (option_map (λ old. p) c) c
  unread_moved p ids c = of_ids unread_rules q (λ id. patch id p) (option_map (λ old. p)) again (λ id d. refl) ids c
    where
      again : (d : Option Place) → option_map (λ (old : Place). p) (option_map (λ (old : Place). p) d) ≡ option_map (λ (old : Place). p) d
      again None = refl
      again (Some old) = refl

  unread_effect : FlagEffect q unread_step
  unread_effect = record {
    here = same_flag Read;
    made = λ f add c. None;
    again = λ f add c. refl;
    acts = λ change c is. unread_acts change.flag change.add change.messages change.details c is;
  }

  unread_passes : (group : FlagChange) (event : Event) (c : Option Place) → is_grouped group.flag group.add ≡ true → closes group event ≡ false
      → unread_step (unread_step c (Flags group)) event ≡ unread_step (unread_step c event) (Flags group)
  unfolding unread_effect
  unread_passes group (MessageNew full) c is never =
      let read = full.row.flags.read in
      past q unread_step unread_effect group (MessageNew full) c (not read && is_at (message_cmp q) full.message) (λ d. Some full.row.place) is (unread_new read full.message full.row.place)
      (λ here among at d. not_new q unread_step unread_effect group full never among (and_parts (not read) (is_at (message_cmp q) full.message) at).1)
  unread_passes group (MessagesRestored messages) c is never = absurd (true≢false never)
  unread_passes group (MessageMoved ids stream topic) c is never =
      let p = place.Stream stream topic in
      past q unread_step unread_effect group (MessageMoved ids stream topic) c (has q ids) (option_map (λ old. p)) is (unread_moved p ids) (λ here among at d. refl)
  unread_passes group (Flags other) c is never =
      past q unread_step unread_effect group (Flags other) c (same_flag Read other.flag) (λ d. unread_step d (Flags other)) is (unread_where other.flag other.add other.messages other.details)
      (λ here among at d. one_flag Read group.flag other.flag here at never)
  unread_passes group (MessageGone messages) c is never = absurd (true≢false never)
  unread_passes group event c is never = refl

  pub unread_groups : GroupsPass unread_step
  unread_groups = record { passes = λ group event c is never. unread_passes group event c is never; joins = λ group change c alike. joined q unread_step unread_effect group change c alike }
