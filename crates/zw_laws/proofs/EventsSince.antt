-- What the commits changed in a user's view, from one commit to another.
use Rattle.std.proofs.Common.{◌≡◌, ℕ, zero, suc, ◌<◌, ◌≤◌, List, [], ◌∷◌, ◌++◌, length, append-nil, append_assoc, refl, ap, ap₂, sym, subst, ◌∙◌, ◌⊎◌, inl, inr, arith}
use Rattle.std.proofs.lemmas.Bool.{cases_lt, lt-ltb, le-ltb}
use Rattle.ev_base.specs.declared.ids.UserId.{UserId}
use Rattle.ev_types.specs.declared.event.Event.{Event}
use Rattle.ev_types.specs.Changes.{changes_between}
use Rattle.zw_traces.specs.RealmTrace.{Accepted, prefix_of, view_in, view_after}
use Rattle.zw_traces.specs.RealmFeeds.{events_since}
use Rattle.zw_traces.proofs.PrefixCommits.{length-prefix_of, first_of_more}

-- what the commits from one number up to another changed in a user's view
abbrev pub told : UserId → List Accepted → ℕ → ℕ → List Event
told user all from until = events_since user from (prefix_of until all)

-- the commits are no more than those that are left out
events_since_none : (user : UserId) (n : ℕ) (list : List Accepted) → length list ≤ n → events_since user n list ≡ []
events_since_none user n [] within = refl
events_since_none user n (accepted ∷ before) within =
    let known = lt-ltb (length before) n within in
    rw known

-- the latest commit stands after those that are left out
events_since_more : (user : UserId) (n : ℕ) (accepted : Accepted) (before : List Accepted) → n ≤ length before
    → events_since user n (accepted ∷ before) ≡ events_since user n before ++ changes_between (view_in user before) (view_in user (accepted ∷ before))
events_since_more user n accepted before within =
    let new = le-ltb (length before) n within in
    rw new

module _ (user : UserId) (all : List Accepted) where
  -- nothing changes from a commit to one before it
  pub since_none : (from until : ℕ) → until ≤ from → until ≤ length all → told user all from until ≡ []
  since_none from until none within =
      events_since_none user from (prefix_of until all) (omega (arith, length-prefix_of until all within))

  -- one commit more
  pub since_more : (from until : ℕ) → from ≤ until → until < length all
      → told user all from (suc until) ≡ told user all from until ++ changes_between (view_after user until all) (view_after user (suc until) all)
  since_more from until ordered within =
      let next = first_of_more until all within in
      let P : List Accepted → Type 0 = λ list. events_since user from list ≡ told user all from until ++ changes_between (view_after user until all) (view_in user list) in
      subst P (sym next.1) (events_since_more user from next.0 (prefix_of until all) (omega (arith, length-prefix_of until all (omega arith))))

  -- what the commits changed may be told in two parts
  pub since_split : (from middle until : ℕ) → from ≤ middle → middle ≤ until → until ≤ length all
      → told user all from until ≡ told user all from middle ++ told user all middle until
  since_split from middle zero first second within =
      since_none from 0 (omega arith) (omega arith) ∙ sym (ap₂ ◌++◌ (since_none from middle (omega arith) (omega arith)) (since_none middle 0 (omega arith) (omega arith)))
  since_split from middle (suc until) first second within = go (cases_lt until middle) (since_split from middle until first)
    where
      changed : List Event
      changed = changes_between (view_after user until all) (view_after user (suc until) all)

      go : (until < middle) ⊎ (middle ≤ until)
          → (middle ≤ until → until ≤ length all → told user all from until ≡ told user all from middle ++ told user all middle until)
          → told user all from (suc until) ≡ told user all from middle ++ told user all middle (suc until)
      go (inl at_end) inner =
          let same : suc until ≡ middle = omega arith in
          ap (λ n. told user all from n) same
          ∙ sym (ap (λ rest. told user all from middle ++ rest) (since_none middle (suc until) (omega arith) within) ∙ append-nil (told user all from middle))
      go (inr later) inner =
          since_more from until (omega arith) within
          ∙ ap (λ events. events ++ changed) (inner later (omega arith))
          ∙ append_assoc (told user all from middle) (told user all middle until) changed
          ∙ ap (λ rest. told user all from middle ++ rest) (sym (since_more middle until later within))
