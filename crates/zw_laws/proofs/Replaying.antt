-- A view with the events of later commits applied is the later view, whatever of these events it holds already.
use Rattle.std.proofs.Common.{◌≡◌, ℕ, zero, suc, ◌<◌, ◌≤◌, List, length, sym, ap, subst, ◌∙◌, ◌⊎◌, inl, inr, arith}
use Rattle.std.proofs.lemmas.Bool.{cases_lt}
use Rattle.ev_base.specs.declared.ids.UserId.{UserId}
use Rattle.ev_types.specs.Changes.{changes_between}
use Rattle.ev_types.specs.Comparable.{Comparable}
use Rattle.zw_traces.specs.RealmTrace.{Accepted, prefix_of, view_in, view_after}
use Rattle.zw_traces.proofs.PrefixCommits.{first_of_more}
use Rattle.zw_laws.proofs.EventsSince.{told, since_none, since_more, since_split}
use Rattle.ev_laws.proofs.ViewLeads.{view_leads}
use Rattle.zw_laws.proofs.CommitViews.{comparable_commit, view_sorted}
use Rattle.ev_types.specs.Applying.{applied}
use Rattle.ev_types.proofs.SectionsSettle.{applied-again, applied-append}

module _ (user : UserId) (all : List Accepted) where
  -- one commit leads from a view to the next
  next_view : (n : ℕ) → n < length all
      → applied (changes_between (view_after user n all) (view_after user (suc n) all)) (view_after user n all) ≡ view_after user (suc n) all
  next_view n within =
      let next = first_of_more n all within in
      let P : List Accepted → Type 0 = λ list. Comparable (view_after user n all) (view_in user list) in
      view_leads (view_after user n all) (view_after user (suc n) all) (subst P (sym next.1) (comparable_commit user next.0 (prefix_of n all)))

  -- the commits since a view lead to the later one
  pub later_view : (from until : ℕ) → from ≤ until → until ≤ length all
      → applied (told user all from until) (view_after user from all) ≡ view_after user until all
  later_view from zero ordered within =
      let start : from ≡ 0 = omega arith in
      ap (λ events. applied events (view_after user from all)) (since_none user all from 0 (omega arith) within) ∙ ap (λ n. view_after user n all) start
  later_view from (suc until) ordered within = go (cases_lt until from) (later_view from until)
    where
      go : (until < from) ⊎ (from ≤ until)
          → (from ≤ until → until ≤ length all → applied (told user all from until) (view_after user from all) ≡ view_after user until all)
          → applied (told user all from (suc until)) (view_after user from all) ≡ view_after user (suc until) all
      go (inl at_end) inner =
          let start : from ≡ suc until = omega arith in
          ap (λ events. applied events (view_after user from all)) (since_none user all from (suc until) (omega arith) within) ∙ ap (λ n. view_after user n all) start
      go (inr later) inner =
          ap (λ events. applied events (view_after user from all)) (since_more user all from until later within)
          ∙ applied-append (told user all from until) (changes_between (view_after user until all) (view_after user (suc until) all)) (view_after user from all)
          ∙ ap (applied (changes_between (view_after user until all) (view_after user (suc until) all))) (inner later (omega arith))
          ∙ next_view until within

  -- events from before a view on lead to the later one too
  pub overlapping_view : (opened fetched reached : ℕ) → opened ≤ fetched → fetched ≤ reached → reached ≤ length all
      → applied (told user all opened reached) (view_after user fetched all) ≡ view_after user reached all
  overlapping_view opened fetched reached first second within =
      let known = told user all opened fetched in
      let new = told user all fetched reached in
      let fetch = later_view opened fetched first (omega arith) in
      ap (λ events. applied events (view_after user fetched all)) (since_split user all opened fetched reached first second within)
      ∙ applied-append known new (view_after user fetched all)
      ∙ ap (applied new)
      (ap (applied known) (sym fetch) ∙ applied-again known (view_after user opened all) (view_sorted user (prefix_of opened all)) ∙ fetch)
      ∙ later_view fetched reached second within
