-- Lists of notices of successive commits: one more, some of them, and after more commits.
use Rattle.std.proofs.Common.{◌≡◌, ℕ, zero, suc, ◌+◌, ◌≤◌, List, [], ◌∷◌, ◌++◌, length, take, drop, subst, arith}
use Rattle.ev_types.specs.declared.notice.Notice.{Notice}
use Rattle.zw_traces.specs.declared.realm.RealmStep.{RealmStep}
use Rattle.zw_traces.specs.RealmTrace.{Accepted, AreNotices, IsNotice, commands, commits}
use Rattle.zw_traces.proofs.RealmTraces.{IsNotice-stays}

-- more steps leave the notices what they are
pub AreNotices-stays : (step : RealmStep) (trace : List RealmStep) (number : ℕ) (list : List Notice) → number + length list ≤ commits trace + 1
    → AreNotices (commands trace) number list → AreNotices (commands (step ∷ trace)) number list
AreNotices-stays step trace number [] within are = tt
AreNotices-stays step trace number (notice ∷ list) within are =
    (IsNotice-stays step trace number notice (omega arith) are.0, AreNotices-stays step trace (number + 1) list (omega arith) are.1)

module _ (all : List Accepted) where
  -- the notice of the next commit goes on with them
  pub AreNotices-append : (number : ℕ) (list : List Notice) (last : ℕ) (notice : Notice) → last ≡ number + length list
      → AreNotices all number list → IsNotice all last notice → AreNotices all number (list ++ notice ∷ [])
  AreNotices-append number [] last notice next are is =
      let here : last ≡ number = omega arith in
      (subst (λ n. IsNotice all n notice) here is, tt)
  AreNotices-append number (first ∷ list) last notice next are is =
      (are.0, AreNotices-append (number + 1) list last notice (omega arith) are.1 is)

  -- the later ones of them
  pub AreNotices-drop : (number count from : ℕ) (list : List Notice) → from ≡ number + count
      → AreNotices all number list → AreNotices all from (drop count list)
  AreNotices-drop number zero from list is are =
      let here : number ≡ from = omega arith in
      subst (λ n. AreNotices all n list) here are
  AreNotices-drop number (suc count) from [] is are = tt
  AreNotices-drop number (suc count) from (notice ∷ list) is are = AreNotices-drop (number + 1) count from list (omega arith) are.1

  -- and the first ones
  pub AreNotices-take : (number count : ℕ) (list : List Notice) → AreNotices all number list → AreNotices all number (take count list)
  AreNotices-take number zero list are = tt
  AreNotices-take number (suc count) [] are = tt
  AreNotices-take number (suc count) (notice ∷ list) are = (are.0, AreNotices-take (number + 1) count list are.1)
