-- A good script is run to its end, or memory runs out.
use Rattle.std.proofs.Common.{◌≡◌, ℕ, ◌<◌, ◌⊎◌, Option, None, Some, List, [], ◌∷◌, ◌++◌, length, length-append, append_assoc, append-nil, refl, sym, ap, subst, ◌∙◌, inl, inr, arith}
use Rattle.std.specs.List.{list_any}
use Rattle.std.proofs.lemmas.Bool.{false≢true, or_parts}
use Rattle.zs_script.specs.declared.step.Step.{Step}
use Rattle.zs_script.specs.Grammar.{IsNoStep, IsPassedOver, Spells}
use Rattle.zs_script.specs.Scripts.{AreSpelled, setting_of}
use Rattle.zs_script.proofs.StepLists.{one_list}
use Rattle.zm_text.specs.Playing.{steps_in}
use Rattle.zm_laws.proofs.Courses.{are_spelled}
use Rattle.zm_run.specs.declared.status.Status.{Status}
use Rattle.zm_run.specs.declared.status.Status.TheVariants as status
use Rattle.zm_run.specs.Inputs.{AreLines, BeginsNoStep, BeginsTooLong, HasNoFeed, IsLine, SplitsWhole, bytes_of}
use Rattle.zm_run.specs.RunEnds.{Replays}
use Rattle.zm_run.specs.GoodScripts.{IsComplete, IsGoodScript}
use Rattle.zm_run.specs.Running.{IsCaused}
use Rattle.zm_run.proofs.Feeds.{is_feed}

-- after these lines a good line is passed over, or spells a step
record IsGoodLine (done : List (List ℕ)) (line : List ℕ) : Type 0 where
  is_line : IsLine line
  good : IsPassedOver line ⊎ ((before : List Step) × AreSpelled done before × (step : Step) × Spells (setting_of before) line step)

-- after these lines, the latest first, come good ones, the first in front, and a last one
abbrev AreGood : List (List ℕ) → List (List ℕ) → List ℕ → Type 0
AreGood done [] last = IsGoodLine done last
AreGood done (line ∷ lines) last = IsGoodLine done line × AreGood (line ∷ done) lines last

abbrev Each : (List ℕ → Type 0) → List (List ℕ) → Type 0
Each P [] = Unit {0}
Each P (line ∷ lines) = P line × Each P lines

-- lines with the first in front, and their bytes
abbrev ordered : List (List ℕ) → List (List ℕ) → List (List ℕ)
ordered [] later = later
ordered (line ∷ before) later = ordered before (line ∷ later)

abbrev bytes_from : List (List ℕ) → List ℕ
bytes_from [] = []
bytes_from (line ∷ later) = line ++ 10 ∷ bytes_from later

ordered_bytes : (lines later : List (List ℕ)) (rest : List ℕ)
    → bytes_of lines ++ (bytes_from later ++ rest) ≡ bytes_from (ordered lines later) ++ rest
ordered_bytes [] later rest = refl
ordered_bytes (line ∷ before) later rest =
    append_assoc (bytes_of before) (line ++ 10 ∷ []) (bytes_from later ++ rest)
    ∙ ap (λ tail. bytes_of before ++ tail) (append_assoc line (10 ∷ []) (bytes_from later ++ rest) ∙ sym (append_assoc line (10 ∷ bytes_from later) rest))
    ∙ ordered_bytes before (line ∷ later) rest

each_ordered : (P : List ℕ → Type 0) (lines later : List (List ℕ)) → Each P lines → Each P later → Each P (ordered lines later)
each_ordered P [] later each rest = rest
each_ordered P (line ∷ before) later each rest = each_ordered P before (line ∷ later) each.1 (each.0, rest)

each_line : (lines : List (List ℕ)) → AreLines lines → Each IsLine lines
each_line [] are = tt
each_line (line ∷ lines) are = (are.0, each_line lines are.1)

-- the lines in their first order again
ordered_twice : (a b c : List (List ℕ)) → ordered (ordered a b) c ≡ ordered b (a ++ c)
ordered_twice [] b c = refl
ordered_twice (line ∷ a) b c = ordered_twice a (line ∷ b) c

-- lines that spell steps are good lines
spelled_line : (line : List ℕ) (before : List (List ℕ)) (steps : List Step) → IsLine line → AreSpelled (line ∷ before) steps
    → IsGoodLine before line × ((earlier : List Step) × AreSpelled before earlier)
spelled_line line before [] is_line spelled = (record { is_line = is_line; good = inl spelled.0 }, ([], spelled.1))
spelled_line line before (step ∷ steps) is_line (inl spelled) = (record { is_line = is_line; good = inl spelled.0 }, (step ∷ steps, spelled.1))
spelled_line line before (step ∷ steps) is_line (inr spelled) =
    (record { is_line = is_line; good = inr (steps, spelled.1, step, spelled.0) }, (steps, spelled.1))

spelled_are_good : (lines later : List (List ℕ)) (last : List ℕ) (steps : List Step) → AreLines lines → AreSpelled lines steps
    → AreGood lines later last → AreGood [] (ordered lines later) last
spelled_are_good [] later last steps are spelled good = good
spelled_are_good (line ∷ before) later last steps are spelled good =
    let one = spelled_line line before steps are.0 spelled in
    spelled_are_good before (line ∷ later) last one.1.0 are.1 one.1.1 (one.0, good)

-- a line feed
begins_with_feed : (byte : ℕ) (bytes : List ℕ) → byte ≡ 10 → HasNoFeed (byte ∷ bytes) → ⊥
begins_with_feed byte bytes is none =
    false≢true (sym (or_parts (is_feed byte) (list_any is_feed bytes) none).0 ∙ ap is_feed is)

feed_inside : (front back : List ℕ) → HasNoFeed (front ++ 10 ∷ back) → ⊥
feed_inside [] back none = begins_with_feed 10 back refl none
feed_inside (byte ∷ front) back none = feed_inside front back (or_parts (is_feed byte) (list_any is_feed (front ++ 10 ∷ back)) none).1

no_feed_rest : (byte : ℕ) (bytes : List ℕ) → HasNoFeed (byte ∷ bytes) → HasNoFeed bytes
no_feed_rest byte bytes none = (or_parts (is_feed byte) (list_any is_feed bytes) none).1

-- the first line feed cuts bytes in one way
cut : (a b x y : List ℕ) → HasNoFeed a → HasNoFeed b → a ++ 10 ∷ x ≡ b ++ 10 ∷ y → (a ≡ b) × (x ≡ y)
cut [] [] x y none_a none_b same = (refl, cc)
cut [] (byte ∷ b) x y none_a none_b same =
    let is : byte ≡ 10 = cc in
    absurd (begins_with_feed byte b is none_b)
cut (byte ∷ a) [] x y none_a none_b same =
    let is : byte ≡ 10 = cc in
    absurd (begins_with_feed byte a is none_a)
cut (byte ∷ a) (other ∷ b) x y none_a none_b same =
    let head : byte ≡ other = cc in
    let tail : a ++ 10 ∷ x ≡ b ++ 10 ∷ y = cc in
    let rest = cut a b x y (no_feed_rest byte a none_a) (no_feed_rest other b none_b) tail in
    (λ i. head i ∷ rest.0 i, rest.1)

-- a front without a line feed is no longer than the line before one
too_long : (front line x y : List ℕ) → HasNoFeed front → length line < length front → front ++ x ≡ line ++ 10 ∷ y → ⊥
too_long [] line x y none longer same = omega arith
too_long (byte ∷ front) [] x y none longer same =
    let is : byte ≡ 10 = cc in
    begins_with_feed byte front is none
too_long (byte ∷ front) (other ∷ line) x y none longer same =
    let tail : front ++ x ≡ line ++ 10 ∷ y = cc in
    too_long front line x y (no_feed_rest byte front none) (omega arith) tail

-- after lines that spell these steps a good line is a step or is passed over
not_both : (done : List (List ℕ)) (steps : List Step) (line : List ℕ) → IsGoodLine done line → AreSpelled done steps → IsNoStep (setting_of steps) line → ⊥
not_both done steps line good spelled no_step = go good.good
  where
    go : IsPassedOver line ⊎ ((before : List Step) × AreSpelled done before × (step : Step) × Spells (setting_of before) line step) → ⊥
    go (inl passed) = no_step.0 passed
    go (inr spells) = no_step.1 spells.2 (subst (λ list. Spells (setting_of list) line spells.2) (one_list done spells.0 steps spells.1 spelled) spells.3)

-- no bad line stands among good ones
begins_too_long : (done lines : List (List ℕ)) (rest more last : List ℕ) → AreGood done lines last
    → BeginsTooLong rest → rest ++ more ≡ bytes_from lines ++ last → ⊥
begins_too_long done [] rest more last good bad same =
    let short = good.is_line.short in
    let long = bad.long in
    let all : (bad.front ++ bad.more) ++ more ≡ last = ap (λ bytes. bytes ++ more) (sym bad.begins) ∙ same in
    let outer = length-append (bad.front ++ bad.more) more in
    let inner = length-append bad.front bad.more in
    omega (arith, ap (λ bytes. length bytes) all)
begins_too_long done (line ∷ lines) rest more last good bad same =
    let short = good.0.is_line.short in
    let long = bad.long in
    too_long bad.front line (bad.more ++ more) (bytes_from lines ++ last) bad.no_feed (omega arith)
    (sym (append_assoc bad.front bad.more more) ∙ ap (λ bytes. bytes ++ more) (sym bad.begins) ∙ same ∙ append_assoc line (10 ∷ bytes_from lines) last)

begins_no_step : (done : List (List ℕ)) (steps : List Step) (lines : List (List ℕ)) (rest more last : List ℕ) → AreGood done lines last → AreSpelled done steps
    → BeginsNoStep (setting_of steps) rest (Some more) → rest ++ more ≡ bytes_from lines ++ last → ⊥
begins_no_step done steps lines rest more last good spelled bad same = go lines good same bad.begins
  where
    go : (lines : List (List ℕ)) → AreGood done lines last → rest ++ more ≡ bytes_from lines ++ last
        → (rest ≡ bad.line ++ 10 ∷ bad.more) ⊎ ((rest ≡ bad.line) × (more ≡ [])) → ⊥
    go [] each same (inl fed) =
        let all : last ≡ bad.line ++ 10 ∷ (bad.more ++ more) = sym same ∙ ap (λ bytes. bytes ++ more) fed ∙ append_assoc bad.line (10 ∷ bad.more) more in
        feed_inside bad.line (bad.more ++ more) (subst HasNoFeed all each.is_line.no_feed)
    go [] each same (inr spent) =
        let all : last ≡ bad.line = sym same ∙ ap (λ bytes. rest ++ bytes) spent.1 ∙ append-nil rest ∙ spent.0 in
        not_both done steps bad.line (subst (IsGoodLine done) all each) spelled bad.no_step
    go (line ∷ lines) each same (inl fed) =
        let all : bad.line ++ 10 ∷ (bad.more ++ more) ≡ line ++ 10 ∷ (bytes_from lines ++ last) =
        sym (append_assoc bad.line (10 ∷ bad.more) more) ∙ ap (λ bytes. bytes ++ more) (sym fed) ∙ same ∙ append_assoc line (10 ∷ bytes_from lines) last in
        let parts = cut bad.line line (bad.more ++ more) (bytes_from lines ++ last) bad.is_line.no_feed each.0.is_line.no_feed all in
        not_both done steps bad.line (subst (IsGoodLine done) (sym parts.0) each.0) spelled bad.no_step
    go (line ∷ lines) each same (inr spent) =
        let all : bad.line ≡ line ++ 10 ∷ (bytes_from lines ++ last) =
        sym spent.0 ∙ sym (append-nil rest) ∙ ap (λ bytes. rest ++ bytes) (sym spent.1) ∙ same ∙ append_assoc line (10 ∷ bytes_from lines) last in
        feed_inside line (bytes_from lines ++ last) (subst HasNoFeed all bad.is_line.no_feed)

no_bad_line : (done before : List (List ℕ)) (steps : List Step) (lines : List (List ℕ)) (rest more last : List ℕ) → Each IsLine before → AreGood done lines last
    → AreSpelled (ordered before done) steps → BeginsTooLong rest ⊎ BeginsNoStep (setting_of steps) rest (Some more)
    → bytes_from before ++ (rest ++ more) ≡ bytes_from lines ++ last → ⊥
no_bad_line done [] steps lines rest more last are good spelled (inl bad) same = begins_too_long done lines rest more last good bad same
no_bad_line done [] steps lines rest more last are good spelled (inr bad) same = begins_no_step done steps lines rest more last good spelled bad same
no_bad_line done (first ∷ before) steps [] rest more last are good spelled bad same =
    let all : last ≡ first ++ 10 ∷ (bytes_from before ++ (rest ++ more)) = sym same ∙ append_assoc first (10 ∷ bytes_from before) (rest ++ more) in
    feed_inside first (bytes_from before ++ (rest ++ more)) (subst HasNoFeed all good.is_line.no_feed)
no_bad_line done (first ∷ before) steps (line ∷ lines) rest more last are good spelled bad same =
    let all = sym (append_assoc first (10 ∷ bytes_from before) (rest ++ more)) ∙ same ∙ append_assoc line (10 ∷ bytes_from lines) last in
    let parts = cut first line (bytes_from before ++ (rest ++ more)) (bytes_from lines ++ last) are.0.no_feed good.0.is_line.no_feed all in
    no_bad_line (first ∷ done) before steps lines rest more last are.1 (subst (λ one. AreGood (one ∷ done) lines last) (sym parts.0) good.1) spelled bad parts.1

-- a good script is good lines and a last one, which may be empty
record IsWhole (input : List ℕ) : Type 0 where
  lines : List (List ℕ)
  last : List ℕ
  good : AreGood [] lines last
  is : input ≡ bytes_from lines ++ last

empty_line : (done : List (List ℕ)) → IsGoodLine done []
empty_line done = record { is_line = record { no_feed = refl; short = omega arith }; good = inl tt }

whole : (input : List ℕ) (lines : List (List ℕ)) (steps : List Step) → SplitsWhole input lines → AreSpelled lines steps → IsWhole input
whole input [] steps split spelled = record { lines = []; last = []; good = empty_line []; is = split }
whole input (line ∷ before) steps split spelled = go split.1
  where
    go : (input ≡ bytes_of (line ∷ before)) ⊎ ((line ≡ [] → ⊥) × (input ≡ bytes_of before ++ line)) → IsWhole input
    go (inl fed) = record {
      lines = ordered (line ∷ before) [];
      last = [];
      good = spelled_are_good (line ∷ before) [] [] steps split.0 spelled (empty_line (line ∷ before));
      is = fed ∙ sym (append-nil (bytes_of (line ∷ before))) ∙ ordered_bytes (line ∷ before) [] [];
    }
    go (inr unfed) =
        let one = spelled_line line before steps split.0.0 spelled in
        record {
          lines = ordered before [];
          last = line;
          good = spelled_are_good before [] line one.1.0 split.0.1 one.1.1 one.0;
          is = unfed.1 ∙ ordered_bytes before [] line;
        }

-- a run of it ends so
pub complete : (end : Status) (input : List ℕ) (left' held held' : Option (List ℕ)) → Replays end (Some input) left' held held' → IsGoodScript input
    → (end ≡ status.Usage → ⊥) → (end ≡ status.ReadFault → ⊥) → (end ≡ status.WriteFault → ⊥)
    → (end ≡ status.Done) ⊎ (end ≡ status.NoMemory)
complete status.Done input left' held held' replays script usage reads writes = inl refl
complete status.NoMemory input left' held held' replays script usage reads writes = inr refl
complete status.Usage input left' held held' replays script usage reads writes = absurd (usage refl)
complete status.ReadFault input left' held held' replays script usage reads writes = absurd (reads refl)
complete status.WriteFault input left' held held' replays script usage reads writes = absurd (writes refl)
complete status.InputTooLong input None held held' replays script usage reads writes =
    let told = replays.took in
    cc
complete status.InputTooLong input (Some more) held held' replays script usage reads writes =
    let counted = replays.ends.0 in
    let short = script.short in
    let longer = length-append replays.read more in
    absurd (omega (arith, ap (λ bytes. length bytes) replays.took))
complete (status.BadLine line) input None held held' replays script usage reads writes =
    let told = replays.took in
    cc
complete (status.BadLine line) input (Some more) held held' replays script usage reads writes =
    let breaks = replays.ends.breaks in
    let lines = replays.ends.lines in
    let text = replays.ends.text in
    let steps = steps_in text.turns in
    let parts = whole input script.lines script.steps script.split script.spelled in
    let same : bytes_from (ordered lines []) ++ (breaks.rest ++ more) ≡ bytes_from parts.lines ++ parts.last =
    sym (ordered_bytes lines [] (breaks.rest ++ more))
    ∙ sym (append_assoc (bytes_of lines) breaks.rest more)
    ∙ ap (λ bytes. bytes ++ more) (sym breaks.whole)
    ∙ sym replays.took
    ∙ parts.is in
    let spelled : AreSpelled (ordered (ordered lines []) []) steps =
    subst (λ list. AreSpelled list steps) (sym (ordered_twice lines [] [] ∙ append-nil lines)) (are_spelled lines text.turns text.history text.played) in
    absurd (no_bad_line [] (ordered lines []) steps parts.lines breaks.rest more parts.last
    (each_ordered IsLine lines [] (each_line lines breaks.good) tt) parts.good spelled breaks.bad same)

-- where it ends by its causes
pub complete_when : (end : Status) (left left' held held' : Option (List ℕ)) (reads writes : Type 0) → Replays end left left' held held'
    → IsCaused end reads writes → IsComplete end left reads writes
complete_when end left left' held held' reads writes replays caused = λ input left_is script no_reads no_writes.
    complete end input left' held held' (subst (λ told. Replays end told left' held held') left_is replays) script
    (λ is. subst (λ ends. IsCaused ends reads writes) is caused)
    (λ is. no_reads (subst (λ ends. IsCaused ends reads writes) is caused))
    (λ is. no_writes (subst (λ ends. IsCaused ends reads writes) is caused))
