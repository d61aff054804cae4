-- What a runner played grows by the lines of a piece, up to one that it doesn't play.
use Rattle.std.proofs.Common.{◌≡◌, ◌≢◌, ℕ, false, suc, ◌+◌, ◌<◌, Option, Result, Ok, Err, MatchResult, OnOk, OnErr, List, [], ◌∷◌, ◌++◌, ◌⊎◌, length, get_or, take, drop, refl, sym, ap, subst, ◌∙◌, inl, inr, append_assoc, append-nil, arith}
use Rattle.std.proofs.lemmas.List.{take-append-drop}
use Rattle.ev_ports.specs.Ports.{IsSpent}
use Rattle.zs_script.specs.declared.step.Setting.{Setting}
use Rattle.zs_script.specs.declared.step.Step.{Step}
use Rattle.zs_script.specs.Grammar.{IsPassedOver, Spells}
use Rattle.zs_script.specs.Scripts.{shards_after}
use Rattle.zm_text.specs.Outcomes.{text_of_outcome}
use Rattle.zm_run.specs.declared.runner.Runner.{Runner}
use Rattle.zm_run.specs.declared.runner.Stop.{Stop}
use Rattle.zm_run.specs.declared.runner.Stop.TheVariants.{BadLine, NoMemory}
use Rattle.zm_run.specs.Inputs.{BeginsNoStep, BeginsTooLong, HasNoFeed, IsLine, bytes_of, max_line_bytes}
use Rattle.zm_run.specs.Running.{HasPlayed, IsBad, IsWhy, PlayedOn, PlayedToEnd, PlaysStep, Represents, StoppedIn, setting_in}
use Rattle.zm_run.proofs.Feeds.{line_taken, line_begins}
use Rattle.zm_run.proofs.Told.{represents_past, represents_after, still_represents, with_text}

-- a line that is passed over was played
pub passes_line : (old new : Runner) (line : List ℕ) (lines : List (List ℕ)) (written : List ℕ) → IsLine line → IsPassedOver line
    → new.player ≡ old.player → new.is_first ≡ old.is_first → new.output.items ≡ old.output.items → new.lines ≡ old.lines + 1
    → HasPlayed old lines written → HasPlayed new (line ∷ lines) written
passes_line old new line lines written is_line passes player first output counts played =
    let text = written ++ old.output.items in
    let represents = represents_past old.player (setting_in old) line lines text passes played.represents in
    let still = still_represents old new (line ∷ lines) text player first represents in
    record {
      represents = subst (λ t. Represents new.player (setting_in new) (line ∷ lines) (written ++ t)) (sym output) still;
      counted = let before = played.counted in omega arith;
      good = (is_line, played.good);
    }

-- a line that spells a step was played
pub plays_line : (old mid new : Runner) (line : List ℕ) (lines : List (List ℕ)) (written : List ℕ) (step : Step)
    → IsLine line → Spells (setting_in old) line step → PlaysStep step old mid
    → new.player ≡ mid.player → new.is_first ≡ mid.is_first → new.output.items ≡ mid.output.items → new.lines ≡ old.lines + 1
    → HasPlayed old lines written → HasPlayed new (line ∷ lines) written
plays_line old mid new line lines written step is_line spells plays player first output counts played =
    let added = text_of_outcome plays.outcome in
    let text = written ++ old.output.items in
    let left : setting_in mid ≡ record { shards = shards_after step (length old.player.world.shards); is_first = false } =
    λ i. record { shards = plays.shards i; is_first = plays.is_first i } in
    let represents = represents_after old.player mid.player (setting_in old) (setting_in mid) line lines text step plays.outcome spells
    plays.played left played.represents in
    let same : text ++ added ≡ written ++ new.output.items =
    append_assoc written old.output.items added ∙ ap (λ t. written ++ t) (sym plays.output ∙ sym output) in
    let told : Represents mid.player (setting_in mid) (line ∷ lines) (written ++ new.output.items) =
    subst (λ t. Represents mid.player (setting_in mid) (line ∷ lines) t) same represents in
    record {
      represents = still_represents mid new (line ∷ lines) (written ++ new.output.items) player first told;
      counted = let before = played.counted in omega arith;
      good = (is_line, played.good);
    }

-- no bytes, no lines
pub played_none : (runner : Runner) (lines : List (List ℕ)) (written : List ℕ) → HasPlayed runner lines written → PlayedOn runner lines written []
played_none runner lines written played = record { after = lines; played = played; spelled = sym (append-nil (bytes_of lines)) }

-- one more line of a piece was played
pub played_more : (old new : Runner) (lines : List (List ℕ)) (written bytes : List ℕ) (used n : ℕ)
    → n < length (drop used bytes) → get_or (drop used bytes) n 0 ≡ 10
    → ((before : List (List ℕ)) → HasPlayed old before written → HasPlayed new (take n (drop used bytes) ∷ before) written)
    → PlayedOn old lines written (take used bytes) → PlayedOn new lines written (take (used + n + 1) bytes)
played_more old new lines written bytes used n below feed goes on =
    let line = take n (drop used bytes) in
    record {
      after = line ∷ on.after;
      played = goes on.after on.played;
      spelled = ap (λ front. front ++ (line ++ 10 ∷ [])) on.spelled
          ∙ append_assoc (bytes_of lines) (take used bytes) (line ++ 10 ∷ [])
          ∙ ap (λ back. bytes_of lines ++ back) (sym (line_taken bytes used n below feed));
    }

-- a line of a piece wasn't played
pub stopped_in : (stop : Stop) (old new : Runner) (lines : List (List ℕ)) (written bytes : List ℕ) (used : ℕ) (left : Option (List ℕ))
    → PlayedOn old lines written (take used bytes) → new.output.items ≡ old.output.items → new.lines ≡ old.lines
    → IsWhy stop (setting_in old) (drop used bytes) left → StoppedIn stop new lines written bytes left
stopped_in stop old new lines written bytes used left on output counts why = record {
  after = on.after;
  rest = drop used bytes;
  text = with_text (written ++ new.output.items) (ap (λ t. written ++ t) output) on.played.represents.told;
  counted = counts ∙ on.played.counted;
  good = on.played.good;
  spelled = ap (λ t. bytes_of lines ++ t) (sym (take-append-drop used bytes))
      ∙ sym (append_assoc (bytes_of lines) (take used bytes) (drop used bytes))
      ∙ ap (λ front. front ++ drop used bytes) (sym on.spelled);
  why = subst (λ s. IsWhy stop s (drop used bytes) left) on.played.represents.left why;
}

-- a bad line with a feed behind it
why_of_line : (setting : Setting) (line more : List ℕ) (left : Option (List ℕ)) → HasNoFeed line → IsBad setting line
    → BeginsTooLong (line ++ 10 ∷ more) ⊎ BeginsNoStep setting (line ++ 10 ∷ more) left
why_of_line setting line more left no_feed (inl long) = inl (record { front = line; more = 10 ∷ more; begins = refl; no_feed = no_feed; long = long })
why_of_line setting line more left no_feed (inr bad) =
    inr (record { line = line; more = more; is_line = record { no_feed = no_feed; short = bad.0 }; no_step = bad.1; begins = inl refl })

-- why a line of a piece isn't played
pub why_in : (stop : Stop) (setting : Setting) (bytes : List ℕ) (n : ℕ) (left : Option (List ℕ)) → n < length bytes → get_or bytes n 0 ≡ 10
    → HasNoFeed (take n bytes) → (stop ≡ BadLine → IsBad setting (take n bytes)) → IsWhy stop setting bytes left
why_in BadLine setting bytes n left below feed no_feed bad =
    subst (λ t. BeginsTooLong t ⊎ BeginsNoStep setting t left) (sym (line_begins bytes n below feed))
    (why_of_line setting (take n bytes) (drop (suc n) bytes) left no_feed (bad refl))
why_in NoMemory setting bytes n left below feed no_feed bad = tt

-- a line is too long before its feed is seen
pub why_too_long : (setting : Setting) (rest : List ℕ) (left : Option (List ℕ)) → HasNoFeed rest → max_line_bytes < length rest → IsWhy BadLine setting rest left
why_too_long setting rest left no_feed long = inl (record { front = rest; more = []; begins = sym (append-nil rest); no_feed = no_feed; long = long })

-- why the last line of the input isn't played
pub why_at_end : (stop : Stop) (setting : Setting) (line : List ℕ) (left : Option (List ℕ)) → HasNoFeed line → IsSpent left
    → (stop ≡ BadLine → IsBad setting line) → IsWhy stop setting line left
why_at_end NoMemory setting line left no_feed spent bad = tt
why_at_end BadLine setting line left no_feed spent bad =
    elim (bad refl) as (λ _. IsWhy BadLine setting line left) [
      | inl long ↦ why_too_long setting line left no_feed long
      | inr is_bad ↦ inr (record {
        line = line;
        more = [];
        is_line = record { no_feed = no_feed; short = is_bad.0 };
        no_step = is_bad.1;
        begins = inr (refl, spent);
      })
    ]

-- the last line isn't played
pub stopped_at_end : (stop : Stop) (old new : Runner) (lines : List (List ℕ)) (written rest : List ℕ) (left : Option (List ℕ))
    → HasPlayed old lines written → new.output.items ≡ old.output.items → new.lines ≡ old.lines
    → IsWhy stop (setting_in old) rest left → StoppedIn stop new lines written rest left
stopped_at_end stop old new lines written rest left played output counts why = record {
  after = lines;
  rest = rest;
  text = with_text (written ++ new.output.items) (ap (λ t. written ++ t) output) played.represents.told;
  counted = counts ∙ played.counted;
  good = played.good;
  spelled = refl;
  why = subst (λ s. IsWhy stop s rest left) played.represents.left why;
}

-- the last line lacks its feed
pub ended_without_feed : (runner : Runner) (lines : List (List ℕ)) (written rest : List ℕ) → rest ≢ []
    → HasPlayed runner (rest ∷ lines) written → PlayedToEnd runner lines written rest
ended_without_feed runner lines written rest some played = record { after = rest ∷ lines; played = played; split = (played.good, inr (some, refl)) }

-- the last line is played or not
pub rest_played : (result : Result (Unit {0}) Stop) (old new : Runner) (lines : List (List ℕ)) (written rest : List ℕ) (left : Option (List ℕ))
    → rest ≢ [] → HasNoFeed rest → IsSpent left → HasPlayed old lines written
    → OnOk result ((before : List (List ℕ)) (text : List ℕ) → HasNoFeed rest → HasPlayed old before text → HasPlayed new (rest ∷ before) text)
    → (result ≡ Err BadLine → IsBad (setting_in old) rest) → OnErr result (new.lines ≡ old.lines) → OnErr result (new.output.items ≡ old.output.items)
    → MatchResult result (λ _. PlayedToEnd new lines written rest) (λ stop. StoppedIn stop new lines written rest left)
rest_played (Ok done) old new lines written rest left some no_feed spent played goes bad counts output =
    ended_without_feed new lines written rest some (goes lines written no_feed played)
rest_played (Err stop) old new lines written rest left some no_feed spent played goes bad counts output =
    stopped_at_end stop old new lines written rest left played output counts
    (why_at_end stop (setting_in old) rest left no_feed spent (λ is_bad. bad (ap (λ (s : Stop). Err s) is_bad)))
