-- What is answered for the words of polls, deletions, pushes, openings and registrations.
use Rattle.std.proofs.Common.{◌≡◌, ◌≢◌, ℕ, ◌≤◌, ◌<◌, Bool, List, [], ◌∷◌, length, Bor, Result, Ok, Err, refl, sym, subst, arith}
use Rattle.ev_base.specs.declared.ids.QueueId.{QueueId}
use Rattle.ev_base.specs.declared.ids.UserId.{UserId}
use Rattle.ev_types.specs.declared.kind.Types.{Types}
use Rattle.ev_types.specs.declared.section.Section.{Section}
use Rattle.zs_words.specs.declared.fault.LineFault.{LineFault}
use Rattle.zs_words.specs.declared.fault.LineFault.TheVariants.{NotAStep, NoMemory}
use Rattle.zs_script.specs.declared.queues.Asked.{Asked}
use Rattle.zs_script.specs.declared.step.Setting.{Setting}
use Rattle.zs_script.specs.declared.step.Step.{Step}
use Rattle.zs_script.specs.declared.step.Step.TheVariants.{Push, PushFrom, Fetch, Finish, DeleteQueue}
use Rattle.zs_script.specs.Grammar.{AskingSpells, One, Two, PollSpells, PushSpells, TakesMemory}
use Rattle.zs_words.specs.Lists.{IsTypes, IsFetch}
use Rattle.zs_words.specs.Names.{IsSection}
use Rattle.zs_words.specs.Numbers.{IsUser, IsQueue, IsEventNumber, IsShard, IsNoticeNumber}
use Rattle.zs_script.specs.Readings.{ReadsStep, asked_for}
use Rattle.zs_words.specs.Readings.{Reads, pointed}
use Rattle.zs_script.proofs.Failing.{word, two_none, three_none}

-- words that spell nothing spell no step
no_step : (spells : Step → Type 0) → Reads spells (Err NotAStep) → ReadsStep spells (Err NotAStep)
no_step spells reads = record {
  step = tt;
  not_a_step = reads.not_a_step;
  no_memory = λ fault. cc;
}

-- the words of a poll or of a deletion whose second word is no queue, or of a fetch or a finish whose first is none
pub no_polled_queue : (beat : Bool) (words : List (Bor (List ℕ))) → 3 ≤ length words → length words < 4 → ((queue : QueueId) → IsQueue (word words 1) queue → ⊥) → ReadsStep (PollSpells beat (pointed words)) (Err NotAStep)
no_polled_queue beat words least below none =
    no_step _ (three_none IsUser IsQueue IsEventNumber _ words least below (λ user queue after is_user is_queue is_after. none queue is_queue))

pub no_deleted_queue : (words : List (Bor (List ℕ))) → 2 ≤ length words → length words < 3 → ((queue : QueueId) → IsQueue (word words 1) queue → ⊥) → ReadsStep (Two IsUser IsQueue DeleteQueue (pointed words)) (Err NotAStep)
no_deleted_queue words least below none =
    no_step _ (two_none IsUser IsQueue _ words least below (λ user queue is_user is_queue. none queue is_queue))

pub no_fetching_queue : (words : List (Bor (List ℕ))) → 2 ≤ length words → length words < 3 → ((queue : QueueId) → IsQueue (word words 0) queue → ⊥) → ReadsStep (Two IsQueue IsSection Fetch (pointed words)) (Err NotAStep)
no_fetching_queue words least below none =
    no_step _ (two_none IsQueue IsSection _ words least below (λ queue section is_queue is_section. none queue is_queue))

pub no_finished_queue : (words : List (Bor (List ℕ))) → 1 ≤ length words → length words < 2 → ((queue : QueueId) → IsQueue (word words 0) queue → ⊥) → ReadsStep (One IsQueue Finish (pointed words)) (Err NotAStep)
no_finished_queue [] least below none = absurd (omega arith)
no_finished_queue (a ∷ []) least below none = record {
  step = tt;
  not_a_step = λ fault step spells. none spells.0 spells.1;
  no_memory = λ fault. cc;
}
no_finished_queue (a ∷ b ∷ rest) least below none = absurd (omega arith)

-- a push of one word after its name, and of any other number of them
pub push_of_one : (setting : Setting) (words : List (Bor (List ℕ))) (answer : Result Step LineFault) → length words ≡ 1 → ReadsStep (One (IsShard setting.shards) Push (pointed words)) answer → ReadsStep (PushSpells setting (pointed words)) answer
push_of_one setting [] answer one reads = absurd (omega (arith, one))
push_of_one setting (a ∷ []) answer one reads = reads
push_of_one setting (a ∷ b ∷ rest) answer one reads = absurd (omega (arith, one))

pub push_of_others : (setting : Setting) (words : List (Bor (List ℕ))) (answer : Result Step LineFault) → length words ≢ 1 → ReadsStep (Two (IsShard setting.shards) IsNoticeNumber PushFrom (pointed words)) answer → ReadsStep (PushSpells setting (pointed words)) answer
push_of_others setting [] answer others reads = reads
push_of_others setting (a ∷ []) answer others reads = absurd (others refl)
push_of_others setting (a ∷ b ∷ rest) answer others reads = reads

-- words that ask for a queue, of which some word spells nothing
pub no_asking : {W : Type 0} (make : UserId → Types → List Section → W) (words : List (Bor (List ℕ))) → 3 ≤ length words → length words < 4 → ((user : UserId) (sent : Types) (asked : List Section) → IsUser (word words 0) user → IsTypes (word words 1) sent → IsFetch sent (word words 2) asked → ⊥) → Reads (AskingSpells make (pointed words)) (Err NotAStep)
no_asking make [] least below none = absurd (omega arith)
no_asking make (a ∷ []) least below none = absurd (omega arith)
no_asking make (a ∷ b ∷ []) least below none = absurd (omega arith)
no_asking make (a ∷ b ∷ c ∷ []) least below none = record {
  value = tt;
  not_a_step = λ fault whole spells. none spells.0 spells.1 spells.2 spells.3 spells.4 spells.5;
  no_memory = λ fault. absurd (cc);
}
no_asking make (a ∷ b ∷ c ∷ d ∷ rest) least below none = absurd (omega arith)

-- those for which memory ran out
pub asking_out_of_memory : {W : Type 0} (make : UserId → Types → List Section → W) (words : List (Bor (List ℕ))) (user : UserId) → 3 ≤ length words → length words < 4 → IsUser (word words 0) user → (sent : Types) × IsTypes (word words 1) sent → ((sent : Types) → (asked : List Section) × IsFetch sent (word words 2) asked) → Reads (AskingSpells make (pointed words)) (Err NoMemory)
asking_out_of_memory make [] user least below is types fetch = absurd (omega arith)
asking_out_of_memory make (a ∷ []) user least below is types fetch = absurd (omega arith)
asking_out_of_memory make (a ∷ b ∷ []) user least below is types fetch = absurd (omega arith)
asking_out_of_memory make (a ∷ b ∷ c ∷ []) user least below is types fetch = record {
  value = tt;
  not_a_step = λ fault. absurd (cc);
  no_memory = λ fault. let asked = fetch types.0 in
      (make user types.0 asked.0, (user, types.0, asked.0, is, types.1, asked.1, refl));
}
asking_out_of_memory make (a ∷ b ∷ c ∷ d ∷ rest) user least below is types fetch = absurd (omega arith)

-- those that are spelled
pub asking_spelled : {W : Type 0} (make : UserId → Types → List Section → W) (words : List (Bor (List ℕ))) (user : UserId) (whole : W) → 3 ≤ length words → length words < 4 → IsUser (word words 0) user → (sent : Types) × (asked : List Section) × IsTypes (word words 1) sent × IsFetch sent (word words 2) asked × (whole ≡ make user sent asked) → Reads (AskingSpells make (pointed words)) (Ok whole)
asking_spelled make [] user whole least below is made = absurd (omega arith)
asking_spelled make (a ∷ []) user whole least below is made = absurd (omega arith)
asking_spelled make (a ∷ b ∷ []) user whole least below is made = absurd (omega arith)
asking_spelled make (a ∷ b ∷ c ∷ []) user whole least below is made = record {
  value = (user, made.0, made.1, is, made.2, made.3, made.4);
  not_a_step = λ fault. absurd (cc);
  no_memory = λ fault. absurd (cc);
}
asking_spelled make (a ∷ b ∷ c ∷ d ∷ rest) user whole least below is made = absurd (omega arith)

-- the same words spell whatever is made of what they ask for
other_asking : {V W : Type 0} (one : UserId → Types → List Section → V) (other : UserId → Types → List Section → W) (words : List (List ℕ)) (whole : V) → AskingSpells one words whole
    → (user : UserId) × (types : Types) × (asked : List Section) × (whole ≡ one user types asked) × AskingSpells other words (other user types asked)
other_asking one other [] whole is = absurd is
other_asking one other (a ∷ []) whole is = absurd is
other_asking one other (a ∷ b ∷ []) whole is = absurd is
other_asking one other (a ∷ b ∷ c ∷ []) whole is = (is.0, is.1, is.2, is.6, (is.0, is.1, is.2, is.3, is.4, is.5, refl))
other_asking one other (a ∷ b ∷ c ∷ d ∷ rest) whole is = absurd is

-- a step that asks for a queue, and takes memory
module _ (make : UserId → Types → List Section → Step) (takes : (user : UserId) (types : Types) (asked : List Section) → TakesMemory (make user types asked)) (words : List (List ℕ)) where
  pub no_asking_step : (fault : LineFault) → Reads (AskingSpells asked_for words) (Err fault) → ReadsStep (AskingSpells make words) (Err fault)
  no_asking_step fault reads = record {
    step = tt;
    not_a_step = λ is step spells. let other = other_asking make asked_for words step spells in
        reads.not_a_step (cc) (asked_for other.0 other.1 other.2) other.4;
    no_memory = λ is. let asked = reads.no_memory (cc) in
        let other = other_asking asked_for make words asked.0 asked.1 in
        (make other.0 other.1 other.2, other.4, takes other.0 other.1 other.2);
  }

  pub asking_step : (asked : Asked) → Reads (AskingSpells asked_for words) (Ok asked) → ReadsStep (AskingSpells make words) (Ok (make asked.user asked.types asked.sections))
  asking_step asked reads = record {
    step = let other = other_asking asked_for make words asked reads.value in
        subst (λ (one : Asked). AskingSpells make words (make one.user one.types one.sections)) (sym other.3) other.4;
    not_a_step = λ fault. absurd (cc);
    no_memory = λ fault. absurd (cc);
  }
