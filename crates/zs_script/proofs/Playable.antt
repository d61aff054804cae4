-- What a line spells may be played, and only the first step says how many shards there are.
use Rattle.std.proofs.Common.{◌≡◌, ℕ, Bool, true, List, [], ◌∷◌, sym, subst}
use Rattle.ev_base.specs.declared.ids.UserId.{UserId}
use Rattle.ev_types.specs.declared.kind.Types.{Types}
use Rattle.ev_types.specs.declared.section.Section.{Section}
use Rattle.zs_words.specs.declared.names.LineName.{LineName}
use Rattle.zs_words.specs.declared.names.LineName.TheVariants as line
use Rattle.zs_words.specs.Lists.{IsFetch}
use Rattle.zs_words.specs.Names.{IsSection}
use Rattle.zs_words.specs.Numbers.{IsUser, IsShard, IsShardCount, IsNoticeNumber, IsMoment, IsQueue, IsEventNumber}
use Rattle.zs_script.specs.declared.step.Setting.{Setting}
use Rattle.zs_script.specs.declared.step.Step.{Step}
use Rattle.zs_script.specs.declared.step.Step.TheVariants.{OpenQueue, Register, Shards}
use Rattle.zs_script.specs.Grammar.{AskingSpells, PollSpells, PushSpells, RestSpells, Spells, WordsSpell, words_of}
use Rattle.zs_script.specs.Scripts.{MayPlay}
use Rattle.zs_script.proofs.Combined.{one_made, two_made, three_made}
use Rattle.zs_script.proofs.FetchOrder.{fetched_in_order}

-- no step stands before one that says how many shards there are
abbrev ComesInOrder : Setting → Step → Type 0
ComesInOrder setting (Shards count) = setting.is_first ≡ true
ComesInOrder setting step = Unit {0}

-- the step may follow those before
abbrev MayFollow : Setting → Step → Type 0
MayFollow setting step = MayPlay setting.shards step × ComesInOrder setting step

push_plays : (setting : Setting) (words : List (List ℕ)) (step : Step) → PushSpells setting words step → MayFollow setting step
push_plays setting [] step is = absurd is
push_plays setting (a ∷ []) step is =
    one_made (IsShard setting.shards) _ (MayFollow setting) (λ word shard written. (written.1, tt)) (a ∷ []) step is
push_plays setting (a ∷ b ∷ rest) step is =
    two_made (IsShard setting.shards) IsNoticeNumber _ (MayFollow setting) (λ word other shard first written also. ((written.1, also.1), tt)) (a ∷ b ∷ rest) step is

asking_plays : (setting : Setting) (make : UserId → Types → List Section → Step) → ((user : UserId) (types : Types) (word : List ℕ) (asked : List Section) → IsFetch types word asked → MayFollow setting (make user types asked)) → (words : List (List ℕ)) (step : Step) → AskingSpells make words step → MayFollow setting step
asking_plays setting make each [] step is = absurd is
asking_plays setting make each (a ∷ []) step is = absurd is
asking_plays setting make each (a ∷ b ∷ []) step is = absurd is
asking_plays setting make each (a ∷ b ∷ c ∷ []) step is = subst (MayFollow setting) (sym is.6) (each is.0 is.1 c is.2 is.5)
asking_plays setting make each (a ∷ b ∷ c ∷ d ∷ rest) step is = absurd is

poll_plays : (setting : Setting) (beat : Bool) (words : List (List ℕ)) (step : Step) → PollSpells beat words step → MayFollow setting step
poll_plays setting beat = three_made IsUser IsQueue IsEventNumber _ (MayFollow setting) (λ user queue after. (tt, tt))

rest_plays : (setting : Setting) (name : LineName) (words : List (List ℕ)) (step : Step) → RestSpells setting name words step → MayFollow setting step
rest_plays setting (line.Command name) [] step is = absurd is
rest_plays setting (line.Command name) (first ∷ arguments) step is = subst (MayFollow setting) (sym is.4) (tt, tt)
rest_plays setting line.Shards words step is =
    one_made IsShardCount _ (MayFollow setting) (λ word count written. ((written.1, written.2), is.0)) words step is.1
rest_plays setting line.Notice words step is = subst (MayFollow setting) (sym is.1) (tt, tt)
rest_plays setting line.Push words step is = push_plays setting words step is
rest_plays setting line.Open words step is = asking_plays setting OpenQueue (λ user types word asked fetched. (tt, tt)) words step is
rest_plays setting line.Fetch words step is =
    two_made IsQueue IsSection _ (MayFollow setting) (λ word other queue section is_queue is_section. (tt, tt)) words step is
rest_plays setting line.Finish words step is = one_made IsQueue _ (MayFollow setting) (λ word queue is_queue. (tt, tt)) words step is
rest_plays setting line.Register words step is = asking_plays setting Register (λ user types word asked fetched. (fetched_in_order types word asked fetched, tt)) words step is
rest_plays setting line.Poll words step is = poll_plays setting _ words step is
rest_plays setting line.Beat words step is = poll_plays setting _ words step is
rest_plays setting line.DeleteQueue words step is =
    two_made IsUser IsQueue _ (MayFollow setting) (λ word other user queue is_user is_queue. (tt, tt)) words step is
rest_plays setting line.Tick words step is = one_made IsMoment _ (MayFollow setting) (λ word moment written. (tt, tt)) words step is
rest_plays setting line.Where words step is =
    one_made (IsShard setting.shards) _ (MayFollow setting) (λ word shard written. (written.1, tt)) words step is
rest_plays setting line.View words step is = one_made IsUser _ (MayFollow setting) (λ word user written. (tt, tt)) words step is

words_play : (setting : Setting) (words : List (List ℕ)) (step : Step) → WordsSpell setting words step → MayFollow setting step
words_play setting [] step is = absurd is
words_play setting (first ∷ rest) step is = rest_plays setting is.0 rest step is.2

-- a line spells a step that may be played
pub line_plays : (setting : Setting) (line : List ℕ) (step : Step) → Spells setting line step → MayPlay setting.shards step
line_plays setting line step is = (words_play setting (words_of line) step is).0

pub line_is_first : (setting : Setting) (line : List ℕ) (count : ℕ) → Spells setting line (Shards count) → setting.is_first ≡ true
line_is_first setting line count is = (words_play setting (words_of line) (Shards count) is).1
