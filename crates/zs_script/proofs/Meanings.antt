-- The same words spell one step at most, and a line that is passed over spells none.
use Rattle.std.proofs.Common.{◌≡◌, ℕ, ◌≤◌, ◌<◌, Bool, true, false, ◌==◌, List, [], ◌∷◌, length, None, Some, Err, sym, refl, ap, ◌∙◌, subst, arith}
use Rattle.std.specs.List.{slice_split, onto_first}
use Rattle.ev_base.specs.declared.ids.UserId.{UserId}
use Rattle.ev_types.specs.declared.kind.Types.{Types}
use Rattle.ev_types.specs.declared.section.Section.{Section}
use Rattle.zr_types.specs.declared.command.Command.{Command as Change}
use Rattle.zr_types.specs.declared.command.SubField.TheVariants as value
use Rattle.zr_types.specs.declared.command.Command.TheVariants.{Streams}
use Rattle.zr_types.specs.declared.command.StreamCommand.TheVariants.{SubProperty}
use Rattle.zs_words.specs.declared.fault.LineFault.TheVariants.{NotAStep}
use Rattle.zs_words.specs.declared.names.CommandName.{CommandName}
use Rattle.zs_words.specs.declared.names.CommandName.TheVariants as command
use Rattle.zs_words.specs.declared.names.LineName.{LineName}
use Rattle.zs_words.specs.declared.names.LineName.TheVariants as line
use Rattle.zs_words.specs.declared.names.SubProperty.{SubProperty as SubName}
use Rattle.zs_words.specs.declared.names.SubProperty.TheVariants as sub
use Rattle.zs_words.specs.Lists.{IsUsers, IsMessages, IsFetch}
use Rattle.zs_words.specs.Names.{IsNameField, IsPrivacy, IsMode, IsOperation, IsFlag, IsSection}
use Rattle.zs_words.specs.Numbers.{IsUser, IsStream, IsMessage, IsShard, IsShardCount, IsNoticeNumber, IsMoment, IsRole, IsQueue, IsEventNumber}
use Rattle.zs_words.specs.StreamRefs.{IsStreamRef}
use Rattle.zs_words.specs.Texts.{IsText}
use Rattle.zs_words.proofs.Meanings.{one_user, one_stream, one_message, one_shard, one_shard_count, one_notice_number, one_moment, one_role, one_queue, one_event_number, one_sub_name, one_field, one_privacy, one_mode, one_operation, one_flag, one_section, one_truth, one_text, one_stream_ref, one_users, one_messages, one_types, one_fetch, SpellsOne}
use Rattle.zs_script.specs.declared.step.Setting.{Setting}
use Rattle.zs_script.specs.declared.step.Step.{Step}
use Rattle.zs_script.specs.declared.step.Step.TheVariants.{Command, OpenQueue, Register}
use Rattle.zs_script.specs.Grammar.{IsPassedOver, words_of, ValueSpells, SubPropertySpells, ArgumentsSpell, CommandSpells, AskingSpells, PushSpells, PollSpells, RestSpells, WordsSpell, Spells}
use Rattle.zs_script.specs.Readings.{ReadsWords}
use Rattle.zs_script.proofs.Combined.{one_word, two_words, three_words, four_words, one_whole, two_whole, three_whole, four_whole}

one_value : (property : SubName) → SpellsOne (ValueSpells property)
one_value sub.Color word a b is_a is_b = is_a.2 ∙ (ap value.Color (one_text word is_a.0 is_b.0 is_a.1 is_b.1) ∙ sym is_b.2)
one_value sub.IsMuted word a b is_a is_b = is_a.2 ∙ (ap value.IsMuted (one_truth word is_a.0 is_b.0 is_a.1 is_b.1) ∙ sym is_b.2)
one_value sub.PinToTop word a b is_a is_b = is_a.2 ∙ (ap value.PinToTop (one_truth word is_a.0 is_b.0 is_a.1 is_b.1) ∙ sym is_b.2)

one_sub_property : (words : List (List ℕ)) (a b : Change) → SubPropertySpells words a → SubPropertySpells words b → a ≡ b
one_sub_property [] a b is_a is_b = absurd is_a
one_sub_property (u ∷ []) a b is_a is_b = absurd is_a
one_sub_property (u ∷ v ∷ []) a b is_a is_b = absurd is_a
one_sub_property (u ∷ v ∷ w ∷ []) a b is_a is_b =
    let stream = one_stream u is_a.0 is_b.0 is_a.3 is_b.3 in
    let property : is_a.1 ≡ is_b.1 = one_sub_name v is_a.1 is_b.1 is_a.4 is_b.4 in
    let P : SubName → Type 0 = λ name. ValueSpells name w is_b.2 in
    let field = one_value is_a.1 w is_a.2 is_b.2 is_a.5 (subst P (sym property) is_b.5) in
    is_a.6 ∙ ((λ i. Streams (SubProperty (stream i) (field i))) ∙ sym is_b.6)
one_sub_property (u ∷ v ∷ w ∷ x ∷ rest) a b is_a is_b = absurd is_a

one_change : (name : CommandName) (words : List (List ℕ)) (a b : Change) → ArgumentsSpell name words a → ArgumentsSpell name words b → a ≡ b
one_change command.RealmUpdate = two_whole IsNameField IsText _ one_field one_text
one_change command.UserAdd = four_whole IsText IsText IsRole IsText _ one_text one_text one_role one_text
one_change command.UserUpdate = two_whole IsUser IsText _ one_user one_text
one_change command.UserRole = two_whole IsUser IsRole _ one_user one_role
one_change command.UserDeactivate = one_whole IsUser _ one_user
one_change command.UserReactivate = one_whole IsUser _ one_user
one_change command.StreamCreate = three_whole IsText IsText IsPrivacy _ one_text one_text one_privacy
one_change command.StreamUpdate = three_whole IsStream IsNameField IsText _ one_stream one_field one_text
one_change command.StreamPrivacy = two_whole IsStream IsPrivacy _ one_stream one_privacy
one_change command.StreamArchive = one_whole IsStream _ one_stream
one_change command.Subscribe = two_whole IsStream IsUser _ one_stream one_user
one_change command.Unsubscribe = two_whole IsStream IsUser _ one_stream one_user
one_change command.SubProperty = one_sub_property
one_change command.SendStream = three_whole IsStreamRef IsText IsText _ one_stream_ref one_text one_text
one_change command.SendDm = two_whole IsUsers IsText _ one_users one_text
one_change command.EditContent = two_whole IsMessage IsText _ one_message one_text
one_change command.Move = four_whole IsMessage IsStream IsText IsMode _ one_message one_stream one_text one_mode
one_change command.Delete = one_whole IsMessage _ one_message
one_change command.Flags = three_whole IsOperation IsFlag IsMessages _ one_operation one_flag one_messages
one_change command.ReactionAdd = two_whole IsMessage IsText _ one_message one_text
one_change command.ReactionRemove = two_whole IsMessage IsText _ one_message one_text

one_command : (name : CommandName) (words : List (List ℕ)) (a b : Step) → CommandSpells name words a → CommandSpells name words b → a ≡ b
one_command name [] a b is_a is_b = absurd is_a
one_command name (first ∷ arguments) a b is_a is_b =
    let actor = one_user first is_a.0 is_b.0 is_a.2 is_b.2 in
    let change = one_change name arguments is_a.1 is_b.1 is_a.3 is_b.3 in
    is_a.4 ∙ ((λ i. Command (actor i) (change i)) ∙ sym is_b.4)

one_asking : {W : Type 0} (make : UserId → Types → List Section → W) (words : List (List ℕ)) (a b : W) → AskingSpells make words a → AskingSpells make words b → a ≡ b
one_asking make [] a b is_a is_b = absurd is_a
one_asking make (u ∷ []) a b is_a is_b = absurd is_a
one_asking make (u ∷ v ∷ []) a b is_a is_b = absurd is_a
one_asking make (u ∷ v ∷ w ∷ []) a b is_a is_b =
    let user = one_user u is_a.0 is_b.0 is_a.3 is_b.3 in
    let meant : is_a.1 ≡ is_b.1 = one_types v is_a.1 is_b.1 is_a.4 is_b.4 in
    let P : Types → Type 0 = λ sent. IsFetch sent w is_b.2 in
    let asked = one_fetch is_a.1 w is_a.2 is_b.2 is_a.5 (subst P (sym meant) is_b.5) in
    is_a.6 ∙ ((λ i. make (user i) (meant i) (asked i)) ∙ sym is_b.6)
one_asking make (u ∷ v ∷ w ∷ x ∷ rest) a b is_a is_b = absurd is_a

one_push : (setting : Setting) (words : List (List ℕ)) (a b : Step) → PushSpells setting words a → PushSpells setting words b → a ≡ b
one_push setting [] a b is_a is_b = absurd is_a
one_push setting (u ∷ []) a b is_a is_b = one_whole (IsShard setting.shards) _ (one_shard setting.shards) (u ∷ []) a b is_a is_b
one_push setting (u ∷ v ∷ rest) a b is_a is_b = two_whole (IsShard setting.shards) IsNoticeNumber _ (one_shard setting.shards) one_notice_number (u ∷ v ∷ rest) a b is_a is_b

one_poll : (beat : Bool) (words : List (List ℕ)) (a b : Step) → PollSpells beat words a → PollSpells beat words b → a ≡ b
one_poll beat = three_whole IsUser IsQueue IsEventNumber _ one_user one_queue one_event_number

one_rest : (setting : Setting) (name : LineName) (words : List (List ℕ)) (a b : Step) → RestSpells setting name words a → RestSpells setting name words b → a ≡ b
one_rest setting (line.Command name) words a b is_a is_b = one_command name words a b is_a is_b
one_rest setting line.Shards words a b is_a is_b = one_whole IsShardCount _ one_shard_count words a b is_a.1 is_b.1
one_rest setting line.Notice words a b is_a is_b = is_a.1 ∙ sym is_b.1
one_rest setting line.Push words a b is_a is_b = one_push setting words a b is_a is_b
one_rest setting line.Open words a b is_a is_b = one_asking OpenQueue words a b is_a is_b
one_rest setting line.Fetch words a b is_a is_b = two_whole IsQueue IsSection _ one_queue one_section words a b is_a is_b
one_rest setting line.Finish words a b is_a is_b = one_whole IsQueue _ one_queue words a b is_a is_b
one_rest setting line.Register words a b is_a is_b = one_asking Register words a b is_a is_b
one_rest setting line.Poll words a b is_a is_b = one_poll false words a b is_a is_b
one_rest setting line.Beat words a b is_a is_b = one_poll true words a b is_a is_b
one_rest setting line.DeleteQueue words a b is_a is_b = two_whole IsUser IsQueue _ one_user one_queue words a b is_a is_b
one_rest setting line.Tick words a b is_a is_b = one_whole IsMoment _ one_moment words a b is_a is_b
one_rest setting line.Where words a b is_a is_b = one_whole (IsShard setting.shards) _ (one_shard setting.shards) words a b is_a is_b
one_rest setting line.View words a b is_a is_b = one_whole IsUser _ one_user words a b is_a is_b

one_words : (setting : Setting) (words : List (List ℕ)) (a b : Step) → WordsSpell setting words a → WordsSpell setting words b → a ≡ b
one_words setting [] a b is_a is_b = absurd is_a
one_words setting (first ∷ rest) a b is_a is_b =
    let same : Some is_a.0 ≡ Some is_b.0 = sym is_a.1 ∙ is_b.1 in
    let name : is_a.0 ≡ is_b.0 = cc in
    let P : LineName → Type 0 = λ n. RestSpells setting n rest b in
    one_rest setting is_a.0 rest a b is_a.2 (subst P (sym name) is_b.2)

-- a line spells one step at most
pub one_step : (setting : Setting) (line : List ℕ) (a b : Step) → Spells setting line a → Spells setting line b → a ≡ b
one_step setting line a b is_a is_b = one_words setting (words_of line) a b is_a is_b

sub_property_words : (words : List (List ℕ)) (change : Change) → SubPropertySpells words change → length words ≡ 3
sub_property_words [] change is = absurd is
sub_property_words (u ∷ []) change is = absurd is
sub_property_words (u ∷ v ∷ []) change is = absurd is
sub_property_words (u ∷ v ∷ w ∷ []) change is = refl
sub_property_words (u ∷ v ∷ w ∷ x ∷ rest) change is = absurd is

asking_words : {W : Type 0} (make : UserId → Types → List Section → W) (words : List (List ℕ)) (whole : W) → AskingSpells make words whole → length words ≡ 3
asking_words make [] whole is = absurd is
asking_words make (u ∷ []) whole is = absurd is
asking_words make (u ∷ v ∷ []) whole is = absurd is
asking_words make (u ∷ v ∷ w ∷ []) whole is = refl
asking_words make (u ∷ v ∷ w ∷ x ∷ rest) whole is = absurd is

change_words : (name : CommandName) (words : List (List ℕ)) (change : Change) → ArgumentsSpell name words change → length words ≤ 4
change_words command.RealmUpdate words change is = omega (arith, two_words IsNameField IsText _ words change is)
change_words command.UserAdd words change is = omega (arith, four_words IsText IsText IsRole IsText _ words change is)
change_words command.UserUpdate words change is = omega (arith, two_words IsUser IsText _ words change is)
change_words command.UserRole words change is = omega (arith, two_words IsUser IsRole _ words change is)
change_words command.UserDeactivate words change is = omega (arith, one_word IsUser _ words change is)
change_words command.UserReactivate words change is = omega (arith, one_word IsUser _ words change is)
change_words command.StreamCreate words change is = omega (arith, three_words IsText IsText IsPrivacy _ words change is)
change_words command.StreamUpdate words change is = omega (arith, three_words IsStream IsNameField IsText _ words change is)
change_words command.StreamPrivacy words change is = omega (arith, two_words IsStream IsPrivacy _ words change is)
change_words command.StreamArchive words change is = omega (arith, one_word IsStream _ words change is)
change_words command.Subscribe words change is = omega (arith, two_words IsStream IsUser _ words change is)
change_words command.Unsubscribe words change is = omega (arith, two_words IsStream IsUser _ words change is)
change_words command.SubProperty words change is = omega (arith, sub_property_words words change is)
change_words command.SendStream words change is = omega (arith, three_words IsStreamRef IsText IsText _ words change is)
change_words command.SendDm words change is = omega (arith, two_words IsUsers IsText _ words change is)
change_words command.EditContent words change is = omega (arith, two_words IsMessage IsText _ words change is)
change_words command.Move words change is = omega (arith, four_words IsMessage IsStream IsText IsMode _ words change is)
change_words command.Delete words change is = omega (arith, one_word IsMessage _ words change is)
change_words command.Flags words change is = omega (arith, three_words IsOperation IsFlag IsMessages _ words change is)
change_words command.ReactionAdd words change is = omega (arith, two_words IsMessage IsText _ words change is)
change_words command.ReactionRemove words change is = omega (arith, two_words IsMessage IsText _ words change is)

push_words : (setting : Setting) (words : List (List ℕ)) (step : Step) → PushSpells setting words step → length words ≤ 2
push_words setting [] step is = absurd is
push_words setting (u ∷ []) step is = omega arith
push_words setting (u ∷ v ∷ rest) step is = omega (arith, two_words (IsShard setting.shards) IsNoticeNumber _ (u ∷ v ∷ rest) step is)

rest_words : (setting : Setting) (name : LineName) (words : List (List ℕ)) (step : Step) → RestSpells setting name words step → length words ≤ 5
rest_words setting (line.Command name) [] step is = absurd is
rest_words setting (line.Command name) (first ∷ arguments) step is = omega (arith, change_words name arguments is.1 is.3)
rest_words setting line.Shards words step is = omega (arith, one_word IsShardCount _ words step is.1)
rest_words setting line.Notice words step is = omega (arith, ap length is.0)
rest_words setting line.Push words step is = omega (arith, push_words setting words step is)
rest_words setting line.Open words step is = omega (arith, asking_words OpenQueue words step is)
rest_words setting line.Fetch words step is = omega (arith, two_words IsQueue IsSection _ words step is)
rest_words setting line.Finish words step is = omega (arith, one_word IsQueue _ words step is)
rest_words setting line.Register words step is = omega (arith, asking_words Register words step is)
rest_words setting line.Poll words step is = omega (arith, three_words IsUser IsQueue IsEventNumber _ words step is)
rest_words setting line.Beat words step is = omega (arith, three_words IsUser IsQueue IsEventNumber _ words step is)
rest_words setting line.DeleteQueue words step is = omega (arith, two_words IsUser IsQueue _ words step is)
rest_words setting line.Tick words step is = omega (arith, one_word IsMoment _ words step is)
rest_words setting line.Where words step is = omega (arith, one_word (IsShard setting.shards) _ words step is)
rest_words setting line.View words step is = omega (arith, one_word IsUser _ words step is)

line_words : (setting : Setting) (words : List (List ℕ)) (step : Step) → WordsSpell setting words step → length words ≤ 6
line_words setting [] step is = absurd is
line_words setting (first ∷ rest) step is = omega (arith, rest_words setting is.0 rest step is.2)

-- more words than any line has spell no step
pub too_many : (setting : Setting) (words : List (List ℕ)) → 6 < length words → ReadsWords setting words (Err NotAStep)
too_many setting words many = record {
  step = tt;
  not_a_step = λ _ step is. absurd (omega (arith, line_words setting words step is));
  no_memory = λ other. cc;
}

hash_word : (setting : Setting) (parts : List (List ℕ)) (step : Step) → WordsSpell setting (onto_first 35 parts) step → ⊥
hash_word setting [] step is = let none : None ≡ Some is.0 = is.1 in absurd (cc)
hash_word setting (part ∷ parts) step is = let none : None ≡ Some is.0 = is.1 in absurd (cc)

-- a line that is passed over spells no step
pub passed_over : (setting : Setting) (line : List ℕ) (step : Step) → IsPassedOver line → Spells setting line step → ⊥
passed_over setting [] step passed is = let none : None ≡ Some is.0 = is.1 in absurd (cc)
passed_over setting (first ∷ rest) step passed is =
    let P : ℕ → Type 0 = λ byte. Spells setting (byte ∷ rest) step in
    hash_word setting (slice_split (λ byte. byte == 32) rest) step (subst P passed is)
