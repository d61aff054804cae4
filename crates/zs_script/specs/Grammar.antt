-- The grammar of a script's lines: which step a line spells.
use Rattle.std.specs.Prelude.{◌≡◌, ℕ, Bool, true, false, ◌==◌, List, [], ◌∷◌, Some}
use Rattle.std.specs.List.{slice_split}
use Rattle.ev_base.specs.declared.ids.UserId.{UserId}
use Rattle.ev_base.specs.declared.ids.StreamId.{StreamId}
use Rattle.ev_types.specs.declared.kind.Types.{Types}
use Rattle.ev_types.specs.declared.section.Section.{Section}
use Rattle.zr_types.specs.declared.command.SubField.{SubField}
use Rattle.zr_types.specs.declared.command.SubField.TheVariants as value
use Rattle.zr_types.specs.declared.command.Command.{Command as Change}
use Rattle.zr_types.specs.declared.command.Command.TheVariants.{People, Streams, Posts, Marks}
use Rattle.zr_types.specs.declared.command.PeopleCommand.TheVariants.{RealmUpdate, UserAdd, UserUpdate, UserRole, UserDeactivate, UserReactivate}
use Rattle.zr_types.specs.declared.command.StreamCommand.TheVariants.{Create, Update, SetPrivacy, Archive, Subscribe, Unsubscribe, SubProperty}
use Rattle.zr_types.specs.declared.command.PostCommand.TheVariants.{SendStream, SendDm, EditContent, Move, Delete}
use Rattle.zr_types.specs.declared.command.MarkCommand.TheVariants.{Flags, ReactionAdd, ReactionRemove}
use Rattle.zs_words.specs.declared.names.CommandName.{CommandName}
use Rattle.zs_words.specs.declared.names.CommandName.TheVariants as command
use Rattle.zs_words.specs.declared.names.LineName.{LineName}
use Rattle.zs_words.specs.declared.names.LineName.TheVariants as line
use Rattle.zs_words.specs.declared.names.SubProperty.{SubProperty as SubName}
use Rattle.zs_words.specs.declared.names.SubProperty.TheVariants as sub
use Rattle.zs_script.specs.declared.step.Setting.{Setting}
use Rattle.zs_script.specs.declared.step.Step.{Step}
use Rattle.zs_script.specs.declared.step.Step.TheVariants.{Command, Shards, NoticeAll, Push, PushFrom, OpenQueue, Fetch, Finish, Register, Poll, DeleteQueue, Tick, Locate, View}
use Rattle.zs_words.specs.Lists.{IsUsers, IsMessages, IsTypes, IsFetch}
use Rattle.zs_words.specs.Names.{adds, IsLineName, IsSubProperty, IsNameField, IsPrivacy, IsMode, IsOperation, IsFlag, IsSection, IsTruth}
use Rattle.zs_words.specs.Numbers.{IsUser, IsStream, IsMessage, IsShard, IsShardCount, IsNoticeNumber, IsMoment, IsRole, IsQueue, IsEventNumber}
use Rattle.zs_words.specs.StreamRefs.{IsStreamRef}
use Rattle.zs_words.specs.Texts.{IsText}

-- an empty line and one that begins with # are passed over
abbrev pub IsPassedOver : List ℕ → Type 0
IsPassedOver [] = Unit {0}
IsPassedOver (first ∷ rest) = first ≡ 35

-- the words of a line: what stands between its spaces
abbrev pub words_of : List ℕ → List (List ℕ)
words_of line = slice_split (λ byte. byte == 32) line

-- one word spells a value, of which the whole is made; two words; three; four
abbrev pub One : {A W : Type 0} → (List ℕ → A → Type 0) → (A → W) → List (List ℕ) → W → Type 0
One first make (a ∷ []) whole = (x : _) × first a x × (whole ≡ make x)
One first make words whole = ⊥

abbrev pub Two : {A B W : Type 0} → (List ℕ → A → Type 0) → (List ℕ → B → Type 0) → (A → B → W) → List (List ℕ) → W → Type 0
Two first second make (a ∷ b ∷ []) whole = (x : _) × (y : _) × first a x × second b y × (whole ≡ make x y)
Two first second make words whole = ⊥

abbrev pub Three : {A B C W : Type 0} → (List ℕ → A → Type 0) → (List ℕ → B → Type 0) → (List ℕ → C → Type 0) → (A → B → C → W) → List (List ℕ) → W → Type 0
Three first second third make (a ∷ b ∷ c ∷ []) whole =
    (x : _) × (y : _) × (z : _) × first a x × second b y × third c z × (whole ≡ make x y z)
Three first second third make words whole = ⊥

abbrev pub Four : {A B C D W : Type 0} → (List ℕ → A → Type 0) → (List ℕ → B → Type 0) → (List ℕ → C → Type 0) → (List ℕ → D → Type 0) → (A → B → C → D → W) → List (List ℕ) → W → Type 0
Four first second third fourth make (a ∷ b ∷ c ∷ d ∷ []) whole =
    (x : _) × (y : _) × (z : _) × (u : _)
    × first a x × second b y × third c z × fourth d u × (whole ≡ make x y z u)
Four first second third fourth make words whole = ⊥

-- the words spell a property of a subscription with its value
abbrev pub ValueSpells : SubName → List ℕ → SubField → Type 0
ValueSpells sub.Color word field = (color : List ℕ) × IsText word color × (field ≡ value.Color color)
ValueSpells sub.IsMuted word field = (muted : Bool) × IsTruth word muted × (field ≡ value.IsMuted muted)
ValueSpells sub.PinToTop word field = (pinned : Bool) × IsTruth word pinned × (field ≡ value.PinToTop pinned)

abbrev pub SubPropertySpells : List (List ℕ) → Change → Type 0
SubPropertySpells (a ∷ b ∷ c ∷ []) whole =
    (stream : StreamId) × (property : SubName) × (field : SubField)
    × IsStream a stream × IsSubProperty b property × ValueSpells property c field
    × (whole ≡ Streams (SubProperty stream field))
SubPropertySpells words whole = ⊥

-- the words after the actor spell the command of this name
abbrev pub ArgumentsSpell : CommandName → List (List ℕ) → Change → Type 0
ArgumentsSpell command.RealmUpdate = Two IsNameField IsText (λ property value. People (RealmUpdate property value))
ArgumentsSpell command.UserAdd = Four IsText IsText IsRole IsText (λ email full_name role key. People (UserAdd email full_name role key))
ArgumentsSpell command.UserUpdate = Two IsUser IsText (λ user full_name. People (UserUpdate user full_name))
ArgumentsSpell command.UserRole = Two IsUser IsRole (λ user role. People (UserRole user role))
ArgumentsSpell command.UserDeactivate = One IsUser (λ user. People (UserDeactivate user))
ArgumentsSpell command.UserReactivate = One IsUser (λ user. People (UserReactivate user))
ArgumentsSpell command.StreamCreate = Three IsText IsText IsPrivacy (λ name description privacy. Streams (Create name description privacy))
ArgumentsSpell command.StreamUpdate = Three IsStream IsNameField IsText (λ stream property value. Streams (Update stream property value))
ArgumentsSpell command.StreamPrivacy = Two IsStream IsPrivacy (λ stream privacy. Streams (SetPrivacy stream privacy))
ArgumentsSpell command.StreamArchive = One IsStream (λ stream. Streams (Archive stream))
ArgumentsSpell command.Subscribe = Two IsStream IsUser (λ stream user. Streams (Subscribe stream user))
ArgumentsSpell command.Unsubscribe = Two IsStream IsUser (λ stream user. Streams (Unsubscribe stream user))
ArgumentsSpell command.SubProperty = SubPropertySpells
ArgumentsSpell command.SendStream = Three IsStreamRef IsText IsText (λ to topic content. Posts (SendStream to topic content))
ArgumentsSpell command.SendDm = Two IsUsers IsText (λ users content. Posts (SendDm users content))
ArgumentsSpell command.EditContent = Two IsMessage IsText (λ message content. Posts (EditContent message content))
ArgumentsSpell command.Move = Four IsMessage IsStream IsText IsMode (λ message stream topic mode. Posts (Move message (Some stream) (Some topic) mode))
ArgumentsSpell command.Delete = One IsMessage (λ message. Posts (Delete message))
ArgumentsSpell command.Flags = Three IsOperation IsFlag IsMessages (λ operation flag messages. Marks (Flags (adds operation) flag messages))
ArgumentsSpell command.ReactionAdd = Two IsMessage IsText (λ message emoji. Marks (ReactionAdd message emoji))
ArgumentsSpell command.ReactionRemove = Two IsMessage IsText (λ message emoji. Marks (ReactionRemove message emoji))

-- the words after its name spell a command: the actor and the arguments
abbrev pub CommandSpells : CommandName → List (List ℕ) → Step → Type 0
CommandSpells name [] step = ⊥
CommandSpells name (first ∷ arguments) step =
    (actor : UserId) × (change : Change)
    × IsUser first actor × ArgumentsSpell name arguments change × (step ≡ Command actor change)

-- the words after its name spell an opening or a registration: the user, the types, and what is fetched
abbrev pub AskingSpells : {W : Type 0} → (UserId → Types → List Section → W) → List (List ℕ) → W → Type 0
AskingSpells make (a ∷ b ∷ c ∷ []) whole =
    (user : UserId) × (types : Types) × (asked : List Section)
    × IsUser a user × IsTypes b types × IsFetch types c asked × (whole ≡ make user types asked)
AskingSpells make words whole = ⊥

-- the word after its name spells a number of shards; only the first step may
abbrev pub ShardsSpells : Setting → List (List ℕ) → Step → Type 0
ShardsSpells setting rest step = (setting.is_first ≡ true) × One IsShardCount Shards rest step

-- the words after its name spell a push of all that a shard lacks, or from a notice on
abbrev pub PushSpells : Setting → List (List ℕ) → Step → Type 0
PushSpells setting (a ∷ []) step = One (IsShard setting.shards) Push (a ∷ []) step
PushSpells setting rest step = Two (IsShard setting.shards) IsNoticeNumber PushFrom rest step

-- the words after its name spell a poll, with a heartbeat or without
abbrev pub PollSpells : Bool → List (List ℕ) → Step → Type 0
PollSpells beat rest step = Three IsUser IsQueue IsEventNumber (λ user queue after. Poll user queue after beat) rest step

-- the words after this name spell the step
abbrev pub RestSpells : Setting → LineName → List (List ℕ) → Step → Type 0
RestSpells setting (line.Command name) rest step = CommandSpells name rest step
RestSpells setting line.Shards rest step = ShardsSpells setting rest step
RestSpells setting line.Notice rest step = (rest ≡ []) × (step ≡ NoticeAll)
RestSpells setting line.Push rest step = PushSpells setting rest step
RestSpells setting line.Open rest step = AskingSpells OpenQueue rest step
RestSpells setting line.Fetch rest step = Two IsQueue IsSection Fetch rest step
RestSpells setting line.Finish rest step = One IsQueue Finish rest step
RestSpells setting line.Register rest step = AskingSpells Register rest step
RestSpells setting line.Poll rest step = PollSpells false rest step
RestSpells setting line.Beat rest step = PollSpells true rest step
RestSpells setting line.DeleteQueue rest step = Two IsUser IsQueue DeleteQueue rest step
RestSpells setting line.Tick rest step = One IsMoment Tick rest step
RestSpells setting line.Where rest step = One (IsShard setting.shards) Locate rest step
RestSpells setting line.View rest step = One IsUser View rest step

-- the words spell the step: the first is a line's name
abbrev pub WordsSpell : Setting → List (List ℕ) → Step → Type 0
WordsSpell setting [] step = ⊥
WordsSpell setting (first ∷ rest) step = (name : LineName) × IsLineName first name × RestSpells setting name rest step

-- the line spells the step, after what the steps before leave to it
abbrev pub Spells : Setting → List ℕ → Step → Type 0
Spells setting line step = WordsSpell setting (words_of line) step

-- the line isn't passed over and spells no step
abbrev pub IsNoStep : Setting → List ℕ → Type 0
IsNoStep setting line = (IsPassedOver line → ⊥) × ((step : Step) → Spells setting line step → ⊥)

-- a step for which memory is taken
abbrev pub TakesMemory : Step → Type 0
TakesMemory (Command actor change) = Unit {0}
TakesMemory (OpenQueue user types asked) = Unit {0}
TakesMemory (Register user types asked) = Unit {0}
TakesMemory step = ⊥
