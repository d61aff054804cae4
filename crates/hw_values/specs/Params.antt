-- The names of parameters.
use Rattle.std.specs.Prelude.{ℕ, List, codes}
use Rattle.hw_values.specs.declared.param.Param.{Param}
use Rattle.hw_values.specs.declared.param.Param.TheVariants as param

-- the name by which a request gives a parameter
abbrev pub param_name : Param → List ℕ
param_name param.AllPublicStreams = codes "all_public_streams"
param_name param.ApiKey = codes "api_key"
param_name param.ApplyMarkdown = codes "apply_markdown"
param_name param.Content = codes "content"
param_name param.Description = codes "description"
param_name param.DontBlock = codes "dont_block"
param_name param.Email = codes "email"
param_name param.EmojiName = codes "emoji_name"
param_name param.EventTypes = codes "event_types"
param_name param.FetchEventTypes = codes "fetch_event_types"
param_name param.Flag = codes "flag"
param_name param.FullName = codes "full_name"
param_name param.HistoryPublic = codes "history_public_to_subscribers"
param_name param.Id = codes "id"
param_name param.InviteOnly = codes "invite_only"
param_name param.IsPrivate = codes "is_private"
param_name param.LastEventId = codes "last_event_id"
param_name param.Messages = codes "messages"
param_name param.Name = codes "name"
param_name param.Narrow = codes "narrow"
param_name param.NewName = codes "new_name"
param_name param.Operation = codes "op"
param_name param.PropagateMode = codes "propagate_mode"
param_name param.Property = codes "property"
param_name param.QueueId = codes "queue_id"
param_name param.Role = codes "role"
param_name param.StreamId = codes "stream_id"
param_name param.To = codes "to"
param_name param.Topic = codes "topic"
param_name param.Type = codes "type"
param_name param.UserId = codes "user_id"
param_name param.Value = codes "value"
