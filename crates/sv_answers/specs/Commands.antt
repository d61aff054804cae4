-- The commands of calls.
use Rattle.ev_base.specs.declared.ids.UserId.{UserId}
use Rattle.zr_types.specs.declared.command.Command.{Command}
use Rattle.zr_types.specs.declared.command.Command.TheVariants as command
use Rattle.zr_types.specs.declared.command.MarkCommand.TheVariants as mark
use Rattle.zr_types.specs.declared.command.PeopleCommand.TheVariants as people
use Rattle.zr_types.specs.declared.command.PostCommand.TheVariants as post
use Rattle.zr_types.specs.declared.command.StreamCommand.TheVariants as stream
use Rattle.sv_answers.specs.declared.commands.Made.{Made}
use Rattle.sv_answers.specs.declared.commands.Made.TheVariants as made

-- what the answer to an accepted command tells
abbrev pub made_by : Command → Made
made_by (command.Posts (post.SendStream to topic content)) = made.Message
made_by (command.Posts (post.SendDm users content)) = made.Message
made_by (command.People (people.UserAdd email full_name role key)) = made.User
made_by (command.Streams (stream.Create name description privacy)) = made.Stream
made_by (command.Marks (mark.Flags add flag messages)) = made.Flags
made_by other = made.Nothing

-- the command, where the subscription that it makes or ends is this user's
abbrev pub for_user : Command → UserId → Command
for_user (command.Streams (stream.Subscribe which other)) user = command.Streams (stream.Subscribe which user)
for_user (command.Streams (stream.Unsubscribe which other)) user = command.Streams (stream.Unsubscribe which user)
for_user other user = other
