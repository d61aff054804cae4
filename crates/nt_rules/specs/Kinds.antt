-- Which of the four kinds a command is.
use Rattle.std.specs.Prelude.{Bool, true, false}
use Rattle.zr_types.specs.declared.command.Command.{Command}
use Rattle.zr_types.specs.declared.command.Command.TheVariants.{People, Streams, Posts, Marks}

-- a command of people
abbrev pub is_of_people : Command → Bool
is_of_people (People command) = true
is_of_people command = false

-- a command of streams and subscriptions
abbrev pub is_of_streams : Command → Bool
is_of_streams (Streams command) = true
is_of_streams command = false

-- a command of messages
abbrev pub is_of_posts : Command → Bool
is_of_posts (Posts command) = true
is_of_posts command = false

-- a command of flags and reactions
abbrev pub is_of_marks : Command → Bool
is_of_marks (Marks command) = true
is_of_marks command = false
