-- What the methods of each path do.
use Rattle.std.specs.Prelude.{ℕ, List, [], ◌∷◌, codes, bytes_eq, if◌then◌else◌, Option, Some, None}
use Rattle.hw_routes.specs.declared.actions.Action.{Action}
use Rattle.hw_routes.specs.declared.actions.Action.TheVariants.{Queue, People, Streams, Posts, Marks}
use Rattle.hw_routes.specs.declared.actions.MarkAction.TheVariants as mark
use Rattle.hw_routes.specs.declared.actions.PeopleAction.TheVariants as people
use Rattle.hw_routes.specs.declared.actions.PostAction.TheVariants as post
use Rattle.hw_routes.specs.declared.actions.QueueAction.TheVariants as queue
use Rattle.hw_routes.specs.declared.actions.StreamAction.TheVariants as stream
use Rattle.hw_routes.specs.declared.actions.Verb.{Verb}
use Rattle.hw_routes.specs.declared.actions.Verb.TheVariants.{Get, Post, Patch, Delete}
use Rattle.hw_routes.specs.declared.paths.Path.{Path}
use Rattle.hw_routes.specs.declared.paths.Path.TheVariants as path

abbrev pub method_name : Verb → List ℕ
method_name Get = codes "GET"
method_name Post = codes "POST"
method_name Patch = codes "PATCH"
method_name Delete = codes "DELETE"

-- the methods of a path, and what each does
abbrev pub actions_at : Path → List (Verb × Action)
actions_at path.Register = (Post, Queue queue.Register) ∷ []
actions_at path.Events = (Get, Queue queue.Poll) ∷ (Delete, Queue queue.Delete) ∷ []
actions_at path.Messages = (Post, Posts post.Send) ∷ []
actions_at path.MessageFlags = (Post, Marks mark.ChangeFlags) ∷ []
actions_at path.Message = (Patch, Posts post.Change) ∷ (Delete, Posts post.Delete) ∷ []
actions_at path.MessageReactions = (Post, Marks mark.AddReaction) ∷ (Delete, Marks mark.RemoveReaction) ∷ []
actions_at path.Users = (Post, People people.Add) ∷ []
actions_at path.User = (Patch, People people.Change) ∷ (Delete, People people.Deactivate) ∷ []
actions_at path.UserReactivate = (Post, People people.Reactivate) ∷ []
actions_at path.Subscriptions = (Post, Streams stream.Join) ∷ (Delete, Streams stream.Leave) ∷ []
actions_at path.SubscriptionProperties = (Post, Streams stream.SetProperty) ∷ []
actions_at path.Stream = (Patch, Streams stream.Change) ∷ (Delete, Streams stream.Archive) ∷ []
actions_at path.Realm = (Patch, People people.ChangeRealm) ∷ []

-- what the first row of this method does
abbrev pub action_in : List (Verb × Action) → List ℕ → Option Action
action_in [] method = None
action_in (row ∷ rows) method = if bytes_eq (method_name row.0) method then Some row.1 else action_in rows method

-- what the method does at the path
unfoldable pub action_of : Path → List ℕ → Option Action
action_of path method = action_in (actions_at path) method
