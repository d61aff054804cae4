-- The call of a request.
use Rattle.std.specs.Prelude.{◌≡◌, ⊤, ℕ, List, false, Option, Some, None, Result, Ok, Err}
use Rattle.hw_routes.specs.Actions.{action_of}
use Rattle.hw_routes.specs.Alternatives.{◌>>=◌}
use Rattle.hw_routes.specs.Marks.{mark_command}
use Rattle.hw_routes.specs.Paths.{path_in, path_of, query_of}
use Rattle.hw_routes.specs.People.{people_command}
use Rattle.hw_routes.specs.Posts.{post_command}
use Rattle.hw_routes.specs.Queues.{queue_call}
use Rattle.hw_routes.specs.Streams.{stream_call}
use Rattle.hw_routes.specs.declared.actions.Action.{Action}
use Rattle.hw_routes.specs.declared.actions.Action.TheVariants as action
use Rattle.hw_routes.specs.declared.call.Call.{Call}
use Rattle.hw_routes.specs.declared.call.Call.TheVariants.{Commit}
use Rattle.hw_routes.specs.declared.call.RouteFault.{RouteFault}
use Rattle.hw_routes.specs.declared.call.RouteFault.TheVariants.{NoRoute, BadMethod, Missing, BadValue, NoMemory}
use Rattle.hw_routes.specs.declared.paths.Path.{Path}
use Rattle.hw_values.specs.Forms.{Pairs, parameters}
use Rattle.hw_values.specs.declared.fault.ValueFault.{ValueFault}
use Rattle.hw_values.specs.declared.fault.ValueFault.TheVariants as value
use Rattle.zr_types.specs.declared.command.Command.{Command}
use Rattle.zr_types.specs.declared.command.Command.TheVariants as command

abbrev pub of_value : ValueFault → RouteFault
of_value (value.Missing param) = Missing param
of_value (value.BadValue param) = BadValue param
of_value value.NoMemory = NoMemory

abbrev pub or_method : Path → Option Action → Result Action RouteFault
or_method path None = Err (BadMethod path)
or_method path (Some it) = Ok it

abbrev pub action_by : Option Path → List ℕ → Result Action RouteFault
action_by None method = Err NoRoute
action_by (Some path) method = or_method path (action_of path method)

-- what the method does at the path; the path comes first
abbrev pub action_at : List ℕ → List ℕ → Result Action RouteFault
action_at path method = action_by (path_of path) method

abbrev pub committed : Command → Call
committed it = Commit it false

-- the call of an action, by the path's id and the parameters
abbrev pub call_of : Action → List ℕ → Pairs → Result Call ValueFault
call_of (action.Queue act) path pairs = queue_call act pairs
call_of (action.People act) path pairs = people_command act path pairs >>= λ it. Ok (committed (command.People it))
call_of (action.Streams act) path pairs = stream_call act path pairs
call_of (action.Posts act) path pairs = post_command act path pairs >>= λ it. Ok (committed (command.Posts it))
call_of (action.Marks act) path pairs = mark_command act path pairs >>= λ it. Ok (committed (command.Marks it))

abbrev pub of_values : Result Call ValueFault → Result Call RouteFault
of_values (Ok call) = Ok call
of_values (Err fault) = Err (of_value fault)

abbrev pub routed_by : Result Action RouteFault → List ℕ → Pairs → Result Call RouteFault
routed_by (Ok it) path pairs = of_values (call_of it path pairs)
routed_by (Err fault) path pairs = Err fault

-- what a request asks, or the first reason why it asks nothing: its path, its method, the id in its path, its parameters
unfoldable pub routed : List ℕ → List ℕ → List ℕ → Result Call RouteFault
routed method target body =
    routed_by (action_at (path_in target) method) (path_in target) (parameters (query_of target) body)

-- the answer is this one, unless memory ran out
abbrev pub Routes : {A : Type 0} → Result A RouteFault → Result A RouteFault → Type 0
Routes (Ok call) routed = routed ≡ Ok call
Routes (Err NoRoute) routed = routed ≡ Err NoRoute
Routes (Err (BadMethod path)) routed = routed ≡ Err (BadMethod path)
Routes (Err (Missing param)) routed = routed ≡ Err (Missing param)
Routes (Err (BadValue param)) routed = routed ≡ Err (BadValue param)
Routes (Err NoMemory) routed = ⊤
