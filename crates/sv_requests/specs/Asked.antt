-- What a request asks, and by whose credentials.
use Rattle.std.specs.Prelude.{◌≡◌, ◌⊎◌, List, ℕ, Option, option_map, Result, Ok, Err}
use Rattle.hw_auth.specs.Basic.{Answers}
use Rattle.hw_auth.specs.declared.answer.AuthFault.{AuthFault}
use Rattle.hw_auth.specs.declared.answer.AuthFault.TheVariants as auth
use Rattle.hw_auth.specs.declared.answer.Credentials.{Credentials}
use Rattle.hw_replies.specs.declared.problem.Problem.{Problem}
use Rattle.hw_replies.specs.declared.problem.Problem.TheVariants as problem
use Rattle.hw_routes.specs.Routed.{Routes, routed}
use Rattle.hw_routes.specs.declared.call.Call.{Call}
use Rattle.hw_routes.specs.declared.call.RouteFault.{RouteFault}
use Rattle.hw_routes.specs.declared.call.RouteFault.TheVariants as route
use Rattle.hw_wire.specs.declared.requests.Request.{Request}
use Rattle.sv_requests.specs.declared.asked.Asked.{Asked}

abbrev pub problem_of_route : RouteFault → Problem
problem_of_route route.NoRoute = problem.NoRoute
problem_of_route (route.BadMethod path) = problem.BadMethod path
problem_of_route (route.Missing param) = problem.Missing param
problem_of_route (route.BadValue param) = problem.BadValue param
problem_of_route route.NoMemory = problem.NoMemory

-- without credentials that can be read nobody is logged in
abbrev pub problem_of_auth : AuthFault → Problem
problem_of_auth auth.NoMemory = problem.NoMemory
problem_of_auth fault = problem.NotLoggedIn

-- the value of the field with the credentials
abbrev pub header_of : Request → Option (List ℕ)
header_of request = option_map (λ value. value.items) request.authorization

-- the call that the request's route is, or why there is none
abbrev pub route_of : Request → Result Call RouteFault
route_of request = routed request.method request.target.items request.body.items

-- a call with what was found of credentials
abbrev pub Joins : Call → Result Credentials AuthFault → Result Asked Problem → Type 0
Joins call (Ok found) result = result ≡ Ok (record { call = call; credentials = found })
Joins call (Err fault) result = result ≡ Err (problem_of_auth fault)

-- this is wrong with the route
abbrev pub IsWrongRoute : Request → Problem → Type 0
IsWrongRoute request what = (fault : RouteFault) × Routes {A = Call} (Err fault) (route_of request) × (what ≡ problem_of_route fault)

-- there is a route, and this is wrong with the credentials
abbrev pub IsWrongAuth : Request → Problem → Type 0
IsWrongAuth request what =
    (call : Call) × (fault : AuthFault) × Routes (Ok call) (route_of request) × Answers (header_of request) (Err fault) × (what ≡ problem_of_auth fault)

-- a request asks this, or this is wrong with it
abbrev pub IsAsked : Request → Result Asked Problem → Type 0
IsAsked request (Ok asked) = Routes (Ok asked.call) (route_of request) × Answers (header_of request) (Ok asked.credentials)
IsAsked request (Err what) = IsWrongRoute request what ⊎ IsWrongAuth request what
