-- The paths that have routes.
use Rattle.std.specs.Prelude.{ℕ, List, [], codes, if◌then◌else◌, Option, None, option_map, Result, Ok, Err}
use Rattle.std.specs.Str.{is_utf8}
use Rattle.form_urlencoded.specs.Form.{split_once}
use Rattle.matchit.specs.Order.{placed}
use Rattle.matchit.specs.Route.{Scan, parse_route}
use Rattle.matchit.specs.Router.{RouteOf, route_from}
use Rattle.matchit.specs.Rows.{RowsOf}
use Rattle.matchit.specs.Seek.{first}
use Rattle.matchit.specs.declared.error.InsertError.{InsertError}
use Rattle.hw_routes.specs.declared.paths.Path.{Path}
use Rattle.hw_routes.specs.declared.paths.Path.TheVariants as path

-- routes, each with the path that it leads to
abbrev pub PathRoutes : Type 0
PathRoutes = RowsOf (RouteOf Path)

abbrev pub with_scan : Result Scan InsertError → Path → PathRoutes → PathRoutes
with_scan (Ok scan) value others = placed (scan.pattern, route_from scan value) others
with_scan (Err fault) value others = others

-- one route more
abbrev pub with_route : List ℕ → Path → PathRoutes → PathRoutes
with_route text value others = with_scan (parse_route text) value others

-- all routes
unfoldable pub routes : PathRoutes
routes =
    with_route (codes "/api/v1/realm") path.Realm
    (with_route (codes "/api/v1/streams/{id}") path.Stream
    (with_route (codes "/api/v1/users/me/subscriptions/properties") path.SubscriptionProperties
    (with_route (codes "/api/v1/users/me/subscriptions") path.Subscriptions
    (with_route (codes "/api/v1/users/{id}/reactivate") path.UserReactivate
    (with_route (codes "/api/v1/users/{id}") path.User
    (with_route (codes "/api/v1/users") path.Users
    (with_route (codes "/api/v1/messages/{id}/reactions") path.MessageReactions
    (with_route (codes "/api/v1/messages/{id}") path.Message
    (with_route (codes "/api/v1/messages/flags") path.MessageFlags
    (with_route (codes "/api/v1/messages") path.Messages
    (with_route (codes "/api/v1/events") path.Events
    (with_route (codes "/api/v1/register") path.Register
    []))))))))))))

-- the path that text is, as the router matches it
unfoldable pub path_of : List ℕ → Option Path
path_of text = if is_utf8 text then option_map (λ route. route.value) (first routes text) else None

-- what a target has before its first question mark
abbrev pub path_in : List ℕ → List ℕ
path_in target = (split_once 63 target).0

-- and what it has behind it
abbrev pub query_of : List ℕ → List ℕ
query_of target = (split_once 63 target).1

abbrev pub behind_slash : List ℕ → List ℕ
behind_slash path = (split_once 47 path).1

-- what stands between the fourth slash and the fifth, which is the id in all paths that have one
unfoldable pub id_piece : List ℕ → List ℕ
id_piece path = (split_once 47 (behind_slash (behind_slash (behind_slash (behind_slash path))))).0

-- the methods of a path, as the field `Allow` lists them
abbrev pub allowed : Path → List ℕ
allowed path.Register = codes "POST"
allowed path.Events = codes "GET, DELETE"
allowed path.Messages = codes "POST"
allowed path.MessageFlags = codes "POST"
allowed path.Message = codes "PATCH, DELETE"
allowed path.MessageReactions = codes "POST, DELETE"
allowed path.Users = codes "POST"
allowed path.User = codes "PATCH, DELETE"
allowed path.UserReactivate = codes "POST"
allowed path.Subscriptions = codes "POST, DELETE"
allowed path.SubscriptionProperties = codes "POST"
allowed path.Stream = codes "PATCH, DELETE"
allowed path.Realm = codes "PATCH"
