-- The path that bytes are, where they are text and where they aren't.
use Rattle.std.proofs.Common.{◌≡◌, ◌∙◌, ℕ, Bool, true, false, cond, List, None, option_map, ap, ap₂, refl, sym}
use Rattle.std.specs.Str.{IsUtf8, is_utf8}
use Rattle.std.proofs.lemmas.Str.{IsUtf8-from_is_utf8, is_utf8-from_IsUtf8}
use Rattle.matchit.specs.Seek.{first}
use Rattle.hw_routes.specs.Paths.{PathRoutes, path_of, routes}

-- text is what the routes match
pub path_of_text : (router : PathRoutes) (text path : List ℕ) → router ≡ routes → text ≡ path → IsUtf8 path → option_map (λ route. route.value) (first router text) ≡ path_of path
unfolding path_of
path_of_text router text path same is valid =
    ap₂ (λ (r : PathRoutes) (t : List ℕ). option_map (λ route. route.value) (first r t)) same is
    ∙ sym (ap (λ b. cond b (option_map (λ route. route.value) (first routes path)) None) (is_utf8-from_IsUtf8 path valid))

-- and bytes that are no text are no path
pub no_path : (path : List ℕ) → (IsUtf8 path → ⊥) → None ≡ path_of path
unfolding path_of
no_path path wrong = go (is_utf8 path) refl
  where
    go : (b : Bool) → is_utf8 path ≡ b → None ≡ cond b (option_map (λ route. route.value) (first routes path)) None
    go true is = absurd (wrong (IsUtf8-from_is_utf8 path is))
    go false is = refl
