use Rattle.std.proofs.Common.{◌≡◌, List, [], ◌∷◌, Some, map, option_map, refl, ap, sym, ◌∙◌}
use Rattle.serde_json.specs.Data.{Data, null, boolean, number, string, array, object}
use Rattle.serde_json.specs.Find.{as_array}
use Rattle.serde_json.specs.View.{items_of, items_view, view}
use Rattle.hw_values.specs.Json.{elements_of, list_of}
use Rattle.hw_values.proofs.json.elements_of.Goals as goal

list_of-items_of : (ds : List Data) → list_of (items_of ds) ≡ ds
list_of-items_of [] = refl
list_of-items_of (d ∷ ds) = ap (λ xs. d ∷ xs) (list_of-items_of ds)

elements_of-as_array : (d : Data) → elements_of d ≡ option_map list_of (as_array d)
elements_of-as_array null = refl
elements_of-as_array (boolean truth) = refl
elements_of-as_array (number n) = refl
elements_of-as_array (string text) = refl
elements_of-as_array (array ds) = refl
elements_of-as_array (object ms) = refl

pub returns-in-Some : goal.returns-in-Some
returns-in-Some c =
    let items = c.in-Some.list.now.items in
    let found : Some (items_view items) ≡ as_array (view c.args.value.now) = c.in-Some.ensures in
    ap (λ xs. Some (map view xs)) c.as_slice.ensures.value
    ∙ sym (ap Some (list_of-items_of (map view items)))
    ∙ ap (option_map list_of) found
    ∙ sym (elements_of-as_array _)
