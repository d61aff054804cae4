use Rattle.std.proofs.Common.{◌≡◌, Some, None, map, option_map, refl, ap, sym, ◌∙◌}
use Rattle.serde_json.specs.Data.{Data, null, boolean, number, string, array, object}
use Rattle.serde_json.specs.Find.{as_array}
use Rattle.serde_json.specs.View.{items_view, view}
use Rattle.ev_json.specs.Fields.{array_of, list_of}
use Rattle.ev_json.proofs.Lists.{list_of-items_of}
use Rattle.ev_json.proofs.fields.array_of.Goals as goal

array_of-as_array : (d : Data) → array_of d ≡ option_map list_of (as_array d)
array_of-as_array null = refl
array_of-as_array (boolean b) = refl
array_of-as_array (number n) = refl
array_of-as_array (string s) = refl
array_of-as_array (array ds) = refl
array_of-as_array (object ms) = refl

pub returns-in-Some : goal.returns-in-Some
returns-in-Some c =
    let items = c.in-Some.list.now.items in
    let found : Some (items_view items) ≡ as_array (view c.args.value.now) = c.in-Some.ensures in
    ap (λ xs. Some (map view xs)) c.as_slice.ensures.value
    ∙ sym (ap Some (list_of-items_of (map view items)))
    ∙ ap (option_map list_of) found
    ∙ sym (array_of-as_array _)

pub returns-in-None : goal.returns-in-None
returns-in-None c =
    let found : None ≡ as_array (view c.args.value.now) = c.in-None.ensures in
    ap (option_map list_of) found ∙ sym (array_of-as_array _)
