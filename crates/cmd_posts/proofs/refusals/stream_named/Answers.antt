-- The first row that passes is found.
use Rattle.std.proofs.Common.{◌≡◌, ◌∙◌, ◌&&◌, option_map, sym, rules, tests}
use Rattle.std.specs.Prelude.{bytes_eq, find}
use Rattle.std.proofs.lemmas.Iterator.{YieldsList-from_slice}
use Rattle.std.proofs.lemmas.Iterator.Search.{find_from_yields_List}
use Rattle.ev_base.specs.declared.ids.StreamId.{StreamId}
use Rattle.zr_types.specs.declared.streams.Stream.{Stream}
use Rattle.zr_types.specs.Visibility.{sees_stream}
use Rattle.cmd_posts.proofs.FoundRows.{first_of-filter}
use Rattle.cmd_posts.proofs.refusals.stream_named.Goals as goal

pub returns : goal.returns
returns c =
    let rows = c.args.realm.now.state.tables.streams in
    let test = λ (row : StreamId × Stream). bytes_eq row.1.name c.args.name.now && sees_stream c.args.realm.now.state.tables c.args.user row.0 in
    let found : option_map (λ row. row.now) c.find.result ≡ find test rows =
    find_from_yields_List test _ _ c.find.result c.find.ensures.ran (YieldsList-from_slice rows (cc)) (λ x b q called. search (rules, tests)) in
    let read : c.map.result ≡ option_map (λ (row : StreamId × Stream). row.0) (find test rows) = search (rules, found) in
    read ∙ sym (first_of-filter test rows)
