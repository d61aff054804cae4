use Rattle.std.specs.Bool.{⊤}
use Rattle.std.proofs.Common.{◌∙◌, ◌++◌, ◌<◌, List, Some, ap, arith, get_or, is_none, length, sym}
use Rattle.std.specs.List.{filter_map}
use Rattle.std.specs.Option.{option_to_list}
use Rattle.ev_rows.specs.Rows.{only_if, row_at}
use Rattle.ev_base.specs.Orders.{stream_user_cmp}
use Rattle.ev_base.specs.declared.ids.StreamId.{StreamId}
use Rattle.ev_base.specs.declared.ids.UserId.{UserId}
use Rattle.ev_types.specs.Changes.{Peers}
use Rattle.ev_laws.proofs.Loops.{filter_map_next, take_whole}
use Rattle.ev_laws.proofs.Ranges.{new_among_rows}
use Rattle.ev_laws.proofs.changing.peers.new_peers.Goals as goal

pub loop-row-preserved : goal.loop-row-preserved
loop-row-preserved c =
    let rows = c.subscribers_of-row-items.result.now in
    let within : c.loop-row.row-index < length rows = omega arith in
    let none : (StreamId × UserId) × ⊤ = ((record { 0 = 0 }, record { 0 = 0 }), tt) in
    let is_new = λ (row : (StreamId × UserId) × ⊤). only_if (is_none (row_at stream_user_cmp c.args.before.now.rows row.0)) (Some row.0.1) in
    c.in_ok-push_if_new.ensures
    ∙ ap (λ (l : List UserId). l ++ option_to_list (is_new (get_or rows c.loop-row.row-index none))) c.loop-row.invariant
    ∙ sym (filter_map_next is_new rows c.loop-row.row-index none within)

pub returns : goal.returns
returns c =
    let before = c.args.before.now.rows in
    let rows = c.subscribers_of-row-items.result.now in
    c.loop-row.invariant
    ∙ ap (λ (all : Peers). filter_map (λ row. only_if (is_none (row_at stream_user_cmp before row.0)) (Some row.0.1)) all)
    (take_whole rows c.loop-row.row-index (omega arith) ∙ c.subscribers_of-row-items.ensures)
    ∙ new_among_rows c.args.stream before c.args.after.now.rows
