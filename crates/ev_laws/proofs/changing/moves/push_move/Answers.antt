use Rattle.std.proofs.Common.{◌≡◌, ◌∙◌, List, [], ◌∷◌, ◌++◌, ap, rules}
use Rattle.std.specs.Option.{unwrap_or}
use Rattle.std.specs.BTreeMap.{insert_entry}
use Rattle.ev_rows.specs.Rows.{row_at}
use Rattle.ev_base.specs.declared.ids.MessageId.{MessageId}
use Rattle.ev_types.specs.Changes.{Moves, StreamPlace, place_cmp, with_move}
use Rattle.ev_laws.proofs.Moving.{put_there, put_twice}
use Rattle.ev_laws.proofs.changing.moves.push_move.Goals as goal

-- the place has a row already
pub put-requires : goal.put-requires
put-requires c =
    let to : StreamPlace = c.args.to in
    let rows : Moves = c.reserve.new.self.rows in
    let copy : c.in_ok-clone.field-0 ≡ to = search rules in
    let there : c.take_moved-messages.new.moves.rows ≡ insert_entry place_cmp rows to [] =
    c.take_moved-messages.ensures.rows ∙ ap (λ (key : StreamPlace). insert_entry place_cmp rows key []) copy in
    λ none. absurd (put_there rows to [] (rw (← there) none))

pub returns : goal.returns
returns c =
    let to : StreamPlace = c.args.to in
    let rows : Moves = c.reserve.new.self.rows in
    let copy : c.in_ok-clone.field-0 ≡ to = search rules in
    let there : c.take_moved-messages.new.moves.rows ≡ insert_entry place_cmp rows to [] =
    c.take_moved-messages.ensures.rows ∙ ap (λ (key : StreamPlace). insert_entry place_cmp rows key []) copy in
    let messages : c.from_vec.result ≡ unwrap_or (row_at place_cmp rows to) [] ++ c.args.message ∷ [] =
    c.from_vec.ensures ∙ c.in_ok-push.ensures.items
    ∙ ap (λ (l : List MessageId). l ++ c.args.message ∷ []) (c.take_moved-messages.ensures.messages ∙ ap (λ (key : StreamPlace). unwrap_or (row_at place_cmp rows key) []) copy) in
    c.put.ensures.rows
    ∙ ap (λ (l : Moves). insert_entry place_cmp l to c.from_vec.result) there
    ∙ put_twice rows to [] c.from_vec.result
    ∙ ap (λ (l : List MessageId). insert_entry place_cmp rows to l) messages
    ∙ ap (λ (l : Moves). with_move l to c.args.message) c.in_ok-reserve.ensures.rows
