use Rattle.std.proofs.Common.{◌≡◌, ℕ, List, ◌∷◌, rules}
use Rattle.ev_base.specs.declared.ids.StreamId.{StreamId}
use Rattle.zs_words.specs.Numbers.{IsStream}
use Rattle.zs_words.proofs.StreamRefLemmas.{refers_by_number}
use Rattle.zs_words.proofs.stream_refs.stream_ref_of.Goals as goal

pub unreachable-requires : goal.unreachable-requires
unreachable-requires c =
    let other : (rest : List ℕ) → c.args.word.now ≡ 61 ∷ rest → ⊥ = search rules in
    let none : (stream : StreamId) → IsStream c.args.word.now stream → ⊥ = search rules in
    let stream = refers_by_number c.args.word.now other c.requires in
    none stream.0 stream.1
