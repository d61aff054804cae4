use Rattle.zr_types.specs.declared.command.StreamRef.TheVariants as ref
use Rattle.zs_words.proofs.StreamRefLemmas.{name_refers, refers_by_name, number_tested}
use Rattle.zs_words.proofs.stream_refs.is_stream_ref.Goals as goal

pub returns-in-Some : goal.returns-in-Some
returns-in-Some c = (
  (λ yes. let name = c.is_text.ensures.0 yes in (ref.Name name.0, name_refers _ _ name.0 c.in-Some.ensures name.1)),
  (λ refers. c.is_text.ensures.1 (refers_by_name _ _ c.in-Some.ensures refers)),
)

pub returns-in-None : goal.returns-in-None
returns-in-None c =
    number_tested c.args.word.now c.in-None.ensures c.read_stream.result c.read_stream.ensures _ c.is_some.ensures
