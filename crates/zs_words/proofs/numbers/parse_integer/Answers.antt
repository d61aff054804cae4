use Rattle.std.proofs.Common.{sym, ◌∙◌, lit<}
use Rattle.std.proofs.lemmas.Bool.{false≢true}
use Rattle.std.proofs.lemmas.Str.Pattern.{starts_char}
use Rattle.zs_words.proofs.NumberLemmas.{plus_is_no_integer, integer_read}
use Rattle.zs_words.proofs.numbers.parse_integer.Goals as goal

pub returns-then-starts_with : goal.returns-then-starts_with
returns-then-starts_with c =
    let starts = starts_char 43 c.args.word.now c.starts_with.result c.starts_with.ensures.cases (lit< tt) (lit< tt) in
    λ integer is. plus_is_no_integer c.args.word.now (starts.0 c.if-starts_with.true) integer is.0

pub returns : goal.returns
returns c =
    let starts = starts_char 43 c.args.word.now c.starts_with.result c.starts_with.ensures.cases (lit< tt) (lit< tt) in
    rw c.ok.ensures.value
    (integer_read c.args.word.now c.parse.result c.parse.ensures.value.0 (λ plus. false≢true (sym c.if-starts_with.false ∙ starts.1 plus)))
