use Rattle.std.proofs.Common.{rules, ◌≡◌, ◌≢◌, ◌<◌, [], length, arith, ap, subst, sym, ◌∙◌}
use Rattle.std.proofs.lemmas.List.{length-take-le}
use Rattle.ev_ports.specs.Ports.{IsSpent, Loses}
use Rattle.httparse.specs.Grammar.{HasNoRequest, MayBecomeRequest}
use Rattle.hw_wire.specs.Heads.{kept_of}
use Rattle.hw_wire.specs.declared.reader.Reader.{Reader}
use Rattle.hw_wire.proofs.reader.Reader.read_head.Goals as goal

kept_length : (reader : Reader) → length (kept_of reader) ≡ reader.kept
kept_length reader = length-take-le reader.kept reader.buffer.items (omega (arith, reader.sized, reader.within))

pub returns-else-self-eq0-clause-reads : goal.returns-else-self-eq0-clause-reads
returns-else-self-eq0-clause-reads g c =
    let self = c.fill.new.self in
    let size = kept_length self in
    let ended = c.in-End.ensures.filled in
    let parsed = c.in-Partial.ensures.stands in
    let read = c.loop-spans.invariant.read in
    let same : kept_of self ≡ kept_of c.parse.new.self = ended.0.kept in
    let still = ended.0.still in
    let few : self.kept < 16384 = search (rules, arith) in
    let some : kept_of self ≢ [] = λ e. absurd (omega (arith, size, ap (λ xs. length xs) e, c.if-self-eq0.false)) in
    record {
      more = read.0;
      took = subst (λ left. Loses (g.L.Link.left c.args.link.now) read.0 left) (sym still) read.1;
      bytes = same ∙ c.parse.ensures.kept ∙ read.2;
      ends = (
        some,
        omega (arith, size, few),
        subst IsSpent (sym still) ended.1,
        subst HasNoRequest (sym same) parsed.0,
        subst MayBecomeRequest (sym same) parsed.1,
      );
    }
