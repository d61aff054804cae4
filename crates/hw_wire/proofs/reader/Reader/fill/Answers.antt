use Rattle.std.proofs.Common.{◌≡◌, ◌≤◌, length, take, ◌+◌, ◌++◌, ap, ◌∙◌, sym, arith}
use Rattle.std.proofs.lemmas.List.{length-take-le}
use Rattle.hw_wire.proofs.Buffers.{filled}
use Rattle.hw_wire.proofs.reader.Reader.fill.Goals as goal

pub returns-in-Bytes-clause-filled : goal.returns-in-Bytes-clause-filled
returns-in-Bytes-clause-filled g c =
    let into = c.read-took.new.into in
    let count = c.in-Bytes.count in
    let taken = c.in-Bytes.ensures.taken in
    let size : length (take count into) ≡ count = length-take-le count into taken.1 in
    record {
      bytes = take count into;
      some = omega (arith, taken.0);
      took = taken.2;
      kept =
          let old = c.args.self.now in
          let buffer = c.deref_mut.result.now in
          let same = c.deref_mut.ensures.value in
          let sized : length buffer ≡ 16384 = ap (λ xs. length xs) same ∙ old.sized in
          let capacity : old.buffer.len ≡ 16384 = old.buffer.ok.0 ∙ old.sized in
          let kept = c.read-took.auto.into in
          let within : old.kept ≤ length buffer = omega arith in
          let fits : old.kept + count ≤ old.buffer.len = omega arith in
          filled buffer into _ _ old.kept count old.buffer.len within taken.1 fits
          ∙ ap (λ t. take old.kept t ++ take count into) same;
      count = ap (λ n. c.args.self.now.kept + n) (sym size);
    }
