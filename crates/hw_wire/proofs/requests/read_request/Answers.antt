use Rattle.std.proofs.Common.{◌≡◌, ◌++◌, List, ℕ, Ok, inr, ap, subst, sym, ◌∙◌, append_assoc}
use Rattle.ev_ports.specs.Ports.{Loses-chain}
use Rattle.httparse.specs.Grammar.{RequestHead}
use Rattle.hw_wire.specs.Heads.{kept_of}
use Rattle.hw_wire.specs.Requests.{BeginsWith}
use Rattle.hw_wire.proofs.Begins.{begins_all}
use Rattle.hw_wire.proofs.requests.read_request.Goals as goal

-- what was read behind a head follows it
longer : (old m n kept rest : List ℕ) (head : RequestHead) → kept ≡ old ++ m
    → BeginsWith kept head rest → BeginsWith (old ++ (m ++ n)) head (rest ++ n)
longer old m n kept rest head read begins =
    let cut = sym (append_assoc old m n) ∙ ap (λ t. t ++ n) (sym read) in
    begins_all (old ++ (m ++ n)) kept n rest head cut begins

pub returns-in-Whole-read_body-clause-reads : goal.returns-in-Whole-read_body-clause-reads
returns-in-Whole-read_body-clause-reads g c =
    let first = c.in-Whole.ensures.reads in
    let head = c.in-Ok.ensures in
    let body = c.in-Whole-read_body.ensures.reads in
    let bytes = kept_of c.args.reader.now ++ (first.more ++ body.more) in
    record {
      more = first.more ++ body.more;
      took = Loses-chain _ _ _ _ _ first.took body.took;
      ends = record {
        head = head.head;
        begins = subst (λ rest. BeginsWith bytes head.head rest) body.ends.1
            (longer _ first.more body.more _ _ _ first.bytes head.begins);
        says = head.says;
        announced = head.announced ∙ ap Ok (sym body.ends.0);
      };
    }

pub returns-in-Cut-read_body-clause-reads : goal.returns-in-Cut-read_body-clause-reads
returns-in-Cut-read_body-clause-reads g c =
    let first = c.in-Whole.ensures.reads in
    let head = c.in-Ok.ensures in
    let body = c.in-Cut-read_body.ensures.reads in
    record {
      more = first.more ++ body.more;
      took = Loses-chain _ _ _ _ _ first.took body.took;
      ends = (
        inr (record {
          head = head.head;
          rest = _;
          wanted = c.in-Ok.head.length;
          begins = longer _ first.more body.more _ _ _ first.bytes head.begins;
          announced = head.announced;
          few = body.ends.0;
        }),
        body.ends.1,
      );
    }

pub returns-in-Fault-read_body-clause-reads : goal.returns-in-Fault-read_body-clause-reads
returns-in-Fault-read_body-clause-reads g c =
    let first = c.in-Whole.ensures.reads in
    let body = c.in-Fault-read_body.ensures.reads in
    record {
      more = first.more ++ body.more;
      took = Loses-chain _ _ _ _ _ first.took body.took;
      ends = tt;
    }

pub returns-in-NoMemory-clause-reads : goal.returns-in-NoMemory-clause-reads
returns-in-NoMemory-clause-reads g c =
    let first = c.in-Whole.ensures.reads in
    let body = c.in-NoMemory.ensures.reads in
    record {
      more = first.more ++ body.more;
      took = Loses-chain _ _ _ _ _ first.took body.took;
      ends = tt;
    }
