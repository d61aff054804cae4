use Rattle.std.proofs.Common.{rules, ◌≡◌, ◌<◌, ◌++◌, [], length, arith, ap, subst, sym, ◌∙◌, append-nil, append_assoc, refl}
use Rattle.ev_ports.specs.Ports.{IsSpent, Loses, Loses-nothing, Loses-chain}
use Rattle.hw_wire.specs.Heads.{kept_of}
use Rattle.hw_wire.proofs.ShortBodies.{short}
use Rattle.hw_wire.proofs.bodies.read_body.Goals as goal

pub body-init : goal.body-init
body-init g c =
    let moves = c.in-Ok.ensures in
    record {
      read = (
        [],
        Loses-nothing _,
        moves.all ∙ ap (λ xs. xs ++ kept_of c.args.reader.now) c.new-body.ensures.items
            ∙ sym (append-nil _),
      );
      within = moves.within;
      done = moves.done;
      held = refl;
      count = omega arith;
    }

pub returns-in-End-clause-reads : goal.returns-in-End-clause-reads
returns-in-End-clause-reads g c =
    let inv = c.body.invariant in
    let stays = c.in-End.ensures.filled in
    let few : length c.body.body.items < c.args.wanted = search (rules, arith) in
    record {
      more = inv.read.0;
      took = subst (λ left. Loses (g.L.Link.left c.args.link.now) inv.read.0 left)
          (sym stays.0.still) inv.read.1;
      ends = (short c.args.wanted _ _ _ inv.read.2 few inv.done, subst IsSpent (sym stays.0.still) stays.1);
    }

pub returns-in-Failed-clause-reads : goal.returns-in-Failed-clause-reads
returns-in-Failed-clause-reads g c =
    let inv = c.body.invariant in
    let stays = c.in-Failed.ensures.filled in
    let few : length c.body.body.items < c.args.wanted = search (rules, arith) in
    record {
      more = inv.read.0;
      took = subst (λ left. Loses (g.L.Link.left c.args.link.now) inv.read.0 left)
          (sym stays.still) inv.read.1;
      ends = short c.args.wanted _ _ _ inv.read.2 few inv.done;
    }

pub returns-in_default-take_kept-clause-reads : goal.returns-in_default-take_kept-clause-reads
returns-in_default-take_kept-clause-reads g c =
    let inv = c.body.invariant in
    let grows = c.in-Bytes.ensures.filled in
    record {
      more = inv.read.0 ++ grows.bytes;
      took = Loses-chain _ _ _ _ _ inv.read.1 grows.took;
      ends = tt;
    }

pub returns-clause-reads : goal.returns-clause-reads
returns-clause-reads g c =
    let inv = c.body.invariant in
    let all : length c.body.body.items ≡ c.args.wanted = search (rules, arith) in
    record { more = inv.read.0; took = inv.read.1; ends = (all, sym inv.read.2) }

pub body-preserved : goal.body-preserved
body-preserved g c =
    let inv = c.body.invariant in
    let grows = c.in-Bytes.ensures.filled in
    let moves = c.in-Ok-take_kept.ensures in
    let had = c.body.body.items in
    record {
      read = (
        inv.read.0 ++ grows.bytes,
        Loses-chain _ _ _ _ _ inv.read.1 grows.took,
        moves.all ∙ ap (λ kept. had ++ kept) grows.kept ∙ sym (append_assoc had _ grows.bytes)
            ∙ ap (λ front. front ++ grows.bytes) inv.read.2 ∙ append_assoc _ inv.read.0 grows.bytes,
      );
      within = moves.within;
      done = moves.done;
      held = c.fill.ensures.held ∙ inv.held;
      count = omega (arith, inv.count, c.fill.ensures.count);
    }
