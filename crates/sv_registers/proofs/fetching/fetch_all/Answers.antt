use Rattle.std.proofs.Common.{◌≡◌, ◌+◌, ◌++◌, ◌∷◌, [], Ok, Some, take, drop, get_or, sym, subst}
use Rattle.ev_types.specs.declared.section.Section.TheVariants.{Realm}
use Rattle.sv_calls.specs.Flows.{Any, Goes}
use Rattle.sv_registers.specs.Fetches.{Fetches, FetchesOne, sections}
use Rattle.sv_registers.proofs.FilledQueues.{fails_so, fetches_lost, fetches_none, fetches_on, fetches_refused, front_and_rest, known_on, part_section, sections_on, split_at, take_more}
use Rattle.sv_registers.proofs.fetching.fetch_all.Goals as goal

pub returns-in_err-part : goal.returns-in_err-part
returns-in_err-part g c =
    let asked = c.args.asked.now in
    let index = c.loop-section.section-index in
    let parts = c.loop-section.parts.items in
    let order = front_and_rest asked index parts (get_or asked index Realm) (drop (index + 1) asked) c.loop-section.invariant.1 (split_at asked index Realm c.loop-section-test.true) in
    fails_so _ _ c.args.user asked c.from_residual.result c.from_residual.ensures.0
    (λ other. fetches_none _ _ _ c.args.user asked parts (get_or asked index Realm) (drop (index + 1) asked) _ other order c.loop-section.invariant.2 c.in_err-part.ensures)

pub returns-in_default : goal.returns-in_default
returns-in_default g c =
    let asked = c.args.asked.now in
    let index = c.loop-section.section-index in
    let parts = c.loop-section.parts.items in
    let order = front_and_rest asked index parts (get_or asked index Realm) (drop (index + 1) asked) c.loop-section.invariant.1 (split_at asked index Realm c.loop-section-test.true) in
    fetches_refused _ _ _ c.args.user asked parts (get_or asked index Realm) (drop (index + 1) asked) order c.loop-section.invariant.2
    (subst (λ found. Goes (g.B.Backend.represents c.args.backend.now c.loop-section.pass) Any (FetchesOne c.args.user (get_or asked index Realm) (Ok found)) (g.B.Backend.represents c.args.backend.now c.fetch_one.new.pass)) c.in_default.is c.in_ok-part.ensures)

pub returns-in_err-push : goal.returns-in_err-push
returns-in_err-push g c =
    let asked = c.args.asked.now in
    let index = c.loop-section.section-index in
    let parts = c.loop-section.parts.items in
    let order = front_and_rest asked index parts (get_or asked index Realm) (drop (index + 1) asked) c.loop-section.invariant.1 (split_at asked index Realm c.loop-section-test.true) in
    fails_so _ _ c.args.user asked c.from_residual-in_err-push.result c.from_residual-in_err-push.ensures.0
    (λ other. fetches_lost _ _ _ c.args.user asked parts (get_or asked index Realm) (drop (index + 1) asked) c.in-Some.part other order c.loop-section.invariant.2
    (subst (λ found. Goes (g.B.Backend.represents c.args.backend.now c.loop-section.pass) Any (FetchesOne c.args.user (get_or asked index Realm) (Ok found)) (g.B.Backend.represents c.args.backend.now c.fetch_one.new.pass)) c.in-Some.is c.in_ok-part.ensures))

pub loop-section-preserved : goal.loop-section-preserved
loop-section-preserved g c =
    let asked = c.args.asked.now in
    let index = c.loop-section.section-index in
    let parts = c.loop-section.parts.items in
    let section = get_or asked index Realm in
    let part = c.in-Some.part in
    let one : Goes (g.B.Backend.represents c.args.backend.now c.loop-section.pass) Any (FetchesOne c.args.user section (Ok (Some part))) (g.B.Backend.represents c.args.backend.now c.fetch_one.new.pass) =
    subst (λ found. Goes (g.B.Backend.represents c.args.backend.now c.loop-section.pass) Any (FetchesOne c.args.user section (Ok found)) (g.B.Backend.represents c.args.backend.now c.fetch_one.new.pass)) c.in-Some.is c.in_ok-part.ensures in
    let more : c.push.new.self.items ≡ parts ++ part ∷ [] = c.in_ok-push.ensures.items in (
      known_on _ _ _ c.loop-section.invariant.0 one,
      subst (λ list. sections list ≡ take (index + 1) asked) (sym more)
          (sections_on asked index parts section part c.loop-section.invariant.1 (take_more asked index Realm c.loop-section-test.true) (part_section _ _ c.args.user section part c.loop-section.invariant.0 one)),
      subst (λ list. Goes (g.B.Backend.represents c.args.backend.now c.args.pass.now) Any (Fetches c.args.user list) (g.B.Backend.represents c.args.backend.now c.fetch_one.new.pass)) (sym more)
          (fetches_on _ _ _ c.args.user parts section part c.loop-section.invariant.2 one),
    )
