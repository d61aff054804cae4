use Rattle.std.proofs.Common.{◌≡◌, true, false, Err, sym, ◌∙◌, rules, tests}
use Rattle.std.proofs.lemmas.Bool.{false≢true}
use Rattle.ev_types.specs.declared.kind.Types.TheVariants as types
use Rattle.zs_words.specs.declared.fault.LineFault.TheVariants.{NoMemory}
use Rattle.zs_script.specs.Readings.{asked_for}
use Rattle.zs_script.proofs.StepAnswers.{asking_out_of_memory, asking_spelled, no_asking}
use Rattle.zs_script.proofs.queues.read_asked.Goals as goal

pub returns-in_default-read_user : goal.returns-in_default-read_user
returns-in_default-read_user c =
    no_asking asked_for c.args.words.now c.in-len3.len_at_least c.in-len3.len_below (λ user sent asked is typed fetched. c.in_default-read_user.ensures user is)

pub returns-then-not-is_types : goal.returns-then-not-is_types
returns-then-not-is_types c =
    let no : c.is_types.result ≡ false = search (rules, tests) in
    no_asking asked_for c.args.words.now c.in-len3.len_at_least c.in-len3.len_below
    (λ user sent asked is typed fetched. false≢true (sym no ∙ c.is_types.ensures.1 (sent, typed)))

pub returns-then-not-is_fetch : goal.returns-then-not-is_fetch
returns-then-not-is_fetch c =
    let no : c.is_fetch.result ≡ false = search (rules, tests) in
    no_asking asked_for c.args.words.now c.in-len3.len_at_least c.in-len3.len_below
    (λ user sent asked is typed fetched. false≢true (sym no ∙ (c.is_fetch.ensures sent).1 (asked, fetched)))

pub asked_of-requires-clause-is_types : goal.asked_of-requires-clause-is_types
asked_of-requires-clause-is_types c =
    let yes : c.is_types.result ≡ true = search (rules, tests) in
    c.is_types.ensures.0 yes

pub asked_of-requires-clause-is_fetch : goal.asked_of-requires-clause-is_fetch
asked_of-requires-clause-is_fetch c =
    let yes : c.is_fetch.result ≡ true = search (rules, tests) in
    (c.is_fetch.ensures types.All).0 yes

pub returns-in_err-asked_of : goal.returns-in_err-asked_of
returns-in_err-asked_of c =
    let failed : c.from_residual.result ≡ Err NoMemory = search rules in
    let typed : c.is_types.result ≡ true = search (rules, tests) in
    let fetched : c.is_fetch.result ≡ true = search (rules, tests) in
    rw failed (asking_out_of_memory asked_for c.args.words.now c.in-Some.user c.in-len3.len_at_least c.in-len3.len_below c.in-Some.ensures (c.is_types.ensures.0 typed) (λ sent. (c.is_fetch.ensures sent).0 fetched))

pub returns : goal.returns
returns c =
    asking_spelled asked_for c.args.words.now c.in-Some.user c.in_ok-asked_of.field-0 c.in-len3.len_at_least c.in-len3.len_below c.in-Some.ensures c.in_ok-asked_of.ensures
