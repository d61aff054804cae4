use Rattle.std.proofs.Common.{◌≡◌, List, ℕ, subst, sym, None, Some}
use Rattle.zs_words.specs.Numbers.{IsId, IsQueue, IsUser}
use Rattle.zs_words.proofs.NumberLemmas.{queue_utf8, queue_cut}
use Rattle.zs_words.proofs.numbers.read_queue.Goals as goal

pub returns-in_default : goal.returns-in_default
returns-in_default c = λ queue is. c.in_default.ensures.cases.0 (queue_utf8 c.args.word.now queue is)

pub returns-in_default-split_once : goal.returns-in_default-split_once
returns-in_default-split_once c = λ queue is.
    let P : List ℕ → Type 0 = λ word. IsQueue word queue in
    queue_cut c.in-Ok.text.now None c.in_default-split_once.ensures.cases queue (subst P (sym c.in-Ok.ensures.cases.0) is)

pub returns-in_default-read_user : goal.returns-in_default-read_user
returns-in_default-read_user c = λ queue is.
    let P : List ℕ → Type 0 = λ word. IsQueue word queue in
    let Q : List ℕ → Type 0 = λ word. IsUser word queue.user in
    let cut = queue_cut c.in-Ok.text.now (Some (c.in-Some.user, c.in-Some.number)) c.in-Some.ensures.cases queue (subst P (sym c.in-Ok.ensures.cases.0) is) in
    let same : c.as_bytes.result.now ≡ c.in-Some.user.now = c.as_bytes.ensures.value in
    c.in_default-read_user.ensures queue.user (subst Q (sym same) cut.0)

pub returns-in_default-read_id : goal.returns-in_default-read_id
returns-in_default-read_id c = λ queue is.
    let P : List ℕ → Type 0 = λ word. IsQueue word queue in
    let Q : List ℕ → Type 0 = λ word. IsId word queue.number in
    let cut = queue_cut c.in-Ok.text.now (Some (c.in-Some.user, c.in-Some.number)) c.in-Some.ensures.cases queue (subst P (sym c.in-Ok.ensures.cases.0) is) in
    let same : c.as_bytes-2.result.now ≡ c.in-Some.number.now = c.as_bytes-2.ensures.value in
    c.in_default-read_id.ensures queue.number (subst Q (sym same) cut.1)
