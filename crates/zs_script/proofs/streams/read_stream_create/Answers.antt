use Rattle.std.proofs.Common.{◌≡◌, ℕ, List, Err, rules}
use Rattle.zs_words.specs.declared.fault.LineFault.TheVariants.{NoMemory}
use Rattle.zs_words.specs.Names.{IsPrivacy}
use Rattle.zs_words.specs.Texts.{IsText}
use Rattle.zs_script.proofs.Failing.{word, three_none, three_memory}
use Rattle.zs_script.proofs.streams.read_stream_create.Goals as goal

pub returns-then-not-is_text-2 : goal.returns-then-not-is_text-2
returns-then-not-is_text-2 c =
    let none : (text : List ℕ) → IsText (word c.args.words.now 1) text → ⊥ = search rules in
    three_none IsText IsText IsPrivacy _ c.args.words.now c.in-len3.len_at_least c.in-len3.len_below (λ x y z is_x is_y is_z. none y is_y)

pub returns-in_err-stream_create : goal.returns-in_err-stream_create
returns-in_err-stream_create c =
    let failed : c.from_residual.result ≡ Err NoMemory = search rules in
    let name : (text : List ℕ) × IsText (word c.args.words.now 0) text = search rules in
    let description : (text : List ℕ) × IsText (word c.args.words.now 1) text = search rules in
    let privacy : IsPrivacy (word c.args.words.now 2) c.in-Some.privacy = search rules in
    rw failed (three_memory IsText IsText IsPrivacy _ c.args.words.now name.0 description.0 c.in-Some.privacy c.in-len3.len_at_least c.in-len3.len_below name.1 description.1 privacy)
