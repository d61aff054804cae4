use Rattle.std.proofs.Common.{◌≡◌, ℕ, List, Err, rules}
use Rattle.zr_types.specs.declared.command.StreamRef.{StreamRef}
use Rattle.zs_words.specs.declared.fault.LineFault.TheVariants.{NoMemory}
use Rattle.zs_words.specs.StreamRefs.{IsStreamRef}
use Rattle.zs_words.specs.Texts.{IsText}
use Rattle.zs_script.proofs.Failing.{word, three_none, three_memory}
use Rattle.zs_script.proofs.posts.read_send_stream.Goals as goal

pub returns-then-not-is_text : goal.returns-then-not-is_text
returns-then-not-is_text c =
    let none : (text : List ℕ) → IsText (word c.args.words.now 1) text → ⊥ = search rules in
    three_none IsStreamRef IsText IsText _ c.args.words.now c.in-len3.len_at_least c.in-len3.len_below (λ x y z is_x is_y is_z. none y is_y)

pub returns-then-not-is_text-2 : goal.returns-then-not-is_text-2
returns-then-not-is_text-2 c =
    let none : (text : List ℕ) → IsText (word c.args.words.now 2) text → ⊥ = search rules in
    three_none IsStreamRef IsText IsText _ c.args.words.now c.in-len3.len_at_least c.in-len3.len_below (λ x y z is_x is_y is_z. none z is_z)

pub returns-in_err-send_stream : goal.returns-in_err-send_stream
returns-in_err-send_stream c =
    let failed : c.from_residual.result ≡ Err NoMemory = search rules in
    let to : (stream : StreamRef) × IsStreamRef (word c.args.words.now 0) stream = search rules in
    let topic : (text : List ℕ) × IsText (word c.args.words.now 1) text = search rules in
    let content : (text : List ℕ) × IsText (word c.args.words.now 2) text = search rules in
    rw failed (three_memory IsStreamRef IsText IsText _ c.args.words.now to.0 topic.0 content.0 c.in-len3.len_at_least c.in-len3.len_below to.1 topic.1 content.1)
