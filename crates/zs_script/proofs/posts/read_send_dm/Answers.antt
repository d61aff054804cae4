use Rattle.std.proofs.Common.{◌≡◌, ℕ, List, Err, rules}
use Rattle.ev_base.specs.declared.ids.UserId.{UserId}
use Rattle.zs_words.specs.declared.fault.LineFault.TheVariants.{NoMemory}
use Rattle.zs_words.specs.Lists.{IsIds, IsUsers}
use Rattle.zs_words.specs.Texts.{IsText}
use Rattle.zs_words.proofs.IdLemmas.{users_of_ids}
use Rattle.zs_script.proofs.Failing.{word, two_none, two_memory}
use Rattle.zs_script.proofs.posts.read_send_dm.Goals as goal

pub returns-then-not-is_ids : goal.returns-then-not-is_ids
returns-then-not-is_ids c =
    let none : (ids : List ℕ) → IsIds (word c.args.words.now 0) ids → ⊥ = search rules in
    two_none IsUsers IsText _ c.args.words.now c.in-len2.len_at_least c.in-len2.len_below (λ x y is_x is_y. none _ is_x)

pub returns-then-not-is_text : goal.returns-then-not-is_text
returns-then-not-is_text c =
    let none : (text : List ℕ) → IsText (word c.args.words.now 1) text → ⊥ = search rules in
    two_none IsUsers IsText _ c.args.words.now c.in-len2.len_at_least c.in-len2.len_below (λ x y is_x is_y. none y is_y)

pub returns-in_err-send_dm : goal.returns-in_err-send_dm
returns-in_err-send_dm c =
    let failed : c.from_residual.result ≡ Err NoMemory = search rules in
    let ids : (ids : List ℕ) × IsIds (word c.args.words.now 0) ids = search rules in
    let users : (users : List UserId) × IsUsers (word c.args.words.now 0) users = users_of_ids (word c.args.words.now 0) ids.0 ids.1 in
    let content : (text : List ℕ) × IsText (word c.args.words.now 1) text = search rules in
    rw failed (two_memory IsUsers IsText _ c.args.words.now users.0 content.0 c.in-len2.len_at_least c.in-len2.len_below users.1 content.1)
