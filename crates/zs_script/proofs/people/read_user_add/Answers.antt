use Rattle.std.proofs.Common.{◌≡◌, ℕ, List, Err, rules}
use Rattle.zs_words.specs.declared.fault.LineFault.TheVariants.{NoMemory}
use Rattle.zs_words.specs.Numbers.{IsRole}
use Rattle.zs_words.specs.Texts.{IsText}
use Rattle.zs_script.proofs.Failing.{word, four_none, four_memory, four_made}
use Rattle.zs_script.proofs.people.read_user_add.Goals as goal

pub returns-then-not-is_text-2 : goal.returns-then-not-is_text-2
returns-then-not-is_text-2 c =
    let none : (text : List ℕ) → IsText (word c.args.words.now 1) text → ⊥ = search rules in
    four_none IsText IsText IsRole IsText _ c.args.words.now c.in-len4.len_at_least c.in-len4.len_below (λ x y z u is_x is_y is_z is_u. none y is_y)

pub returns-then-not-is_text-3 : goal.returns-then-not-is_text-3
returns-then-not-is_text-3 c =
    let none : (text : List ℕ) → IsText (word c.args.words.now 3) text → ⊥ = search rules in
    four_none IsText IsText IsRole IsText _ c.args.words.now c.in-len4.len_at_least c.in-len4.len_below (λ x y z u is_x is_y is_z is_u. none u is_u)

pub returns-in_err-user_add : goal.returns-in_err-user_add
returns-in_err-user_add c =
    let failed : c.from_residual.result ≡ Err NoMemory = search rules in
    let email : (text : List ℕ) × IsText (word c.args.words.now 0) text = search rules in
    let full_name : (text : List ℕ) × IsText (word c.args.words.now 1) text = search rules in
    let role : IsRole (word c.args.words.now 2) c.in-Some.role = search rules in
    let key : (text : List ℕ) × IsText (word c.args.words.now 3) text = search rules in
    rw failed (four_memory IsText IsText IsRole IsText _ c.args.words.now email.0 full_name.0 c.in-Some.role key.0 c.in-len4.len_at_least c.in-len4.len_below email.1 full_name.1 role key.1)

pub returns : goal.returns
returns c =
    let role : IsRole (word c.args.words.now 2) c.in-Some.role = search rules in
    record {
      value = four_made IsText IsText IsRole IsText _ c.args.words.now c.in-Some.role c.in_ok-user_add.field-0 c.in-len4.len_at_least c.in-len4.len_below role c.in_ok-user_add.ensures;
      not_a_step = λ other. absurd (cc);
      no_memory = λ other. absurd (cc);
    }
