use Rattle.std.proofs.Common.{◌≡◌, rules, sym, ◌∙◌, true≢false}
use Rattle.ev_base.proofs.QueueTexts.{queue_of_text-read, queue_of_text-unread}
use Rattle.ev_base.specs.QueueIds.{queue_of_bits}
use Rattle.ev_base.proofs.ids.QueueId.from_text.Goals as goal

pub returns-in-Ok : goal.returns-in-Ok
returns-in-Ok c = c.from_uuid.ensures ∙ sym (queue_of_text-read _ _ c.in-Ok.ensures.bytes)

pub returns-in-Err : goal.returns-in-Err
returns-in-Err c =
    let no_bits : c.from_uuid-in-Err.result ≡ queue_of_bits 0 = search rules in
    no_bits ∙ sym (queue_of_text-unread c.args.text.now (λ read. true≢false (sym (c.in-Err.ensures.ok.1 read))))
