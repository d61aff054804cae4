use Rattle.std.proofs.Common.{[], ◌∙◌, ap}
use Rattle.std.specs.Option.{unwrap_or}
use Rattle.zr_types.specs.declared.command.Command.TheVariants.{Posts}
use Rattle.zr_realm.specs.Parts.{texts_by_ids}
use Rattle.zr_realm.specs.Stored.{tables_in}
use Rattle.zr_realm.proofs.PostRows.{with_posts}
use Rattle.zr_realm.proofs.tables.RealmTables.change_posts.Goals as goal

pub returns-in-Move : goal.returns-in-Move
returns-in-Move c =
    let texts = c.requires.texts ∙ ap (λ command. texts_by_ids (Posts command) c.args.ids.now) c.in-Move.is in
    rw c.in-Move.is
    (with_posts (tables_in c.args.self.now) _ _ _ _ (c.move_messages.ensures.messages (unwrap_or c.in-Move.topic []) texts)
    (ap (λ table. table.rows) c.move_messages.ensures.receipts))
