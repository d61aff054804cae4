use Rattle.std.proofs.Common.{◌∙◌}
use Rattle.zr_realm.specs.Parts.{users_of}
use Rattle.zr_realm.specs.Stored.{tables_in}
use Rattle.zr_realm.proofs.PostRows.{merged_in_turn, receipts_sorted, with_posts}
use Rattle.zr_realm.proofs.tables.RealmTables.send.Goals as goal

pub put_message-requires-clause-sorted : goal.put_message-requires-clause-sorted
put_message-requires-clause-sorted c = receipts_sorted _ c.args.author.actor c.args.ids.now c.requires.receivers

pub returns : goal.returns
returns c = with_posts (tables_in c.args.self.now) _ _ _ _ c.put_message.ensures.messages
    (c.put_message.ensures.receipts ∙ merged_in_turn _ c.args.author.actor c.args.self.now.posts.receipts.rows (users_of c.args.ids.now))
