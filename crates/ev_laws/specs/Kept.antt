-- The messages that stand in both views, as the comparison of two views holds them.
use Rattle.ev_laws.specs.declared.changing.kept.KeptMessage.{KeptMessage}
use Rattle.ev_types.specs.Changes.{KeptMessage as KeptRow}

-- the rows that the references point to
abbrev pub kept_row : KeptMessage → KeptRow
kept_row kept = (kept.message, (kept.before.now, kept.after.now))
