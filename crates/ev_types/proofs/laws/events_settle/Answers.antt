use Rattle.ev_types.proofs.SectionsSettle.{rise-applied, applied-again}
use Rattle.ev_types.proofs.laws.events_settle.Goals as goal

pub returns : goal.returns
returns c = λ events view rise. (rise-applied events view rise, applied-again events view rise)
