use Rattle.zw_traces.proofs.RealmTraces.{fetched_view}
use Rattle.zw_laws.proofs.laws.fetched_sections_are_views.Goals as goal

pub returns : goal.returns
returns c = λ realm user part. fetched_view user part realm
