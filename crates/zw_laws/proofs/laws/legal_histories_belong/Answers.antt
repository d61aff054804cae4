use Rattle.zw_laws.proofs.Belonging.{legal_histories_belong}
use Rattle.zw_laws.proofs.laws.legal_histories_belong.Goals as goal

pub returns : goal.returns
returns c = legal_histories_belong
