use Rattle.zw_laws.proofs.Belonging.{answered_users_are_active}
use Rattle.zw_laws.proofs.laws.answered_users_are_active.Goals as goal

pub returns : goal.returns
returns c = answered_users_are_active
