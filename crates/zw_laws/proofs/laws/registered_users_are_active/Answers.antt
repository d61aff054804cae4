use Rattle.zw_laws.proofs.Belonging.{registered_users_are_active}
use Rattle.zw_laws.proofs.laws.registered_users_are_active.Goals as goal

pub returns : goal.returns
returns c = registered_users_are_active
