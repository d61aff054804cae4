-- What a check accepted is committed.
use Rattle.std.proofs.Common.{subst}
use Rattle.zr_types.specs.Checks.{IsChangeOf}
use Rattle.zw_realm.specs.CoreStates.{CoreState}
use Rattle.zw_realm.proofs.realm_core.RealmCore.commit.Goals as goal

pub commit_checked-requires : goal.commit_checked-requires
commit_checked-requires c =
    (c.args.command, subst (λ (core : CoreState). IsChangeOf core.realm c.args.command c.in-Ok.change) c.self.view_is c.in-Ok.ensures.accepted.is_change)
