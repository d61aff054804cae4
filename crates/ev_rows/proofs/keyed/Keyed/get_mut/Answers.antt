use Rattle.std.proofs.Common.{refl, sym}
use Rattle.ev_rows.proofs.PlaceLemmas.{lookup-gap}
use Rattle.ev_rows.proofs.keyed.Keyed.get_mut.Goals as goal

-- no row has the key
pub returns-in-Err : goal.returns-in-Err
returns-in-Err g c =
    (refl, record { writes_back = tt; value = sym (lookup-gap g.met.K.Ord.total _ _ _ c.in-Err.ensures.rise c.in-Err.ensures.place) })
