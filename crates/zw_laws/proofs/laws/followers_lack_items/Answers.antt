use Rattle.zw_laws.proofs.Belonging.{followers_lack_items}
use Rattle.zw_laws.proofs.laws.followers_lack_items.Goals as goal

pub returns : goal.returns
returns c = followers_lack_items
