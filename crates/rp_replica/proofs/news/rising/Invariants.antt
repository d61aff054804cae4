use Rattle.std.proofs.Common.{◌≡◌, drop}
use Rattle.rp_replica.specs.News.{rising}
use Rattle.rp_replica.proofs.news.rising.Given as goal

-- what is left rises above the latest as the whole above the last
abbrev pub invariant-loop-item : goal.invariant-loop-item
invariant-loop-item l = record {
  same : rising l.latest (drop l.item-index l.items) ≡ rising l.last l.items;
}
