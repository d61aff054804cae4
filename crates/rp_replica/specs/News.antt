-- What the body of an answer to a poll brings.
use Rattle.std.specs.Prelude.{ℕ, ℤ, int_le, if◌then◌else◌, List, [], ◌∷◌, Result, Ok, Err}
use Rattle.std.specs.List.{filter_map}
use Rattle.ev_types.specs.declared.event.Event.{Event}
use Rattle.ev_read.specs.declared.item.WireItem.{WireItem}
use Rattle.ev_bodies.specs.Bodies.{Events, events_in, items, queue_gone}
use Rattle.rp_replica.specs.declared.news.News.{News as MadeNews}
use Rattle.rp_replica.specs.Refusing.{Refused, ◌>>=◌, gone, not_rising, or_bad}

-- the events that a client applies, and the last id that it was told
pub record News : Type 0 where
  pub events : List Event
  pub last : ℤ

abbrev pub news_seen : MadeNews → News
news_seen news = record { events = news.events.items; last = news.last }

-- the last id where each is above the one before, and else the first that isn't
abbrev pub rising : ℤ → List WireItem → Result ℤ ℤ
rising last [] = Ok last
rising last (item ∷ later) = if int_le item.id last then Err item.id else rising item.id later

-- the events whose types are known
abbrev pub known : List WireItem → List Event
known all = filter_map (λ item. item.event) all

abbrev pub or_gone : Events → Result (List WireItem) Refused
or_gone (items all) = Ok all
or_gone queue_gone = Err gone

unfoldable pub items_in : List ℕ → Result (List WireItem) Refused
items_in body = or_bad (events_in body) >>= or_gone

abbrev pub news_of : List WireItem → Result ℤ ℤ → Result News Refused
news_of all (Ok last) = Ok (record { events = known all; last = last })
news_of all (Err id) = Err (not_rising id)

-- what a body brings whose ids are above the last one
unfoldable pub news_in : ℤ → List ℕ → Result News Refused
news_in last body = items_in body >>= λ all. news_of all (rising last all)
