-- What a client holds after the bodies that it is answered.
use Rattle.std.specs.Prelude.{◌≡◌, ℕ, List, [], ◌∷◌, length, Result, Ok, Err}
use Rattle.ev_types.specs.Applying.{applied_where_present}
use Rattle.ev_bodies.specs.Bodies.{register_in}
use Rattle.rp_replica.specs.declared.fault.ReplicaFault.{ReplicaFault}
use Rattle.rp_replica.specs.Held.{Held}
use Rattle.rp_replica.specs.News.{News, news_in}
use Rattle.rp_replica.specs.Refusing.{Refused, Refuses, ◌>>=◌, or_bad}

-- a register body is what a client begins with
unfoldable pub started : List ℕ → Result Held Refused
started body = or_bad (register_in body) >>= λ register. Ok (record { sections = register.sections; last = register.last_event_id })

-- news are applied to the sections that the client has
abbrev pub with_news : Held → News → Held
with_news held news = record { sections = applied_where_present news.events held.sections; last = news.last }

-- what a client holds after one more body, and how many events it applied
unfoldable pub taken : Held → List ℕ → Result (Held × ℕ) Refused
taken held body = news_in held.last body >>= λ news. Ok (with_news held news, length news.events)

-- what a call did. After a refusal all is as before
abbrev pub Takes : Result ℕ ReplicaFault → Held → Held → List ℕ → Type 0
Takes (Ok count) before after body = taken before body ≡ Ok (after, count)
Takes (Err fault) before after body = Refuses fault (taken before body) × (after ≡ before)

-- what a client holds after these bodies of its polls
abbrev pub after_bodies : Held → List (List ℕ) → Result Held Refused
after_bodies held [] = Ok held
after_bodies held (body ∷ later) = taken held body >>= λ next. after_bodies next.0 later
