-- What a reader gives, and readings one after another.
use Rattle.std.specs.Prelude.{◌≡◌, Option, Some, None, Result, Ok, Err}
use Rattle.ev_read.specs.declared.fault.Unread.{Unread}
use Rattle.ev_read.specs.declared.fault.Unread.TheVariants.{NoMemory, Misfit}

infixl 10 ◌>>=◌
abbrev pub ◌>>=◌ : {A B : Type 0} → Option A → (A → Option B) → Option B
(Some x) >>= f = f x
None >>= f = None

-- what a call returned, as it is seen, is what reading gives, unless memory ran out
abbrev pub Reads : {X Y : Type 0} → (X → Y) → Result X Unread → Option Y → Type 0
Reads seen (Ok x) read = read ≡ Some (seen x)
Reads seen (Err NoMemory) read = Unit {0}
Reads seen (Err Misfit) read = read ≡ None

-- what was read, without why not
abbrev pub kept : {A E : Type 0} → Result A E → Option A
kept (Ok a) = Some a
kept (Err e) = None
