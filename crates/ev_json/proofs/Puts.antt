-- Members that are put into an object, one by one.
use Rattle.std.proofs.Common.{IsUtf8, ◌≡◌, ◌≤◌, ℕ, suc, max, List, [], ◌∷◌, map, Bool, true, false, Some, bytes_eq, if◌then◌else◌, Ordering, Less, Equal, Greater, refl, sym, ap, ◌∙◌, arith, true≢false}
use Rattle.std.proofs.lemmas.Cmp.{nat_list_cmp_total}
use Rattle.std.proofs.lemmas.Slice.Eq.{bytes_eq-Decides}
use Rattle.json.proofs.Printed.Utf8.{are_ascii, IsUtf8-are_ascii}
use Rattle.std.specs.List.{AllByRecursion}
use Rattle.std.specs.Ordering.{match_ordering, nat_cmp, ordering_reverse}
use Rattle.std.specs.Cmp.Lexicographic.{slice_cmp}
use Rattle.serde_json.specs.Data.{Data, array, object, Members, no_members, member, put, depth, items_depth, members_depth}
use Rattle.serde_json.specs.Find.{get}
use Rattle.serde_json.specs.View.{items_of}
use Rattle.serde_json.proofs.Views.{get_member-put, get_member-put_other}
use Rattle.ev_json.specs.Plain.{IsPlain, ArePlain, IsBelowKeys, KeysRise, MembersArePlain}

-- ---- what is found among members

found : (same : Bool) (name key : List ℕ) (value : Data) (members : Members) → bytes_eq name key ≡ same
    → get name (object (put key value members)) ≡ (if same then Some value else get name (object members))
found true name key value members is =
    let e : name ≡ key = (bytes_eq-Decides name key).0 is in
    rw e (get_member-put key value members)
found false name key value members is =
    get_member-put_other name key value members (λ e. true≢false (sym ((bytes_eq-Decides name key).1 e) ∙ is))

-- a name's value among members with one more
pub get-put : (name key : List ℕ) (value : Data) (members : Members)
    → get name (object (put key value members)) ≡ (if bytes_eq name key then Some value else get name (object members))
get-put name key value members = found (bytes_eq name key) name key value members refl

-- ---- plain members, and one more

plain_at : (o : Ordering) (k l : List ℕ) (d e : Data) (ms rest : Members) → IsUtf8 k × IsPlain d → IsUtf8 l × IsPlain e → MembersArePlain ms → MembersArePlain rest
    → MembersArePlain (match_ordering o (member k d (member l e ms)) (member l d ms) (member l e rest))
plain_at Less k l d e ms rest new old others after = (new, (old, others))
plain_at Equal k l d e ms rest new old others after = ((old.0, new.1), others)
plain_at Greater k l d e ms rest new old others after = (old, after)

plain-put : (k : List ℕ) (d : Data) (ms : Members) → IsUtf8 k × IsPlain d → MembersArePlain ms → MembersArePlain (put k d ms)
plain-put k d no_members new old = (new, tt)
plain-put k d (member l e ms) new old = plain_at (slice_cmp nat_cmp k l) k l d e ms (put k d ms) new old.0 old.1 (plain-put k d ms new old.1)

below_at : (o : Ordering) (key k l : List ℕ) (d e : Data) (ms rest : Members) → slice_cmp nat_cmp key k ≡ Less → slice_cmp nat_cmp key l ≡ Less → IsBelowKeys key ms → IsBelowKeys key rest
    → IsBelowKeys key (match_ordering o (member k d (member l e ms)) (member l d ms) (member l e rest))
below_at Less key k l d e ms rest new old others after = (new, (old, others))
below_at Equal key k l d e ms rest new old others after = (old, others)
below_at Greater key k l d e ms rest new old others after = (old, after)

below-put : (key k : List ℕ) (d : Data) (ms : Members) → slice_cmp nat_cmp key k ≡ Less → IsBelowKeys key ms → IsBelowKeys key (put k d ms)
below-put key k d no_members new old = (new, tt)
below-put key k d (member l e ms) new old = below_at (slice_cmp nat_cmp k l) key k l d e ms (put k d ms) new old.0 old.1 (below-put key k d ms new old.1)

further_below : (key other : List ℕ) (ms : Members) → slice_cmp nat_cmp key other ≡ Less → IsBelowKeys other ms → IsBelowKeys key ms
further_below key other no_members first below = tt
further_below key other (member l e ms) first below = (nat_list_cmp_total.trans key other l first below.0, further_below key other ms first below.1)

rise_at : (o : Ordering) (k l : List ℕ) (d e : Data) (ms : Members) → slice_cmp nat_cmp k l ≡ o → IsBelowKeys l ms → KeysRise ms → KeysRise (put k d ms)
    → KeysRise (match_ordering o (member k d (member l e ms)) (member l d ms) (member l e (put k d ms)))
rise_at Less k l d e ms is below rise after = ((is, further_below k l ms is below), (below, rise))
rise_at Equal k l d e ms is below rise after = (below, rise)
rise_at Greater k l d e ms is below rise after =
    (below-put l k d ms (nat_list_cmp_total.antisymm l k ∙ ap ordering_reverse is) below, after)

rise-put : (k : List ℕ) (d : Data) (ms : Members) → KeysRise ms → KeysRise (put k d ms)
rise-put k d no_members rise = (tt, tt)
rise-put k d (member l e ms) rise = rise_at (slice_cmp nat_cmp k l) k l d e ms refl rise.0 rise.1 (rise-put k d ms rise.1)

depth_at : (o : Ordering) (n : ℕ) (k l : List ℕ) (d e : Data) (ms rest : Members) → depth d ≤ n → depth e ≤ n → members_depth ms ≤ n → members_depth rest ≤ n
    → members_depth (match_ordering o (member k d (member l e ms)) (member l d ms) (member l e rest)) ≤ n
depth_at Less n k l d e ms rest new old others after = omega (arith, new, old, others)
depth_at Equal n k l d e ms rest new old others after = omega (arith, new, others)
depth_at Greater n k l d e ms rest new old others after = omega (arith, old, after)

first_within : (n a b : ℕ) → max a b ≤ n → a ≤ n
first_within n a b h = omega (arith, h)

second_within : (n a b : ℕ) → max a b ≤ n → b ≤ n
second_within n a b h = omega (arith, h)

depth-put : (n : ℕ) (k : List ℕ) (d : Data) (ms : Members) → depth d ≤ n → members_depth ms ≤ n → members_depth (put k d ms) ≤ n
depth-put n k d no_members new old = omega (arith, new)
depth-put n k d (member l e ms) new old =
    let here = first_within n (depth e) (members_depth ms) old in
    let others = second_within n (depth e) (members_depth ms) old in
    depth_at (slice_cmp nat_cmp k l) n k l d e ms (put k d ms) new here others (depth-put n k d ms new others)

-- ---- plain values that don't nest deeper than n

abbrev pub IsPlainWithin : ℕ → Data → Type 0
IsPlainWithin n value = IsPlain value × (depth value ≤ n)

abbrev pub ArePlainWithin : ℕ → Members → Type 0
ArePlainWithin n members = (MembersArePlain members × KeysRise members) × (members_depth members ≤ n)

pub within-none : (n : ℕ) → ArePlainWithin n no_members
within-none n = ((tt, tt), omega arith)

pub within-put : (n : ℕ) (key : List ℕ) (value : Data) (members : Members) → are_ascii key ≡ true → IsPlainWithin n value → ArePlainWithin n members → ArePlainWithin n (put key value members)
within-put n key value members ascii new old =
    ((plain-put key value members (IsUtf8-are_ascii key ascii, new.0) old.0.0, rise-put key value members old.0.1), depth-put n key value members new.1 old.1)

pub within-object : (n : ℕ) (ms : Members) → ArePlainWithin n ms → IsPlainWithin (suc n) (object ms)
within-object n ms plain = (plain.0, omega (arith, plain.1))

items-plain : {X : Type 0} (n : ℕ) (write : X → Data) (xs : List X) → AllByRecursion (λ x. IsPlainWithin n (write x)) xs → ArePlain (items_of (map write xs)) × (items_depth (items_of (map write xs)) ≤ n)
items-plain n write [] each = (tt, omega arith)
items-plain n write (x ∷ xs) each =
    let rest = items-plain n write xs each.1 in
    ((each.0.0, rest.0), omega (arith, each.0.1, rest.1))

pub within-list : {X : Type 0} (n : ℕ) (write : X → Data) (xs : List X) → AllByRecursion (λ x. IsPlainWithin n (write x)) xs → IsPlainWithin (suc n) (array (items_of (map write xs)))
within-list n write xs each = let all = items-plain n write xs each in (all.0, omega (arith, all.1))

pub within-more : (n m : ℕ) (value : Data) → n ≤ m → IsPlainWithin n value → IsPlainWithin m value
within-more n m value more plain = (plain.0, omega (arith, plain.1, more))
