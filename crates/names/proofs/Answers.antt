-- Number and values determine what a check answers and what is shown.
-- Each can be read back. Assumes nothing.
use Prim.Native.Nat.{ℕ}
use mathlib.Core.List.{List}
use mathlib.Core.Path.{◌≡◌, refl}
use lib.Dec.{eqb}
use lib.ListN.{length, get_or}
use Rattle.std.specs.Prelude.{Some, None, Ok, Err}
use Rattle.octets.specs.Answer.{Answer}
use Rattle.octets.specs.Choice.{when◌then◌else◌}
use Rattle.octets.proofs.Outcome.{determined}
use Rattle.names.specs.declared.Fault.{Fault}
use Rattle.names.specs.declared.Fault.TheVariants.{Version, Cut, Name, Order}
use Rattle.names.specs.declared.Which.{Which}
use Rattle.names.specs.declared.Which.TheVariants as which
use Rattle.names.specs.Book.{Checked, Sound, Refused}
use Rattle.names.specs.LookUp.{Shown}
use Rattle.names.specs.LookUp as shows
use Rattle.names.specs.Answers.{checked_says, shown_says}

fault_back : ℕ → Fault
fault_back n = when eqb n 1 then Version else when eqb n 2 then Cut else when eqb n 3 then Name else Order

-- of a check: a refusal has an entry
checked_back : Answer → Checked
checked_back a = when eqb (length a.values) 0 then Sound else Refused (fault_back a.number) (get_or a.values 0 0)

refusal_known : (fault : Fault) (entry : ℕ) → checked_back (checked_says (Refused fault entry)) ≡ Refused fault entry
unfolding checked_back checked_says fault_back
refusal_known Version entry = refl
refusal_known Cut entry = refl
refusal_known Name entry = refl
refusal_known Order entry = refl

checked-known : (v : Checked) → checked_back (checked_says v) ≡ v
unfolding checked_back checked_says
checked-known (Ok sound) = refl
checked-known (Err why) = refusal_known why.fault why.entry

pub checked-determined : {v w : Checked} → checked_says v ≡ checked_says w → v ≡ w
checked-determined = determined checked_says checked_back checked-known

-- of what is shown
book_back : ℕ → Which
book_back n = when eqb n 1 then which.Chosen else which.Italian

named_back : List ℕ → Shown
named_back values =
    when eqb (length values) 0 then shows.Nothing else Ok (Some (record { book = book_back (get_or values 0 0); entry = get_or values 1 0 }))

shown_back : Answer → Shown
shown_back a = when eqb a.number 0 then named_back a.values else shows.Refused (book_back (get_or a.values 0 0)) (fault_back a.number) (get_or a.values 1 0)

refused_known : (book : Which) (fault : Fault) (entry : ℕ) → shown_back (shown_says (shows.Refused book fault entry)) ≡ shows.Refused book fault entry
unfolding shown_back book_back fault_back shown_says
refused_known which.Chosen Version entry = refl
refused_known which.Chosen Cut entry = refl
refused_known which.Chosen Name entry = refl
refused_known which.Chosen Order entry = refl
refused_known which.Italian Version entry = refl
refused_known which.Italian Cut entry = refl
refused_known which.Italian Name entry = refl
refused_known which.Italian Order entry = refl

named_known : (book : Which) (entry : ℕ) → let s : Shown = Ok (Some (record { book = book; entry = entry })) in shown_back (shown_says s) ≡ s
unfolding shown_back named_back book_back shown_says
named_known which.Chosen entry = refl
named_known which.Italian entry = refl

shown-known : (s : Shown) → shown_back (shown_says s) ≡ s
unfolding shown_back named_back shown_says
shown-known (Ok (Some n)) = named_known n.book n.entry
shown-known (Ok None) = refl
shown-known (Err r) = refused_known r.book r.why.fault r.why.entry

pub shown-determined : {s t : Shown} → shown_says s ≡ shown_says t → s ≡ t
shown-determined = determined shown_says shown_back shown-known
