-- What a run is to this card, of a collector: by whether it is overfull, by its mark; from the empty collector on the run alone matters; and what is heard.
-- By the tests of the definition. Assumes nothing.
use Rattle.std.specs.Prelude.{Option, Some, Ok, Err}
use Prim.Native.Nat.{ℕ, ◌≤◌, ◌<◌}
use mathlib.Core.List.{List, []}
use mathlib.Core.Bool.{true, false}
use mathlib.Core.Path.{◌≡◌, ap}
use native.Mathlib.Omega.{arith}
use native.Mathlib.Decide.{ℕ_discrete}
use borrow.Author.Tests.{lt-ltb, le-ltb}
use lib.Dec.{ltb}
use lib.ListN.{length, take, drop}
use Rattle.octets.specs.Choice.{when◌then◌else◌}
use Rattle.octets.specs.declared.Kept.{Kept}
use Rattle.octets.specs.Keeping.{kept_of}
use Rattle.octets.specs.Calls.{added}
use Rattle.octets.proofs.Keeping.{added_more}
use Rattle.frame.specs.declared.Service.{Service}
use Rattle.frame.specs.declared.Fault.{Fault}
use Rattle.frame.specs.declared.Fault.TheVariants.{Empty, Long, Parity}
use Rattle.frame.specs.Family.{sapr}
use Rattle.frame.specs.Frame.{judge}
use Rattle.profile.specs.declared.Profile.{Profile}
use Rattle.profile.specs.Profile.{CharacterIn, judge_in}
use Rattle.profile.proofs.Judging.{unmarked_judged}
use Rattle.collector.specs.declared.Collector.{Collector}
use Rattle.collector.specs.Collecting.{emptied, is_overfull, run_of, verdict_of}
use Rattle.collector.specs.Calls.{collected_all_in}
use Rattle.collector.proofs.Collecting.{empty_verdict, marked_verdict, collected_verdict}
use Rattle.card.specs.declared.NoAnswer.TheVariants.{Faulty}
use Rattle.card.specs.Examining.{heard, examined_verdict, examined}

module _ (image : List ℕ) (c : Collector) where
  pub overfull_examined : 261 < c.length → Err (Faulty Long) ≡ examined c image
  unfolding examined verdict_of is_overfull
  overfull_examined h = rw (lt-ltb 261 c.length h)

  pub run_examined : (run : List ℕ) → c.length ≤ 261 → c.marked ≡ false → run ≡ take c.length (drop 0 c.octets)
      → examined_verdict image (judge sapr run) ≡ examined c image
  unfolding examined verdict_of is_overfull run_of
  run_examined run h unmarked e = rw (le-ltb 261 c.length h, e, unmarked, unmarked_judged sapr (take c.length c.octets))

  pub marked_examined : (fault : Fault) → c.length ≤ 261 → length c.octets ≡ 261 → c.marked ≡ true → fault ≡ (when ltb 0 c.length then Parity else Empty)
      → Err (Faulty fault) ≡ examined c image
  unfolding examined
  marked_examined fault h whole marked e = rw e (by_length (ℕ_discrete c.length 0))
    where
      by_length : Dec (c.length ≡ 0) → Err (Faulty (when ltb 0 c.length then Parity else Empty)) ≡ examined c image
      by_length (yes none) = rw (le-ltb 0 c.length (omega arith), empty_verdict sapr c none)
      by_length (no some) = rw (lt-ltb 0 c.length (omega arith), marked_verdict sapr c (omega arith) h whole marked)

-- of the characters that came in, the run alone matters
pub run_only : (p : Profile) (run : List (CharacterIn p)) (image : List ℕ) → examined (collected_all_in p emptied run) image ≡ examined_verdict image (judge_in p sapr run)
unfolding examined
run_only p run image = ap (examined_verdict image) (collected_verdict p run sapr)

-- a service that is asked for is heard, with all of the user octets
pub heard_so : {asked : Option Service} {service : Service} {kept : Kept} (user : List ℕ) → asked ≡ Some service → length user ≤ 252
    → kept ≡ added (kept_of []) user → Ok (record { service = service; user = kept }) ≡ heard asked user
heard_so user e few k = rw (e, k, added_more [] user (omega arith))
