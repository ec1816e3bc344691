-- #104, dial-up modems with eleven bits: "each octet comes with an even parity bit, and a bad one spoils its run"; "a sound frame in which one, two or three
-- data or parity bits were altered, the number of characters kept, is never taken for a sound frame"; "new number 10, a parity bit wrong, between 2 and 3,
-- with all effects of 3". Each as a statement over any card; that conditions 1, 2 and 3 hold in both profiles is said by themselves.
-- What a wrong parity bit is stands here a second time, by the papers' numbers of the bits, so that a definition of parity that is wrong with its code is seen.
-- Assumes nothing.
use Rattle.std.specs.Prelude.{ℕ, ◌+◌, ◌%◌, ◌≤◌, ◌<◌, true, false, List, map, ◌⊎◌, ◌≡◌, length, get_or}
use Rattle.octets.specs.Bits.{bits◌to◌of◌}
use Rattle.octets.specs.Choice.{when◌then◌else◌}
use Rattle.history.specs.History.{Stepped, AllFit, AtGaps}
use Rattle.frame.specs.Family.{sapr}
use Rattle.frame.specs.Frame.{Frame, sound}
use Rattle.profile.specs.declared.Character.{Character}
use Rattle.profile.specs.declared.Profile.TheVariants.{Ten, Eleven}
use Rattle.profile.specs.Profile.{judge_in}
use Rattle.profile.specs.Altered.{FewAltered}
use Rattle.collector.specs.Collecting.{emptied}
use Rattle.collector.specs.Damage.{one_more}
use Rattle.deeds.specs.declared.Order.TheVariants.{NoOrder}
use Rattle.card.specs.declared.Card.{Card}
use Rattle.tender.specs.Card.{Loan, Seen, no_time, AnyCard, History, end_of, received, ours}
use Rattle.tender.specs.Condition3.{Fit, Noise, ends_fresh}

-- the ones among the data bits 1 to 8 and the parity bit
abbrev pub data_bit : ℕ → Character → ℕ
data_bit n x = bits n to n of x.octet

abbrev pub nine_ones : Character → ℕ
nine_ones x = data_bit 1 x + data_bit 2 x + data_bit 3 x + data_bit 4 x + data_bit 5 x + data_bit 6 x + data_bit 7 x + data_bit 8 x + (when x.parity then 1 else 0)

-- the parity bit of the character at a place of a run, counted from 0, is wrong
abbrev pub character_at : List Character → ℕ → Character
character_at run place = get_or run place (record { octet = 0; parity = false })

pub record WrongAt (run : List Character) (place : ℕ) : Type 0 where
  pub within : place < length run
  pub odd : nine_ones (character_at run place) % 2 ≡ 1

-- no parity bit of it is wrong
abbrev pub NoneWrong : List Character → Type 0
NoneWrong run = (place : ℕ) → WrongAt run place → ⊥

-- 10, with all effects of 3: no reply, no order, the buffer untouched; damaged, the collector emptied, link and session kept
pub record Spoilt (card : Card) (loan : Loan) (x : Stepped Card Seen) : Type 0 where
  pub number : x.answer.number ≡ 10
  pub no_reply : x.answer.count ≡ 0
  pub no_order : x.answer.order ≡ NoOrder
  pub no_time_law : x.answer.time ≡ no_time
  pub buffer_kept : x.answer.buffer ≡ loan.buffer
  pub emptied_by : x.state.collector ≡ emptied
  pub link_kept : x.state.link ≡ card.link
  pub counted : x.state.damaged ≡ one_more card.damaged

-- after any history that ends directly after a gap, or is at its start, a run is received
pub record ElevenBits (c : AnyCard Eleven) : Type 0 where
  -- a wrong parity bit, wherever it stands in the run, spoils it
  pub spoils : (image clock : List ℕ) (h : History Eleven) (run : List Character) (loan : Loan) (place : ℕ)
      → AllFit (Fit image clock) h → ends_fresh true h ≡ true → Fit image clock loan → length run ≤ 261 → WrongAt run place
      → Spoilt (end_of c h) loan (received c.calls (end_of c h) run loan)
  -- and nothing else does: where none is wrong, and where 1 or 2 comes first, the octets get what they get with ten bits, from the same card
  pub else_as_octets : (image clock : List ℕ) (h : History Eleven) (run : List Character) (loan : Loan)
      → AllFit (Fit image clock) h → ends_fresh true h ≡ true → Fit image clock loan → NoneWrong run ⊎ (261 < length run)
      → received c.calls (end_of c h) run loan ≡ received (ours Ten) (end_of c h) (map (λ (x : Character). x.octet) run) loan

-- the ten-bit profile stays: no history, whatever its gaps are lent, gets a 10
abbrev pub TenStays : AnyCard Ten → Type 0
TenStays c = (h : History Ten) → AtGaps c.calls (λ (card : Card) (loan : Loan). (c.calls.gap card loan).answer.number ≡ 10 → ⊥) c.power_on h

-- a sound frame with one, two or three bits altered is noise: not sound, so by condition 3 never answered
abbrev pub FewBitsNoise : Type 0
FewBitsNoise =
    (run run' : List Character) (f : Frame) → ((i : ℕ) → get_or (map (λ (x : Character). x.octet) run) i 0 < 256) → judge_in Eleven sapr run ≡ sound f
    → FewAltered run run' → Noise Eleven run'
