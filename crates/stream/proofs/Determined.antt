-- Every contract of this crate that does not depend on the world outside leaves one outcome; and so do those of `filled`, `read`, `out` and
-- `tell`, where they do not.
-- By its one equation, or by the fields that say what is the same. Assumes nothing.
use mathlib.Core.Bool.{true, false}
use denote.RattleType.{RattleType}
use denote.Param.Laws.{Laws}
use mir.Syntax.{Dict}
use mathlib.Core.Path.{◌≡◌, refl}
use Rattle.octets.proofs.Outcome.{OneResult, OneOutcome, OneReading, one_outcome, does_one}
use Rattle.octets.specs.Calls.{fits_at}
use Rattle.stream.specs.Window.{has_in}
use Rattle.stream.proofs.Window.seen.Reads as seen
use Rattle.stream.proofs.Window.taken.Reads as taken
use Rattle.stream.proofs.Window.to_front.Reads as to_front
use Rattle.stream.proofs.Window.filled.Reads as filled
use Rattle.stream.proofs.Texts.tell.Reads as tell
use Rattle.stream.proofs.Input.seen.Reads as input_seen
use Rattle.stream.proofs.Window.read.Reads as read
use Rattle.stream.proofs.Input.take.Reads as take
use Rattle.stream.proofs.Input.read.Reads as input_read
use Rattle.stream.proofs.Output.out.Reads as output_out
use Rattle.stream.proofs.Output.tell.Reads as output_tell
use Rattle.stream.specs.declared.Sizes as sizes

seen_one : OneReading (λ κs r. r.now) seen.Post
seen_one κs a r r' s s' = one_outcome

taken_one : OneResult taken.Post
taken_one κs a r r' s s' = one_outcome

to_front_one : OneOutcome (λ κs s. s.1.0.now) to_front.Post
to_front_one κs a r r' s s' = does_one

-- where so many octets stand in the window already
filled_one : OneOutcome (λ κs s. s.1.1.0.now) (λ κs a r s. (has_in a.1.1.0.now a.0 a.1.1.1.0 ≡ true) × filled.Post κs a r s)
filled_one κs a r r' s s' (enough, e) (_, f) =
    (one_outcome (e.same_window enough) (f.same_window enough), one_outcome (e.unchanged enough) (f.unchanged enough))

-- where a text fits behind those that wait, and others follow
tell_one : OneOutcome (λ κs s. s.1.1.0.now) (λ κs a r s. (fits_at a.1.1.0.now a.0.count a.1.1.1.0.now ≡ true) × (a.1.1.1.1.0 ≡ true) × tell.Post κs a r s)
tell_one κs a r r' s s' (fits, more, e) (_, _, f) =
    (one_outcome ((e.goes_on more).count_behind fits) ((f.goes_on more).count_behind fits), one_outcome e.left_so f.left_so)

-- and where none follows
tell_last_one : OneOutcome (λ κs s. s.1.1.0.now) (λ κs a r s. (a.1.1.1.1.0 ≡ false) × tell.Post κs a r s)
tell_last_one κs a r r' s s' (last, e) (_, f) = (one_outcome (e.ends last) (f.ends last), one_outcome e.left_so f.left_so)

-- of what a program reads
input_seen_one : OneReading (λ κs r. r.now) input_seen.Post
input_seen_one κs a r r' s s' = one_outcome

take_window_one : OneOutcome (λ κs s. s.0.now.window) take.Post
take_window_one κs a r r' s s' e f = (refl, one_outcome e.0 f.0)

take_space_one : OneOutcome (λ κs s. s.0.now.space.now) take.Post
take_space_one κs a r r' s s' e f = (refl, one_outcome e.1 f.1)

-- of reading, where as many octets as are said stand in the window already. Where fewer stand, what comes in is left open, and so is the size
-- that is said, if more than one may be
module _ (S : RattleType) (laws : Laws S) (g : sizes.Ghosts S.Denot) (a : Dict) where
  read_one : OneOutcome (λ κs s. s.1.1.0.now)
      (λ κs x r s. (p : read.Post S laws g a κs x r s) × (has_in x.1.1.0.now x.0 p.0 ≡ true))
  read_one κs x r r' s s' (p, e) (q, f) =
      (one_outcome (p.2.same_window e) (q.2.same_window f), one_outcome (p.2.unchanged e) (q.2.unchanged f))

  input_read_window_one : OneOutcome (λ κs s. s.0.now.window)
      (λ κs x r s. (p : input_read.Post S laws g a κs x r s) × (has_in x.0.now.space.now x.0.now.window p.0 ≡ true))
  input_read_window_one κs x r r' s s' (p, e) (q, f) = (refl, one_outcome (p.2.same_window e) (q.2.same_window f))

  input_read_space_one : OneOutcome (λ κs s. s.0.now.space.now)
      (λ κs x r s. (p : input_read.Post S laws g a κs x r s) × (has_in x.0.now.space.now x.0.now.window p.0 ≡ true))
  input_read_space_one κs x r r' s s' (p, e) (q, f) = (refl, one_outcome (p.2.unchanged e) (q.2.unchanged f))

-- of what a program writes: the block, and that nothing waits. Whether it goes on is the world's answer, but where it has stopped
output_out_block_one : OneOutcome (λ κs s. s.0.now.block.now) output_out.Post
output_out_block_one κs a r r' s s' e f = (refl, one_outcome e.1 f.1)

output_out_count_one : OneOutcome (λ κs s. s.0.now.texts.count) output_out.Post
output_out_count_one κs a r r' s s' e f = (refl, one_outcome e.0.none_waits f.0.none_waits)

output_out_going_one : OneOutcome (λ κs s. s.0.now.texts.going) (λ κs a r s. (a.0.now.texts.going ≡ false) × output_out.Post κs a r s)
output_out_going_one κs a r r' s s' (stopped, e) (_, f) = (refl, one_outcome (e.0.stays_stopped stopped) (f.0.stays_stopped stopped))

-- the block that a text is told to, always; and the texts where it fits behind those that wait, and others follow
output_tell_block_one : OneOutcome (λ κs s. s.0.now.block.now) output_tell.Post
output_tell_block_one κs a r r' s s' e f = (refl, one_outcome e.left_so f.left_so)

output_tell_one : OneOutcome (λ κs s. s.0.now.texts)
    (λ κs a r s. (fits_at a.0.now.block.now a.0.now.texts.count a.1.0.now ≡ true) × (a.1.1.0 ≡ true) × output_tell.Post κs a r s)
output_tell_one κs a r r' s s' (fits, more, e) (_, _, f) =
    (refl, one_outcome ((e.goes_on more).count_behind fits) ((f.goes_on more).count_behind fits))

-- and where none follows
output_tell_last_one : OneOutcome (λ κs s. s.0.now.texts) (λ κs a r s. (a.1.1.0 ≡ false) × output_tell.Post κs a r s)
output_tell_last_one κs a r r' s s' (last, e) (_, f) = (refl, one_outcome (e.ends last) (f.ends last))
