-- `step` does a call.
-- By what the call is found to be. Assumes nothing.
use Rattle.card.proofs.State.{sent_all}
use Rattle.input.specs.declared.Call.TheVariants as call
use Rattle.driving.specs.Driven.{with_image, with_clock, with_room, with_card, with_profile, why_text, why_step, after_call}
use Rattle.driving.specs.Stepped.{bench_of}
use Rattle.driving.proofs.Stepping.{rest_all, kept_stepped, silent_stepped, call_stepped}
use Rattle.driving.proofs.step.Goals as goal

pub returns-in-End : goal.returns-in-End
unfolding after_call bench_of
returns-in-End c =
    let a = c.args in
    call_stepped _ (bench_of a.held a.image.now a.buffer.now) _ call.End c.judge_call.ensures
    c.in-End.is (kept_stepped _ _ _ _ _ _ c.last.ensures)

pub returns-in-Cut : goal.returns-in-Cut
unfolding after_call bench_of
returns-in-Cut c =
    let a = c.args in
    call_stepped _ (bench_of a.held a.image.now a.buffer.now) _ call.Cut c.judge_call.ensures
    c.in-Cut.is (kept_stepped _ _ _ _ _ _ c.last-in-Cut.ensures)

pub returns-in-Wrong : goal.returns-in-Wrong
unfolding after_call bench_of
returns-in-Wrong c =
    let a = c.args in
    call_stepped _ (bench_of a.held a.image.now a.buffer.now) _ call.Wrong c.judge_call.ensures
    c.in-Wrong.is (kept_stepped _ _ _ _ _ _ c.last-in-Wrong.ensures)

pub returns-in-Image : goal.returns-in-Image
unfolding after_call bench_of with_image
returns-in-Image c =
    let a = c.args in
    call_stepped _ (bench_of a.held a.image.now a.buffer.now) _ call.Image c.judge_call.ensures c.in-Image.is
    (silent_stepped _ _ c.silent.ensures)

pub returns-in-Clock : goal.returns-in-Clock
unfolding after_call bench_of with_clock
returns-in-Clock c =
    let a = c.args in
    call_stepped _ (bench_of a.held a.image.now a.buffer.now) _ call.Clock c.judge_call.ensures c.in-Clock.is
    (silent_stepped _ _ (rw c.clock_at.ensures at c.silent-in-Clock.ensures))

pub returns-in-Room : goal.returns-in-Room
unfolding after_call bench_of with_room
returns-in-Room c =
    let a = c.args in
    call_stepped _ (bench_of a.held a.image.now a.buffer.now) _ call.Room c.judge_call.ensures c.in-Room.is
    (silent_stepped _ _ (rw c.length_of_2.ensures at c.silent-in-Room.ensures))

pub returns-in-Octets : goal.returns-in-Octets
unfolding after_call bench_of with_card
returns-in-Octets c =
    let a = c.args in
    call_stepped _ (bench_of a.held a.image.now a.buffer.now) _ call.Octets c.judge_call.ensures c.in-Octets.is
    (silent_stepped _ _ (rw (c.octet_by_octet.ensures, c.part.ensures, rest_all, ← sent_all a.held.profile) at c.silent-in-Octets.ensures))

pub returns-in-ElevenBits : goal.returns-in-ElevenBits
unfolding after_call bench_of with_card with_profile
returns-in-ElevenBits c =
    let a = c.args in
    call_stepped _ (bench_of a.held a.image.now a.buffer.now) _ call.ElevenBits c.judge_call.ensures c.in-ElevenBits.is
    (silent_stepped _ _ (rw c.power_on.ensures at c.silent-in-ElevenBits.ensures))

pub returns-in-Characters : goal.returns-in-Characters
unfolding after_call bench_of with_card
returns-in-Characters c =
    let a = c.args in
    call_stepped _ (bench_of a.held a.image.now a.buffer.now) _ call.Characters c.judge_call.ensures c.in-Characters.is
    (silent_stepped _ _ (rw (c.pair_by_pair.ensures, c.part-in-Characters.ensures, rest_all) at c.silent-in-Characters.ensures))

pub returns-in-Gap : goal.returns-in-Gap
unfolding after_call bench_of
returns-in-Gap c =
    let a = c.args in
    call_stepped _ (bench_of a.held a.image.now a.buffer.now) _ call.Gap c.judge_call.ensures
    c.in-Gap.is c.gap.ensures

pub returns-in-Why : goal.returns-in-Why
unfolding after_call bench_of why_text why_step
returns-in-Why c =
    let a = c.args in
    call_stepped _ (bench_of a.held a.image.now a.buffer.now) _ call.Why c.judge_call.ensures
    c.in-Why.is (kept_stepped _ _ _ _ _ _ (rw (c.part-in-Why.ensures, rest_all) at c.asked.ensures))
