-- `reading_at` answers the message of the reading at a place, with the objects that are asked for.
-- The loop's invariant: those before the next one stand behind the header. Assumes nothing.
use Prim.Native.Nat.{◌+◌}
use mathlib.Core.Path.{◌≡◌}
use borrow.Author.Rules.{rules}
use Rattle.message.specs.Requests.{objects_many}
use Rattle.message.proofs.Requests.{offered_so}
use Rattle.data.specs.Messages.{reply_header, reading_reply}
use Rattle.data.proofs.Messages.{header_length}
use Rattle.data.proofs.Written.{no_object_yet, with_object, with_label, label_of_key}
use Rattle.data.proofs.reading_at.Goals as goal

pub overflow_sub-many : goal.overflow_sub-many
overflow_sub-many c =
    let o = offered_so _ c.requires.objects_value in
    search rules

pub overflow_add-many : goal.overflow_add-many
overflow_add-many c =
    let o = offered_so _ c.requires.objects_value in
    search rules

pub overflow_add-object-end : goal.overflow_add-object-end
overflow_add-object-end c =
    let o = offered_so _ c.requires.objects_value in
    search rules

pub loop-object-init : goal.loop-object-init
loop-object-init c =
    let o = offered_so _ c.requires.objects_value in
    (o, search rules, search rules, λ xs six e. no_object_yet _ o xs _ six e)

pub loop-object-preserved : goal.loop-object-preserved
loop-object-preserved c =
    let l = c.loop-object in
    let o = l.invariant.0 in
    (o, search rules, search rules, λ xs six e. with_object _ o xs _ six _ l.invariant.1 (search rules) (l.invariant.3 xs six e) c.with-message.ensures c.object_octets.ensures)

pub returns : goal.returns
unfolding reading_reply objects_many
returns c =
    let l = c.loop-object in
    let a = c.args in
    let o = l.invariant.0 in
    let header = reply_header a.type_id (objects_many a.objects) a.span.point a.span.record_address in
    let six = header_length a.type_id (objects_many a.objects) a.span.point a.span.record_address in
    let behind : l.object ≡ a.objects.last + 1 = search rules in
    with_label _ o header _ six _ behind (l.invariant.3 header six c.headed-message.ensures) c.with.ensures
    (label_of_key _ _ c.requires.at_value c.key_at.ensures c.octets.ensures)
