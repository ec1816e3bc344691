-- `Collector::with_all` answers the collector with octets put in, one after the other.
-- By whether there are any and there is room: what is stored one by one is what is written at once. Assumes nothing.
use Rattle.std.proofs.Common.{◌≡◌, length, sym, ◌∙◌, arith, rules}
use Rattle.octets.proofs.Choice.{told}
use Rattle.octets.proofs.Over.{fits_told, fits_not_told, put_fits}
use Rattle.profile.specs.declared.Profile.TheVariants.{Ten}
use Rattle.collector.proofs.Collecting.{collected_over, octets_none, octets_after}
use Rattle.collector.proofs.Collector.with_all.Goals as goal

pub returns-then-is_empty : goal.returns-then-is_empty
returns-then-is_empty c = sym (octets_none _ _ (search rules))

pub overflow_cast-next : goal.overflow_cast-next
overflow_cast-next c =
    let h = fits_told _ _ _ (told c.put.ensures.answers c.if-put.true) in
    search (rules, h)

pub overflow_add-next : goal.overflow_add-next
overflow_add-next c =
    let h = fits_told _ _ _ (told c.put.ensures.answers c.if-put.true) in
    search (rules, h)

pub returns-then-put : goal.returns-then-put
returns-then-put c =
    let whole : length c.args.self.octets ≡ 261 = search rules in
    let h = fits_told _ _ _ (told c.put.ensures.answers c.if-put.true) in
    rw (put_fits _ _ _ c.put.ensures h) (sym (octets_after _ _ whole (omega arith)))

pub returns-else-put : goal.returns-else-put
returns-else-put c =
    let whole : length c.args.self.octets ≡ 261 = search rules in
    let h = fits_not_told _ _ _ (told c.put.ensures.answers c.if-put.false) in
    c.overfull.ensures ∙ sym (collected_over Ten _ _ (search rules) (omega arith))
