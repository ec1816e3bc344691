-- `lay` writes a whole line or leaves the buffer.
-- By whether there is room for it. Assumes nothing.
use Rattle.printing.proofs.Lines.{room_whole, lined_whole, lined_none}
use Rattle.printing.proofs.lay.Goals as goal

pub put_line-requires : goal.put_line-requires
put_line-requires c =
    let a = c.args in
    room_whole a.out.now a.head.now a.before.now a.octets.now c.fits.ensures c.if-fits.true

pub returns-then-fits : goal.returns-then-fits
returns-then-fits c = lined_whole _ _ c.put_line.ensures

pub returns-else-fits : goal.returns-else-fits
returns-else-fits c =
    let a = c.args in
    lined_none a.out.now a.head.now a.before.now a.octets.now c.fits.ensures c.if-fits.false
