-- `Window::read` fills the window to the size that is said of what stands in it, and on.
-- Filled once more, it is filled to the first size said. Assumes nothing.
use Rattle.std.proofs.Common.{rules}
use Rattle.stream.proofs.Filling.{filled_on}
use Rattle.stream.proofs.Window.read.Goals as goal

pub returns : goal.returns
returns c = λ c'. filled_on (c.S.Sizes.says c'.args.sizes.now) _ _ _ _ _ _ _ c'.loop.invariant (search rules) c'.filled.ensures
