-- `Window::read` fills the window to the size that is said of what stands in it, and on.
-- The loop's invariant: nothing is read, or the window is filled to the first size said, which was more than stood there. Assumes nothing.
use Rattle.stream.proofs.Filling.{FilledSoFar}
use Rattle.stream.proofs.Window.read.Given as goal

abbrev pub invariant-loop : goal.invariant-loop
invariant-loop g l = FilledSoFar (g.S.Sizes.says l.sizes) l.fn.space l.fn.self l.now l.space
