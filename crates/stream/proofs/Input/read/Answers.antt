-- `Input::read` reads as `Window::read` does.
-- By its contract. Assumes nothing.
use Rattle.std.proofs.Common.{rules}
use Rattle.stream.proofs.Input.read.Goals as goal

pub returns : goal.returns
returns c = search rules
