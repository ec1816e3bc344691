-- `Window::to_front` moves the octets in the window to the front.
-- As the library moves them. Assumes nothing.
use Rattle.std.proofs.Common.{rules}
use Rattle.stream.proofs.Filling.{moved_to_front}
use Rattle.stream.proofs.Window.to_front.Goals as goal

pub returns : goal.returns
returns c = search (rules, moved_to_front)
