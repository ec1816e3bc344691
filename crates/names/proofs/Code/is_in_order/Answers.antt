-- `Code::is_in_order` answers whether a code may stand behind another.
-- The order that is derived is that of the definition. Assumes nothing.
use Rattle.std.proofs.Common.{ℕ, Bool, ◌≡◌, ◌∙◌, arith, rules}
use Rattle.std.specs.Ordering.{partial_lt}
use borrow.Author.Tests.{ne_eqb}
use Rattle.octets.proofs.Choice.{tests}
use Rattle.names.specs.contracts.CodePartialOrd.TheImpl as CodePartialOrd
use Rattle.names.specs.declared.Code.{Code}
use Rattle.names.specs.Codes.{rises_to}
use Rattle.names.specs.Book.{in_order}
use Rattle.names.proofs.Code.is_in_order.Goals as goal

lt_rises : (a b : Code) → partial_lt CodePartialOrd.partial_cmp-value.it a b ≡ rises_to a b
unfolding rises_to
lt_rises a b = grind arith

lt_in_order : (number : ℕ) (before own : Code) (lt : Bool) → (number ≡ 1 → ⊥) → lt ≡ partial_lt CodePartialOrd.partial_cmp-value.it before own → lt ≡ in_order number before own
unfolding in_order
lt_in_order number before own lt n e = e ∙ rw (ne_eqb number 1 n) (lt_rises before own)

pub returns-then-number-eq1 : goal.returns-then-number-eq1
unfolding in_order
returns-then-number-eq1 c = search tests

pub returns-else-number-eq1 : goal.returns-else-number-eq1
returns-else-number-eq1 c = search (rules, lt_in_order)
