-- `row_in` answers the row of a type.
-- The first row that has the type. Assumes nothing.
use Rattle.std.proofs.Common.{rules, tests}
use Rattle.std.proofs.lemmas.Iterator.{YieldsList-from_slice}
use Rattle.std.proofs.lemmas.Iterator.Search.{find_from_yields_List}
use Rattle.std.specs.Prelude.{eqb}
use Rattle.message.specs.declared.Row.{Row}
use mathlib.Core.Path.{◌∙◌}
use Rattle.message.proofs.Table.{first_row}
use Rattle.message.proofs.row_in.Goals as goal

pub returns : goal.returns
returns c =
    c.copied.ensures
    ∙ find_from_yields_List (λ (w : Row). eqb w.type_id c.args.type_id) _ _ c.find.result c.find.ensures.ran (YieldsList-from_slice c.args.rows.now cc) (λ x b q k. search (rules, tests))
    ∙ first_row c.args.rows.now c.args.type_id
