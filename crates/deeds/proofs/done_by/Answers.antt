-- `done_by` answers what is done by a deed.
-- Deed by deed. Assumes nothing.
use Rattle.deeds.proofs.done_by.Goals as goal

pub returns-in-Opens : goal.returns-in-Opens
returns-in-Opens c = rw c.in-Opens.is c.leaving-in-Opens.ensures

pub returns-in-Closes : goal.returns-in-Closes
returns-in-Closes c = rw c.in-Closes.is c.leaving-in-Closes.ensures

pub returns-in-Gives71 : goal.returns-in-Gives71
returns-in-Gives71 c = rw c.in-Gives71.is c.leaving-in-Gives71.ensures

pub returns-in-Gives72 : goal.returns-in-Gives72
returns-in-Gives72 c = rw (c.in-Gives72.is, c.leaving-in-Gives72.ensures)

pub returns-in-Gives131 : goal.returns-in-Gives131
returns-in-Gives131 c = rw c.in-Gives131.is c.leaving-in-Gives131.ensures

pub returns-in-GivesData : goal.returns-in-GivesData
returns-in-GivesData c = rw c.in-GivesData.is c.leaving-in-GivesData.ensures

pub returns-in-SetsDates : goal.returns-in-SetsDates
returns-in-SetsDates c = rw (c.in-SetsDates.is, ← c.dates_octets.ensures) c.ordering-in-SetsDates.ensures
