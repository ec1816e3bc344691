-- Document 01's rules hold of our card.
-- Each is proved in the file of its part: `RulesLink`, `RulesCarried`; the table's rows and the choice of readings in `RulesWaiting`. Assumes nothing.
use Rattle.tender.specs.Card.{our_gap}
use Rattle.tender.specs.Rules.{Rules}
use Rattle.tender.proofs.RulesLink.{reset_closes, status_keeps, unreset_refused, equal_repeats, new_afresh, new_data, new_collection}
use Rattle.tender.proofs.RulesCarried.{orders_only_so, sessions_only_so, refused_183}

pub rules : Rules our_gap
rules =
    record {
      resets = reset_closes;
      keeps_at_status = status_keeps;
      refuses_unreset = unreset_refused;
      repeats = equal_repeats;
      notes = new_afresh;
      takes_data = new_data;
      collects = new_collection;
      orders = orders_only_so;
      sessions = sessions_only_so;
      keeps_refused = refused_183;
    }
