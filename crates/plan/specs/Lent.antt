-- The lists as they lie behind the references that are lent.
use Rattle.std.specs.Prelude.{◌≡◌, length}
use Rattle.plan.specs.declared.lists.RelayLists.{RelayLists}
use Rattle.plan.specs.declared.lists.LinkLists.{LinkLists}
use Rattle.plan.specs.Plan.{RelayEntries, LinkEntries}

-- what the lists hold
abbrev pub relays_in : RelayLists → RelayEntries
relays_in r = record { names = r.names.now; colours = r.colours.now }

abbrev pub links_in : {C : Type 0} → LinkLists C → LinkEntries C
links_in l = record { ends = l.ends.now; costs = l.costs.now }

-- The same lists are lent, and each keeps its length: so whoever lent them knows what they hold
-- in the end.
pub record SameRelays (old new : RelayLists) : Type 0 where
  pub names : new.names.ghost_name ≡ old.names.ghost_name
  pub colours : new.colours.ghost_name ≡ old.colours.ghost_name
  pub names_long : length new.names.now ≡ length old.names.now
  pub colours_long : length new.colours.now ≡ length old.colours.now

pub record SameLinks {C : Type 0} (old new : LinkLists C) : Type 0 where
  pub ends : new.ends.ghost_name ≡ old.ends.ghost_name
  pub costs : new.costs.ghost_name ≡ old.costs.ghost_name
  pub ends_long : length new.ends.now ≡ length old.ends.now
  pub costs_long : length new.costs.now ≡ length old.costs.now
